-- The blocks from p to e, read by their heads; each free one is marked, counted and summed.
use Rattle.std.specs.Prelude.{List, [], ◌∷◌, ℕ, zero, suc, ◌+◌, ◌-◌, ◌*◌, ◌%◌}
use Rattle.words.specs.Choice.{if=, if<}
use Rattle.words.specs.Words.{word_at}
use Rattle.heads.specs.Heads.{flags_at, flags_of, free_flags, held_flags, size_at, size_of}
use Rattle.paper.specs.Layout.{blocks_at, large}
use Rattle.guards.specs.Tests.{Test, same, less, guard}
use Rattle.marks.specs.MarkSets.{MarkSet}

-- 1 for a small size, 0 for a large one; above a free block it is the flag P too
abbrev pub small : ℕ → ℕ
small z = if< z large 1 0

-- how many are marked, the marks, and the sum of their sizes
pub data Scanned (M : Type 0) : Type 0 where
  stray : Scanned M
  seen : ℕ → M → ℕ → Scanned M

module _ {M : Type 0} {A : Type 0} where
  abbrev pub if_seen : Scanned M → A → (ℕ → M → ℕ → A) → A
  if_seen stray bad f = bad
  if_seen (seen n ms sum) bad f = f n ms sum

-- of a block of size z at p, in a run of small blocks (c is 1) or of large ones (c is 0) that ends at e
abbrev pub fit_size : ℕ → ℕ → ℕ → ℕ → List Test
fit_size z c e p = less 7 z ∷ same (small z) c ∷ same (z % 8) 0 ∷ less (p + z) (suc e) ∷ []

-- of a head w that is not a held one's, with the footer u, where a held one's flags were to be `due`
abbrev pub free_words : ℕ → ℕ → ℕ → List Test
free_words w u due = same due held_flags ∷ same (flags_of w) free_flags ∷ same u w ∷ []

module _ (bs : List ℕ) where
  -- only a large block has a footer
  abbrev pub foot_of : ℕ → ℕ → ℕ
  foot_of w p = if< (size_of w) large w (word_at 4 bs (p + (size_of w - 4)))

  abbrev pub free_at : ℕ → ℕ → ℕ → List Test
  free_at w due p = free_words w (foot_of w p) due

  abbrev pub fit_tests : ℕ → ℕ → ℕ → List Test
  fit_tests c e p = fit_size (size_at bs p) c e p

  abbrev pub free_tests : ℕ → ℕ → List Test
  free_tests due p = free_at (word_at 4 bs p) due p

module _ {M : Type 0} (O : MarkSet M) (bs : List ℕ) where
  -- due: what the flags of a held block must be here: 3, or 1 above a free large block. "No two free ones touch" and "the one just below
  -- R is held" are both that it is 3: a free block needs that, and so does the end.
  unfoldable pub scan : ℕ → ℕ → ℕ → ℕ → ℕ → ℕ → M → ℕ → Scanned M
  scan zero c e p due n ms sum = stray
  scan (suc k) c e p due n ms sum =
      let on = scan k c e (p + size_at bs p) held_flags n ms sum in
      let on-free = scan k c e (p + size_at bs p) (2 * c + 1) (suc n) (O.put ms p) (sum + size_at bs p) in
      if= p e (guard (same due held_flags ∷ []) stray (seen n ms sum))
      (guard (fit_tests bs c e p) stray (if= (flags_at bs p) due on (guard (free_tests bs due p) stray on-free)))

  -- the large blocks from 168 to a, then the small ones from b to e
  abbrev pub scanned_between : ℕ → ℕ → ℕ → M → Scanned M
  scanned_between a b e ms = if_seen (scan (suc a) 0 a blocks_at held_flags 0 ms 0) stray (λ n ms' sum. scan (suc e) 1 e b held_flags n ms' sum)
