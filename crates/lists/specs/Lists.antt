-- The lists of the bins: each member is marked, of its bin's size, and linked both ways; its mark goes. At the end no mark is left.
-- The first blocks of the large bins are found along level 1 of the index.
use Rattle.std.specs.Prelude.{Bool, true, false, List, [], ◌∷◌, ℕ, zero, suc, ◌+◌}
use Rattle.words.specs.Choice.{if=}
use Rattle.words.specs.Words.{word_at}
use Rattle.heads.specs.Heads.{size_at}
use Rattle.heads.specs.Links.{link_word, followed}
use Rattle.paper.specs.Layout.{small_next_at, previous_at, next_at, small_bins, false_block}
use Rattle.levels.specs.Levels.{top_of}
use Rattle.guards.specs.Tests.{Test, same, less, holds, guard}
use Rattle.marks.specs.MarkSets.{MarkSet}
use Rattle.lists.specs.Index.{if_awaiting, next_on, ended, false_indexed, first_indexed}

-- how many marks are left, and which
pub data Left (M : Type 0) : Type 0 where
  lost : Left M
  left : ℕ → M → Left M

module _ {M : Type 0} {A : Type 0} where
  abbrev pub if_left : Left M → A → (ℕ → M → A) → A
  if_left lost bad f = bad
  if_left (left k ms) bad f = f k ms

module _ (bs : List ℕ) where
  abbrev pub next_large : ℕ → ℕ
  next_large q = followed q (word_at 4 bs (q + next_at))

  abbrev pub next_small : ℕ → ℕ
  next_small q = word_at 4 bs (q + small_next_at)

  -- of the member q after p in the bin of size z: its head, its link back and its link on.
  -- A link on must be written as a distance is: another word could lead to 0, which is no start.
  abbrev pub large_tests : ℕ → ℕ → ℕ → List Test
  large_tests z p q =
      same (size_at bs q) z ∷ same (word_at 4 bs (q + previous_at)) (link_word q p) ∷ same (word_at 4 bs (q + next_at)) (link_word q (next_large q)) ∷ []

  abbrev pub small_tests : ℕ → ℕ → ℕ → List Test
  small_tests z p q = same (size_at bs q) z ∷ []

-- what to test of member q after p, and the way on; k marks are left
module _ {M : Type 0} (O : MarkSet M) (tests : ℕ → ℕ → List Test) where
  -- its mark, then its words
  abbrev pub asked : M → ℕ → ℕ → List Test
  asked ms p q = less 0 (O.has ms q) ∷ tests p q

  module _ (next : ℕ → ℕ) where
    unfoldable pub follow : ℕ → M → ℕ → ℕ → Left M
    follow zero ms p q = if= q 0 (left zero ms) lost
    follow (suc k) ms p q =
        let on = follow k (O.drop ms q) q (next q) in
        if= q 0 (left (suc k) ms) (guard (asked ms p q) lost on)

module _ {M : Type 0} (O : MarkSet M) (bs : List ℕ) where
  -- the list of the bin of size z, from its first block f on
  abbrev pub follow_small : ℕ → ℕ → M → ℕ → Left M
  follow_small z k ms f = follow O (small_tests bs z) (next_small bs) k ms 0 f

  abbrev pub follow_large : ℕ → ℕ → M → ℕ → Left M
  follow_large z k ms f = follow O (large_tests bs z) (next_large bs) k ms 0 f

  -- the small bins of sizes z, z + 8, .. , c of them; their first blocks stand in the header
  unfoldable pub smalls : ℕ → ℕ → ℕ → M → Left M
  smalls zero z k ms = left k ms
  smalls (suc c) z k ms = if_left (follow_small z k ms (word_at 4 bs (z + small_bins))) lost (λ k' ms'. smalls c (z + 8) k' ms')

module _ {M : Type 0} (O : MarkSet M) (t : ℕ) (bs : List ℕ) where
  -- the large bins past size y, from the first block f on, which level 1 of an index t high awaits, as the others do ws; at the end nothing is
  -- marked and nothing is awaited
  unfoldable pub chain : ℕ → ℕ → M → ℕ → ℕ → List ℕ → Bool
  chain zero k ms y f ws = false
  chain (suc c) k ms y f ws =
      if= f 0 (guard (same k 0 ∷ holds (ended t ws) ∷ []) false true)
      (if_awaiting (first_indexed bs t y (size_at bs f) f ws) false
      (λ ws'. if_left (follow_large O bs (size_at bs f) k ms f) false (λ k' ms'. chain c k' ms' (size_at bs f) (next_on bs 1 f) ws')))

module _ {M : Type 0} (O : MarkSet M) (bs : List ℕ) where
  unfoldable pub lists : ℕ → M → Bool
  lists k ms =
      if_left (smalls O bs 8 8 k ms) false
      (λ k' ms'. if_awaiting (false_indexed bs) false (λ ws. chain O (top_of bs) bs (suc k') k' ms' 64 (next_on bs 1 false_block) ws))
