-- A free large block that stands in no bin, below a held one, becomes held.
use mathlib.Core.List.{List, [], ◌++◌, ◌∷◌, append_assoc}
use mathlib.Core.Logic.{◌≢◌, inl, inr}
use mathlib.Core.Option.{some}
use mathlib.Core.Path.{◌∙◌, ◌≡◌, ap, refl, sym}
use Prim.Native.Nat.{◌%◌, ◌+◌, ◌-◌, ◌/◌, ◌≤◌, ℕ}
use native.Mathlib.Omega.{arith}
use Rattle.paper.proofs.sheet.Fields.{at_head}
use Rattle.paper.proofs.steps.Leave.{NothingNew}
use Rattle.paper.proofs.steps.Segment.{walk-mid}
use Rattle.paper.proofs.sheet.Stores.{Elsewhere, Good}
use Rattle.paper.proofs.runs.Walk.{In, flag_past, free_sum-append, in-mid, total-append}
use Rattle.paper.specs.Blocks.{Block, Kind, State, block, blocks, end, free, free_sum, held, remainder, total}
use Rattle.paper.specs.Governed.{block_word, head_word, header_word, index, sheet, walk}
use Rattle.paper.specs.Layout.{blocks_at, false_block, free_word_at}
use Rattle.words.specs.Choice.{by<, by=, if<, if=, ifs}

module _ (t rest : ℕ) (xs ys high : List Block) (bins : ℕ → List ℕ) (z y : ℕ) where
  -- the block of size z past xs, of kind k; the next is held
  abbrev pub hold-state : Kind → State
  hold-state k = record { top = t; low = xs ++ block z k ∷ block y held ∷ ys; rest = rest; high = high; bins = bins }

  abbrev pub hold_at : ℕ
  hold_at = blocks_at + total xs

  abbrev pub hold-tail : List Block
  hold-tail = ys ++ block rest remainder ∷ high

  pub hold-blocks : (k : Kind) → blocks (hold-state k) ≡ xs ++ block z k ∷ block y held ∷ hold-tail
  hold-blocks k = append_assoc xs (block z k ∷ block y held ∷ ys) (block rest remainder ∷ high)

  total-is : (k : Kind) → total (blocks (hold-state k)) ≡ total xs + (z + (y + total hold-tail))
  total-is k = ap total (hold-blocks k) ∙ total-append xs (block z k ∷ block y held ∷ hold-tail)

  low-is : (k : Kind) → total (hold-state k).low ≡ total xs + (z + (y + total ys))
  low-is k = total-append xs (block z k ∷ block y held ∷ ys)

  idle-free : free_sum (blocks (hold-state free)) ≡ free_sum xs + (z + free_sum hold-tail)
  idle-free = ap free_sum (hold-blocks free) ∙ free_sum-append xs (block z free ∷ block y held ∷ hold-tail)

  idle-held : free_sum (blocks (hold-state held)) ≡ free_sum xs + free_sum hold-tail
  idle-held = ap free_sum (hold-blocks held) ∙ free_sum-append xs (block z held ∷ block y held ∷ hold-tail)

  pub end_same : end (hold-state held) ≡ end (hold-state free)
  end_same = omega (arith, total-is held, total-is free)

  unfoldable pub hold-puts : List (ℕ × ℕ)
  hold-puts = (free_word_at, free_sum (blocks (hold-state free)) - z - 4) ∷ (hold_at, head_word z held (flag_past 1 xs)) ∷ (hold_at + z, head_word y held 1) ∷ []

  header-same : (w : ℕ) → w ≢ 0 → header_word (hold-state held) w ≡ header_word (hold-state free) w
  unfolding header_word
  header-same w n =
      let e : total (hold-state held).low ≡ total (hold-state free).low = low-is held ∙ sym (low-is free) in
      simp ifs (rw e)

  hold-walk : (n a : ℕ) → blocks_at ≤ a → a ≢ blocks_at + total xs → a ≢ blocks_at + total xs + z
      → NothingNew (walk (block_word t n bins) (xs ++ block z held ∷ block y held ∷ hold-tail) blocks_at 1 a)
      (walk (block_word t n bins) (xs ++ block z free ∷ block y held ∷ hold-tail) blocks_at 1 a)
  unfolding walk
  hold-walk n a l n0 n1 =
      walk-mid NothingNew (λ x. inr refl) (block_word t n bins) xs (block z held ∷ block y held ∷ hold-tail) (block z free ∷ block y held ∷ hold-tail)
      blocks_at 1 a l
      (λ m. by< a (blocks_at + total xs + z)
      (λ i. let o : a - (168 + total xs) ≢ 0 = omega arith in inl (simp ifs))
      (λ i. by< a (blocks_at + total xs + z + y)
      (λ k. let o : a - (168 + total xs + z) ≢ 0 = omega arith in inl (simp ifs))
      (λ k. inr (simp ifs))))

  pub hold-frame : (a : ℕ) → a % 4 ≡ 0 → Elsewhere a hold-puts → NothingNew (sheet (hold-state held) a) (sheet (hold-state free) a)
  unfolding sheet hold-puts
  hold-frame a al out =
      by< a false_block
      (λ l. inr (simp ifs (by= (a % 8) 0 (λ e. simp ifs (ap some (header-same (a / 8) (omega arith)))) (λ e. simp ifs))))
      (λ l. by< a blocks_at
      (λ m. inr (simp ifs (ap (λ (n : ℕ). index t n bins (some 0) t false_block 64 (a - false_block)) end_same)))
      (λ m. simp ifs (rw (end_same, hold-blocks held, hold-blocks free)
      (hold-walk (blocks_at + total (xs ++ block z free ∷ block y held ∷ hold-tail)) a m out.1.0 out.1.1.0))))

  pub hold-in : (k : Kind) → In (blocks (hold-state k)) blocks_at 1 hold_at (block z k) (flag_past 1 xs)
  hold-in k = rw (hold-blocks k) (in-mid xs (block z k ∷ block y held ∷ hold-tail) blocks_at 1 hold_at (block z k) (flag_past 1 xs) (inl (refl, refl, refl)))

  pub hold-next : In (blocks (hold-state held)) blocks_at 1 (hold_at + z) (block y held) 1
  hold-next = rw (hold-blocks held) (in-mid xs (block z held ∷ block y held ∷ hold-tail) blocks_at 1 (hold_at + z) (block y held) 1
      (inr (inl (refl, refl, refl))))

  module _ (z0 : 8 ≤ z) (y0 : 8 ≤ y) (pz : z % 8 ≡ 0) (px : (blocks_at + total xs) % 8 ≡ 0) where
    pub hold-good : Good (sheet (hold-state held)) (end (hold-state held)) hold-puts
    unfolding hold-puts sheet header_word if< if=
    hold-good = (
      (refl, omega arith, word0),
      (
        (omega arith, omega (arith, total-is held), at_head (hold-state held) hold_at z held (flag_past 1 xs) (hold-in held) (omega arith)),
        ((omega arith, omega (arith, total-is held), at_head (hold-state held) (hold_at + z) y held 1 hold-next (omega arith)), tt),
      ),
    )
      where
        word0 : sheet (hold-state held) 0 ≡ some (free_sum (blocks (hold-state free)) - z - 4)
        word0 = ap some (omega (arith, idle-held, idle-free))
