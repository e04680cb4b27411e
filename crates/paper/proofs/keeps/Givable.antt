-- The greatest block that some blocks can give: a free one is given whole, the remainder but for the 8 bytes that it keeps.
-- Of a state it is the size of its greatest bin, or what the remainder can give.
use mathlib.Core.List.{List, [], ◌++◌, ◌∷◌}
use mathlib.Core.Logic.{◌≢◌, ◌⊎◌, inl, inr}
use mathlib.Core.Path.{◌∙◌, ◌≡◌, refl, subst, sym}
use Prim.Native.Nat.{◌%◌, ◌+◌, ◌-◌, ◌≤◌, max, ℕ}
use native.Mathlib.Omega.{arith}
use Rattle.paper.proofs.bins.Bins.{empty, first_count}
use Rattle.paper.proofs.bins.Listed.{free_at-append, loose}
use Rattle.paper.proofs.reads.LooseReads.{no-zero-listed}
use Rattle.paper.proofs.reads.Unique.{NoRemainder, high-no-remainder, low-no-remainder}
use Rattle.paper.specs.Bins.{first}
use Rattle.paper.specs.Blocks.{Block, State, block, blocks, free, held, remainder, total}
use Rattle.paper.specs.Layout.{blocks_at}
use Rattle.paper.specs.Sound.{Sized, WellFormed, free_at}
use Rattle.words.specs.Choice.{by<, by=, if=, if=-yes, ifs}

unfoldable pub greatest_givable : List Block → ℕ
greatest_givable [] = 0
greatest_givable (block z held ∷ xs) = greatest_givable xs
greatest_givable (block z free ∷ xs) = max z (greatest_givable xs)
greatest_givable (block z remainder ∷ xs) = max (z - 8) (greatest_givable xs)

-- ---- of a list of blocks

pub givable-append : (xs ys : List Block) → greatest_givable (xs ++ ys) ≡ max (greatest_givable xs) (greatest_givable ys)
unfolding greatest_givable
givable-append [] ys = omega arith
givable-append (block z held ∷ xs) ys = givable-append xs ys
givable-append (block z free ∷ xs) ys = omega (arith, givable-append xs ys)
givable-append (block z remainder ∷ xs) ys = omega (arith, givable-append xs ys)

pub givable-le : (xs : List Block) → greatest_givable xs ≤ total xs
unfolding greatest_givable
givable-le [] = omega arith
givable-le (block z held ∷ xs) = omega (arith, givable-le xs)
givable-le (block z free ∷ xs) = omega (arith, givable-le xs)
givable-le (block z remainder ∷ xs) = omega (arith, givable-le xs)

pub givable-eights : (xs : List Block) → Sized xs → greatest_givable xs % 8 ≡ 0
unfolding greatest_givable
givable-eights [] s = refl
givable-eights (block z held ∷ xs) s = givable-eights xs s.1
givable-eights (block z free ∷ xs) s = omega (arith, givable-eights xs s.1, s.0.1)
givable-eights (block z remainder ∷ xs) s = omega (arith, givable-eights xs s.1, s.0.0, s.0.1)

-- no free block is greater
pub free-givable : (xs : List Block) (p y q : ℕ) → 1 ≤ free_at xs p y q → y ≤ greatest_givable xs
unfolding greatest_givable free_at
free-givable [] p y q h = absurd (omega arith)
free-givable (block z held ∷ xs) p y q h = free-givable xs (p + z) y q h
free-givable (block z remainder ∷ xs) p y q h = omega (arith, free-givable xs (p + z) y q h)
free-givable (block z free ∷ xs) p y q h =
    by= z y (λ e. omega arith)
    (λ n. let h' : 1 ≤ 0 + free_at xs (p + z) y q = simp ifs at h in omega (arith, free-givable xs (p + z) y q (omega arith)))

-- and one is as great, where there is any and the remainder is not among them
pub givable-free : (xs : List Block) (p : ℕ) → NoRemainder xs
    → (greatest_givable xs ≡ 0) ⊎ ((q : ℕ) × (1 ≤ free_at xs p (greatest_givable xs) q))
unfolding greatest_givable free_at
givable-free [] p n = inl refl
givable-free (block z held ∷ xs) p n = givable-free xs (p + z) n
givable-free (block z remainder ∷ xs) p n = absurd n
givable-free (block z free ∷ xs) p n =
    by< z (greatest_givable xs)
    (λ l. let e : greatest_givable xs ≡ max z (greatest_givable xs) = omega arith in subst One e (further (givable-free xs (p + z) n)))
    (λ l. let e : z ≡ max z (greatest_givable xs) = omega arith in
    subst One e (inr (p, omega (arith, if=-yes z z (if= {A = ℕ} p p 1 0) 0 refl, if=-yes {A = ℕ} p p 1 0 refl))))
  where
    One : ℕ → Type 0
    One m = (m ≡ 0) ⊎ ((q : ℕ) × (1 ≤ if= z m (if= p q 1 0) 0 + free_at xs (p + z) m q))

    further : (greatest_givable xs ≡ 0) ⊎ ((q : ℕ) × (1 ≤ free_at xs (p + z) (greatest_givable xs) q)) → One (greatest_givable xs)
    further (inl e) = inl e
    further (inr r) = inr (r.0, omega (arith, r.1))

-- ---- of a state
module _ (s : State) (W : WellFormed s) where
  givable-parts : greatest_givable (blocks s) ≡ max (greatest_givable s.low) (max (s.rest - 8) (greatest_givable s.high))
  unfolding greatest_givable
  givable-parts = givable-append s.low (block s.rest remainder ∷ s.high)

  pub bin-givable : (z : ℕ) → first (s.bins z) ≢ 0 → z ≤ greatest_givable (blocks s)
  bin-givable z n =
      let q = first (s.bins z) in
      free-givable (blocks s) blocks_at z q (omega (arith, W.listed z q, first_count (s.bins z) q refl n))

  pub rest-givable : s.rest ≤ greatest_givable (blocks s) + 8
  rest-givable = omega (arith, givable-parts)

  -- the bin of a free block is not empty
  free-binned : (z q : ℕ) → 1 ≤ free_at (blocks s) blocks_at z q → first (s.bins z) ≢ 0
  free-binned z q h e = omega (arith, W.listed z q, empty (s.bins z) q e (no-zero-listed s (loose s W) z))

  low-binned : (z q : ℕ) → 1 ≤ free_at s.low blocks_at z q → first (s.bins z) ≢ 0
  low-binned z q h = free-binned z q (omega (arith, free_at-append s.low (block s.rest remainder ∷ s.high) blocks_at z q))

  high-binned : (z q : ℕ) → 1 ≤ free_at s.high (blocks_at + total s.low + s.rest) z q → first (s.bins z) ≢ 0
  unfolding free_at
  high-binned z q h = free-binned z q (omega (arith, free_at-append s.low (block s.rest remainder ∷ s.high) blocks_at z q))

  pub givable-source : greatest_givable (blocks s) ≢ 0
      → (first (s.bins (greatest_givable (blocks s))) ≢ 0) ⊎ (greatest_givable (blocks s) + 8 ≡ s.rest)
  givable-source n =
      by= g (s.rest - 8) (λ e. inr (omega arith))
      (λ m. by= g (greatest_givable s.low)
      (λ e. inl (from_low e (givable-free s.low blocks_at (low-no-remainder s.low W.low_ok))))
      (λ o. inl (from-high (omega (arith, givable-parts)) (givable-free s.high _ (high-no-remainder s.high W.high_ok)))))
    where
      g : ℕ
      g = greatest_givable (blocks s)

      from_low : g ≡ greatest_givable s.low → (greatest_givable s.low ≡ 0) ⊎ ((q : ℕ) × (1 ≤ free_at s.low blocks_at (greatest_givable s.low) q))
          → first (s.bins g) ≢ 0
      from_low e (inl o) = absurd (n (e ∙ o))
      from_low e (inr r) = subst (λ (z : ℕ). first (s.bins z) ≢ 0) (sym e) (low-binned _ r.0 r.1)

      from-high : g ≡ greatest_givable s.high
          → (greatest_givable s.high ≡ 0) ⊎ ((q : ℕ) × (1 ≤ free_at s.high (blocks_at + total s.low + s.rest) (greatest_givable s.high) q))
          → first (s.bins g) ≢ 0
      from-high e (inl o) = absurd (n (e ∙ o))
      from-high e (inr r) = subst (λ (z : ℕ). first (s.bins z) ≢ 0) (sym e) (high-binned _ r.0 r.1)
