-- The free blocks of a list, and the lists that name each of them once.
use mathlib.Core.List.{List, [], ◌++◌, ◌∷◌}
use mathlib.Core.Logic.{◌≢◌, ◌⊎◌, inl, inr}
use mathlib.Core.Path.{◌∙◌, ◌≡◌, ap, refl, sym}
use Prim.Native.Nat.{◌%◌, ◌+◌, ◌<◌, ◌≤◌, ℕ}
use native.Mathlib.Nat.{add-zero}
use native.Mathlib.Omega.{arith}
use Rattle.paper.proofs.runs.Walk.{In, in-aligned, in-high, in-low}
use Rattle.paper.specs.Bins.{count, rebin}
use Rattle.paper.specs.Blocks.{Block, State, block, blocks, end, free, held, remainder, total}
use Rattle.paper.specs.Governed.{flag_above}
use Rattle.paper.specs.Layout.{blocks_at}
use Rattle.paper.specs.Sound.{Sized, WellFormed, free_at}
use Rattle.words.specs.Choice.{by=, if=-no, if=-yes, ifs}

pub free_at-append : (xs ys : List Block) (p y q : ℕ) → free_at (xs ++ ys) p y q ≡ free_at xs p y q + free_at ys (p + total xs) y q
unfolding free_at
free_at-append [] ys p y q = omega (arith, ap (λ (k : ℕ). free_at ys k y q) (add-zero p))
free_at-append (block z held ∷ xs) ys p y q = free_at-append xs ys (p + z) y q ∙ ap (λ (k : ℕ). free_at xs (p + z) y q + free_at ys k y q) (omega arith)
free_at-append (block z remainder ∷ xs) ys p y q = free_at-append xs ys (p + z) y q
    ∙ ap (λ (k : ℕ). free_at xs (p + z) y q + free_at ys k y q) (omega arith)
free_at-append (block z free ∷ xs) ys p y q = omega (arith, free_at-append xs ys (p + z) y q, ap (λ (k : ℕ). free_at ys k y q) (assoc p z (total xs)))
  where
    assoc : (a b c : ℕ) → a + b + c ≡ a + (b + c)
    assoc a b c = omega arith

pub free_at-below : (xs : List Block) (p y q : ℕ) → q < p → free_at xs p y q ≡ 0
unfolding free_at
free_at-below [] p y q l = refl
free_at-below (block z held ∷ xs) p y q l = free_at-below xs (p + z) y q (omega arith)
free_at-below (block z remainder ∷ xs) p y q l = free_at-below xs (p + z) y q (omega arith)
free_at-below (block z free ∷ xs) p y q l =
    let n : p ≢ q = omega arith in
    by= z y (λ e. simp ifs (omega (arith, free_at-below xs (p + z) y q (omega arith))))
    (λ e. simp ifs (omega (arith, free_at-below xs (p + z) y q (omega arith))))

pub free_at-once : (xs : List Block) (p y q : ℕ) → Sized xs → free_at xs p y q ≤ 1
unfolding free_at
free_at-once [] p y q s = omega arith
free_at-once (block z held ∷ xs) p y q s = free_at-once xs (p + z) y q s.1
free_at-once (block z remainder ∷ xs) p y q s = free_at-once xs (p + z) y q s.1
free_at-once (block z free ∷ xs) p y q s =
    by= z y
    (λ e. by= p q (λ f. simp ifs (omega (arith, free_at-below xs (p + z) y q (omega arith))))
    (λ f. simp ifs (omega (arith, free_at-once xs (p + z) y q s.1))))
    (λ e. simp ifs (omega (arith, free_at-once xs (p + z) y q s.1)))

pub free_at-in : (xs : List Block) (p P y q : ℕ) → 1 ≤ free_at xs p y q → (P' : ℕ) × In xs p P q (block y free) P'
unfolding free_at
free_at-in [] p P y q h = absurd (omega arith)
free_at-in (block z held ∷ xs) p P y q h = let r = free_at-in xs (p + z) 1 y q h in (r.0, inr r.1)
free_at-in (block z remainder ∷ xs) p P y q h = let r = free_at-in xs (p + z) 1 y q h in (r.0, inr r.1)
free_at-in (block z free ∷ xs) p P y q h =
    by= z y
    (λ e. by= p q (λ f. (P, inl (sym f, ap (λ (k : ℕ). block k free) (sym e), refl)))
    (λ f. let h' : 1 ≤ 0 + free_at xs (p + z) y q = simp ifs at h in let r = free_at-in xs (p + z) (flag_above (block z free)) y q (omega arith) in
    (r.0, inr r.1)))
    (λ e. let h' : 1 ≤ 0 + free_at xs (p + z) y q = simp ifs at h in let r = free_at-in xs (p + z) (flag_above (block z free)) y q (omega arith) in
    (r.0, inr r.1))

pub rebin-same : (f : ℕ → List ℕ) (z : ℕ) (l : List ℕ) → rebin f z l z ≡ l
unfolding rebin
rebin-same f z l = if=-yes z z _ _ refl

pub rebin-other : (f : ℕ → List ℕ) (z : ℕ) (l : List ℕ) (y : ℕ) → y ≢ z → rebin f z l y ≡ f y
unfolding rebin
rebin-other f z l y n = if=-no y z _ _ n

-- every listed start is a free block of that size, listed once (but a free block need not be listed)
pub record Loose (s : State) : Type 0 where
  pub sized : Sized (blocks s)
  pub top1 : 1 ≤ s.top
  pub top13 : s.top ≤ 13
  pub once : (y q : ℕ) → count q (s.bins y) ≤ 1
  pub found : (y q : ℕ) → 1 ≤ count q (s.bins y) → (P : ℕ) × In (blocks s) blocks_at 1 q (block y free) P

module _ (s : State) (W : Loose s) where
  -- where a listed block is
  pub start : (y q : ℕ) → 1 ≤ count q (s.bins y) → (blocks_at ≤ q) × (q + y ≤ end s) × (q % 8 ≡ 0)
  start y q h =
      let f = W.found y q h in (
        in-low (blocks s) blocks_at 1 q (block y free) f.0 f.1,
        in-high (blocks s) blocks_at 1 q (block y free) f.0 f.1,
        in-aligned (blocks s) blocks_at 1 q
            (block y free) f.0 W.sized refl f.1,
      )

pub loose : (s : State) → WellFormed s → Loose s
loose s W =
    record {
      sized = W.sized;
      top1 = one W.layout;
      top13 = thirteen W.layout;
      once = λ y q. omega (arith, W.listed y q, free_at-once (blocks s) blocks_at y q W.sized);
      found = λ y q h. free_at-in (blocks s) blocks_at 1 y q (omega (arith, W.listed y q));
    }
  where
    one : (s.top ≡ 1) ⊎ (s.top ≡ 13) → 1 ≤ s.top
    one (inl e) = omega arith
    one (inr e) = omega arith

    thirteen : (s.top ≡ 1) ⊎ (s.top ≡ 13) → s.top ≤ 13
    thirteen (inl e) = omega arith
    thirteen (inr e) = omega arith
