-- A run of blocks taken apart at a place and put together again: the blocks below the place, a middle part, the blocks above it.
-- By induction on the part below, whose blocks are not empty, so that no earlier block starts or ends at the place.
use mathlib.Core.List.{List, [], ◌++◌, ◌∷◌, append_assoc}
use mathlib.Core.Logic.{inl, inr}
use mathlib.Core.Path.{◌∙◌, ◌≡◌, ap, refl, subst, sym}
use Prim.Native.Nat.{◌+◌, ◌<◌, ◌≤◌, ℕ}
use native.Mathlib.Nat.{add-zero}
use native.Mathlib.Omega.{arith}
use Rattle.paper.proofs.bins.Listed.{free_at-append}
use Rattle.paper.proofs.runs.Walk.{In, flag_past, free_sum-append, sized-append, sized-parts, total-append}
use Rattle.paper.specs.Blocks.{Block, free_sum, size, total}
use Rattle.paper.specs.Governed.{flag_above}
use Rattle.paper.specs.Runs.{ends_at, from, replace, starts_at, sum_of, under}
use Rattle.paper.specs.Sound.{Sized, free_at}
use Rattle.words.specs.Choice.{by=, if=, if<-no, if<-yes, if=-no, if=-yes, ifs}

-- ---- the parts of us ++ ws at the place where ws starts

pub under-append : (us ws : List Block) (p q : ℕ) → Sized us → p + total us ≡ q → under (us ++ ws) p q ≡ us
unfolding under
under-append [] [] p q s e = refl
under-append [] (b ∷ ws) p q s e = if<-no p q _ _ (omega arith)
under-append (c ∷ us) ws p q s e =
    if<-yes p q _ _ (omega (arith, s.0)) ∙ ap (λ (l : List Block). c ∷ l) (under-append us ws (p + size c) q s.1 (omega arith))

pub from-append : (us ws : List Block) (p q : ℕ) → Sized us → p + total us ≡ q → from (us ++ ws) p q ≡ ws
unfolding from
from-append [] [] p q s e = refl
from-append [] (b ∷ ws) p q s e = if<-no p q _ _ (omega arith)
from-append (c ∷ us) ws p q s e = if<-yes p q _ _ (omega (arith, s.0)) ∙ from-append us ws (p + size c) q s.1 (omega arith)

-- the middle part replaced
pub replace-append : (us ms vs new : List Block) (p a e : ℕ) → Sized us → Sized ms → p + total us ≡ a → a + total ms ≡ e
    → replace (us ++ (ms ++ vs)) p a e new ≡ us ++ (new ++ vs)
unfolding replace
replace-append us ms vs new p a e s t i j =
    let u : under (us ++ (ms ++ vs)) p a ≡ us = under-append us (ms ++ vs) p a s i in
    let v : from (us ++ (ms ++ vs)) p e ≡ vs =
    ap (λ (l : List Block). from l p e) (sym (append_assoc us ms vs))
    ∙ from-append (us ++ ms) vs p e (sized-append us ms s t) (omega (arith, total-append us ms)) in
    (λ k. u k ++ new ++ v k) ∙ append_assoc us new vs

-- ---- what starts and ends at a place

pub starts-below : (f : Block → ℕ) (xs : List Block) (p q : ℕ) → q < p → starts_at f xs p q ≡ 0
unfolding starts_at
starts-below f [] p q l = refl
starts-below f (b ∷ xs) p q l = if=-no p q _ _ (omega arith) ∙ starts-below f xs (p + size b) q (omega arith)

pub starts-past : (f : Block → ℕ) (xs : List Block) (p q : ℕ) → Sized xs → p + total xs ≤ q → starts_at f xs p q ≡ 0
unfolding starts_at
starts-past f [] p q s l = refl
starts-past f (b ∷ xs) p q s l = if=-no p q _ _ (omega (arith, s.0)) ∙ starts-past f xs (p + size b) q s.1 (omega arith)

pub ends-below : (f : Block → ℕ) (xs : List Block) (p q : ℕ) → Sized xs → q ≤ p → ends_at f xs p q ≡ 0
unfolding ends_at
ends-below f [] p q s l = refl
ends-below f (b ∷ xs) p q s l = if=-no (p + size b) q _ _ (omega (arith, s.0)) ∙ ends-below f xs (p + size b) q s.1 (omega arith)

pub starts-append : (f : Block → ℕ) (us vs : List Block) (p q : ℕ) → Sized us
    → starts_at f (us ++ vs) p q ≡ starts_at f us p q + starts_at f vs (p + total us) q
unfolding starts_at
starts-append f [] vs p q s = omega (arith, ap (λ (k : ℕ). starts_at f vs k q) (add-zero p))
starts-append f (c ∷ us) vs p q s =
    let e : p + size c + total us ≡ p + (size c + total us) = omega arith in
    let i : starts_at f (us ++ vs) (p + size c) q ≡ starts_at f us (p + size c) q + starts_at f vs (p + (size c + total us)) q =
    starts-append f us vs (p + size c) q s.1 ∙ ap (λ (k : ℕ). starts_at f us (p + size c) q + starts_at f vs k q) e in
    by= p q (λ h. simp ifs (omega (arith, starts-below f vs (p + (size c + total us)) q (omega (arith, s.0))))) (λ h. simp ifs i)

pub ends-append : (f : Block → ℕ) (us vs : List Block) (p q : ℕ) → Sized vs
    → ends_at f (us ++ vs) p q ≡ ends_at f us p q + ends_at f vs (p + total us) q
unfolding ends_at
ends-append f [] vs p q s = omega (arith, ap (λ (k : ℕ). ends_at f vs k q) (add-zero p))
ends-append f (c ∷ us) vs p q s =
    let e : p + size c + total us ≡ p + (size c + total us) = omega arith in
    let i : ends_at f (us ++ vs) (p + size c) q ≡ ends_at f us (p + size c) q + ends_at f vs (p + (size c + total us)) q =
    ends-append f us vs (p + size c) q s ∙ ap (λ (k : ℕ). ends_at f us (p + size c) q + ends_at f vs k q) e in
    by= (p + size c) q (λ h. simp ifs (omega (arith, ends-below f vs (p + (size c + total us)) q s (omega arith)))) (λ h. simp ifs i)

-- by parts
pub starts-cons : (f : Block → ℕ) (b : Block) (xs : List Block) (p q : ℕ) → 1 ≤ size b
    → starts_at f (b ∷ xs) p q ≡ if= p q (f b) 0 + starts_at f xs (p + size b) q
unfolding starts_at
starts-cons f b xs p q l =
    by= p q (λ e. simp ifs (omega (arith, starts-below f xs (p + size b) q (omega arith)))) (λ n. simp ifs (omega arith))

pub starts-mid : (f : Block → ℕ) (us ms vs : List Block) (p a e q : ℕ) → Sized us → Sized ms → p + total us ≡ a → a + total ms ≡ e
    → starts_at f (us ++ (ms ++ vs)) p q ≡ starts_at f us p q + (starts_at f ms a q + starts_at f vs e q)
starts-mid f us ms vs p a e q s t i j =
    starts-append f us (ms ++ vs) p q s
    ∙ ap (λ (k : ℕ). starts_at f us p q + starts_at f (ms ++ vs) k q) i
    ∙ ap (λ (k : ℕ). starts_at f us p q + k) (starts-append f ms vs a q t ∙ ap (λ (k : ℕ). starts_at f ms a q + starts_at f vs k q) j)

-- the block itself
pub starts-here : (f : Block → ℕ) (us : List Block) (b : Block) (vs : List Block) (p q : ℕ) → Sized us → p + total us ≡ q
    → starts_at f (us ++ b ∷ vs) p q ≡ f b
unfolding starts_at
starts-here f [] b vs p q s e = if=-yes p q _ _ (omega arith)
starts-here f (c ∷ us) b vs p q s e = if=-no p q _ _ (omega (arith, s.0)) ∙ starts-here f us b vs (p + size c) q s.1 (omega arith)

pub ends-here : (f : Block → ℕ) (us : List Block) (b : Block) (vs : List Block) (p q : ℕ) → 1 ≤ size b → p + total us + size b ≡ q
    → ends_at f (us ++ b ∷ vs) p q ≡ f b
unfolding ends_at
ends-here f [] b vs p q s e = if=-yes (p + size b) q _ _ (omega arith)
ends-here f (c ∷ us) b vs p q s e = if=-no (p + size c) q _ _ (omega arith) ∙ ends-here f us b vs (p + size c) q s (omega arith)

-- conversely, something said means a block there
pub starts-split : (f : Block → ℕ) (xs : List Block) (p q : ℕ) → 1 ≤ starts_at f xs p q
    → (us : List Block) × (b : Block) × (vs : List Block) × (xs ≡ us ++ b ∷ vs) × (p + total us ≡ q) × (f b ≡ starts_at f xs p q)
unfolding starts_at
starts-split f [] p q h = absurd (omega arith)
starts-split f (c ∷ xs) p q h =
    by= p q (λ e. ([], c, xs, refl, omega arith, sym (if=-yes p q _ _ e)))
    (λ n. let h' : 1 ≤ starts_at f xs (p + size c) q = simp ifs at h in
    let r = starts-split f xs (p + size c) q h' in
    (c ∷ r.0, r.1, r.2, ap (λ (l : List Block). c ∷ l) r.3, omega (arith, r.4), r.5 ∙ sym (if=-no p q _ _ n)))

-- ---- a block of the walk

pub in_parts : (xs : List Block) (p P q : ℕ) (b : Block) (P' : ℕ) → In xs p P q b P'
    → (us : List Block) × (vs : List Block) × (xs ≡ us ++ b ∷ vs) × (p + total us ≡ q) × (flag_past P us ≡ P')
in_parts [] p P q b P' h = absurd h
in_parts (c ∷ xs) p P q b P' (inl h) = ([], xs, ap (λ (d : Block). d ∷ xs) (sym h.1), omega arith, sym h.2)
in_parts (c ∷ xs) p P q b P' (inr h) =
    let r = in_parts xs (p + size c) (flag_above c) q b P' h in
    (c ∷ r.0, r.1, ap (λ (l : List Block). c ∷ l) r.2, omega (arith, r.3), r.4)

module _ (xs : List Block) (p P q : ℕ) (b : Block) (P' : ℕ) (s : Sized xs) (h : In xs p P q b P') where
  in-under : under xs p q ≡ (in_parts xs p P q b P' h).0
  in-under =
      let r = in_parts xs p P q b P' h in
      ap (λ (l : List Block). under l p q) r.2
      ∙ under-append r.0 (b ∷ r.1) p q (sized-parts r.0 (b ∷ r.1) (subst Sized r.2 s)).0 r.3

  in-from : from xs p (q + size b) ≡ (in_parts xs p P q b P' h).1
  in-from =
      let r = in_parts xs p P q b P' h in
      let t = sized-parts r.0 (b ∷ r.1) (subst Sized r.2 s) in
      ap (λ (l : List Block). from l p (q + size b)) (r.2 ∙ sym (append_assoc r.0 (b ∷ []) r.1))
      ∙ from-append (r.0 ++ b ∷ []) r.1 p (q + size b) (sized-append r.0 (b ∷ []) t.0 (t.1.0, tt))
      (omega (arith, r.3, total-append r.0 (b ∷ [])))

  pub in_is : xs ≡ under xs p q ++ b ∷ from xs p (q + size b)
  in_is = (in_parts xs p P q b P' h).2 ∙ sym (λ k. in-under k ++ b ∷ in-from k)

  pub in-starts : p + total (under xs p q) ≡ q
  in-starts = ap (λ (l : List Block). p + total l) in-under ∙ (in_parts xs p P q b P' h).3

  pub in-replace : (new : List Block) → replace xs p q (q + size b) new ≡ under xs p q ++ (new ++ from xs p (q + size b))
  unfolding replace
  in-replace new = append_assoc (under xs p q) new (from xs p (q + size b))

-- ---- sums over a run with a middle part

pub total-mid : (us ms vs : List Block) → total (us ++ (ms ++ vs)) ≡ total us + (total ms + total vs)
total-mid us ms vs = omega (arith, total-append us (ms ++ vs), total-append ms vs)

pub free_sum-mid : (us ms vs : List Block) → free_sum (us ++ (ms ++ vs)) ≡ free_sum us + (free_sum ms + free_sum vs)
free_sum-mid us ms vs = omega (arith, free_sum-append us (ms ++ vs), free_sum-append ms vs)

pub sum_of-append : (f : Block → ℕ) (xs ys : List Block) → sum_of f (xs ++ ys) ≡ sum_of f xs + sum_of f ys
unfolding sum_of
sum_of-append f [] ys = omega arith
sum_of-append f (b ∷ xs) ys = omega (arith, sum_of-append f xs ys)

pub free_at-mid : (us ms vs : List Block) (p a e y q : ℕ) → p + total us ≡ a → a + total ms ≡ e
    → free_at (us ++ (ms ++ vs)) p y q ≡ free_at us p y q + (free_at ms a y q + free_at vs e y q)
free_at-mid us ms vs p a e y q i j =
    free_at-append us (ms ++ vs) p y q
    ∙ ap (λ (k : ℕ). free_at us p y q + free_at (ms ++ vs) k y q) i
    ∙ ap (λ (k : ℕ). free_at us p y q + k) (free_at-append ms vs a y q ∙ ap (λ (k : ℕ). free_at ms a y q + free_at vs k y q) j)

pub sized-mid-parts : (us ms vs : List Block) → Sized (us ++ (ms ++ vs)) → Sized us × Sized ms × Sized vs
sized-mid-parts us ms vs s =
    let r = sized-parts us (ms ++ vs) s in let t = sized-parts ms vs r.1 in (r.0, t.0, t.1)

pub sized-mid : (us ms vs : List Block) → Sized us → Sized ms → Sized vs → Sized (us ++ (ms ++ vs))
sized-mid us ms vs r s t = sized-append us (ms ++ vs) r (sized-append ms vs s t)
