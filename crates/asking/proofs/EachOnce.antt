-- Whether a list names each number once, of those that h has: after a number is taken away from h, the rest of the list may not name it. So the
-- numbers can be taken away one by one, and none need be counted.
use mathlib.Core.Bool.{Bool, false}
use mathlib.Core.List.{List, [], ◌∷◌}
use mathlib.Core.Logic.{◌≢◌}
use mathlib.Core.Path.{◌∙◌, ◌≡◌, ap, sym}
use Prim.Native.Nat.{ℕ}
use native.Mathlib.Omega.{arith}
use Rattle.paper.proofs.bins.Bins.{count-cons, count-nil, count-there}
use Rattle.paper.specs.AskingAll.{each_once}
use Rattle.paper.specs.Bins.{count}
use Rattle.words.specs.Choice.{by=, if=, if=-no, if=-same, if=-yes, when, when-same}

-- ---- the first of a list, where h says b of it and r is said of the rest
abbrev step : ℕ → List ℕ → Bool → Bool → Bool
step o os b r = if= o 0 r (if= (count o os) 0 (when b r false) false)

rest-refuses : (o : ℕ) (os : List ℕ) (b : Bool) → step o os b false ≡ false
rest-refuses o os b =
    ap (λ (x : Bool). if= o 0 false (if= (count o os) 0 x false)) (when-same b false) ∙ ap (if= o 0 false) (if=-same (count o os) 0 false) ∙ if=-same o 0 false

first-refuses : (o : ℕ) (os : List ℕ) (r : Bool) → o ≢ 0 → step o os false r ≡ false
unfolding when
first-refuses o os r n = if=-no o 0 _ _ n ∙ if=-same (count o os) 0 false

module _ (h : ℕ → Bool) (o : ℕ) where
  -- h without o
  abbrev pub without : ℕ → Bool
  without p = if= o p false (h p)

  pub once-without : o ≢ 0 → (os : List ℕ) → each_once without os ≡ if= (count o os) 0 (each_once h os) false
  unfolding each_once
  once-without n [] = sym (if=-yes (count o []) 0 _ _ (count-nil o))
  once-without n (p ∷ os) =
      by= (count o (p ∷ os)) 0
      (λ z. by= p o (λ e. absurd (omega (arith, count-cons o p os, if=-yes {A = ℕ} p o 1 0 e)))
      (λ d. let b : without p ≡ h p = if=-no o p _ _ (λ e. d (sym e)) in
      let r : each_once without os ≡ each_once h os = once-without n os ∙ if=-yes (count o os) 0 _ _ (sym (count-there p o os d) ∙ z) in
      (λ i. step p os (b i) (r i)) ∙ sym (if=-yes (count o (p ∷ os)) 0 _ _ z)))
      (λ m. by= p o
      (λ e. ap (λ (b : Bool). step p os b (each_once without os)) (if=-yes o p _ _ (sym e)) ∙ first-refuses p os (each_once without os) (λ z. n (sym e ∙ z)))
      (λ d. ap (step p os (without p)) (once-without n os ∙ if=-no (count o os) 0 _ _ (λ z. m (count-there p o os d ∙ z)))
      ∙ rest-refuses p os (without p))
      ∙ sym (if=-no (count o (p ∷ os)) 0 _ _ m))
