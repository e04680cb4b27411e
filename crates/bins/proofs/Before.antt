-- What stands before a bin on a level of the index, by the state alone: there is one, since the false block stands on every level, and but one.
use mathlib.Core.Logic.{inl, inr}
use mathlib.Core.Path.{◌∙◌, ◌≡◌, refl, subst, sym}
use Prim.Native.Nat.{◌<◌, ◌≤◌, suc, zero, ℕ}
use native.Mathlib.Omega.{arith}
use Rattle.paper.proofs.bins.Listed.{Loose}
use Rattle.paper.proofs.reads.LooseReads.{listed-size, reach-in}
use Rattle.paper.proofs.steps.First.{OnLevel, Pred, reach-at, reach-is}
use Rattle.paper.specs.Blocks.{State, end}
use Rattle.paper.specs.Governed.{reach}
use Rattle.paper.specs.Layout.{false_block, large}
use Rattle.words.specs.Choice.{by<, by=, if<, if<-no, if<-yes, if=, if=-no, if=-yes}

-- its size, 64 where it is the false block
unfoldable pub size_before : State → ℕ → ℕ → ℕ
size_before s zero j = 64
size_before s (suc y) j = if< y large 64 (if= (reach s.top (end s) s.bins j y) 0 (size_before s y j) y)

unfoldable pub stands_at : State → ℕ → ℕ → ℕ
stands_at s j y = if< y large false_block (reach s.top (end s) s.bins j y)

abbrev pub before : State → ℕ → ℕ → ℕ
before s z j = stands_at s j (size_before s z j)

-- what stands on a level stands on each below
pub on-lower : (s : State) (i j y w : ℕ) → i ≤ j → OnLevel s j y w → OnLevel s i y w
on-lower s i j y w l (inl b) = inl b
on-lower s i j y w l (inr b) =
    let r = reach-is s.top (end s) s.bins j y w b.0 b.1 in
    inr (reach-at s.top (end s) s.bins i y (omega (arith, r.1)) ∙ r.0, b.1, b.2)

pub from-least : (s : State) (j y w : ℕ) → OnLevel s j y w → 64 ≤ y
from-least s j y w (inl b) = omega arith
from-least s j y w (inr b) = omega arith

module _ (s : State) (j : ℕ) where
  abbrev reaches : ℕ → ℕ
  reaches = reach s.top (end s) s.bins j

  -- there is but one
  module _ (z y w y' w' : ℕ) (P : Pred s z j y w) (P' : Pred s z j y' w') where
    not-past : y < y' → ⊥
    not-past l = go P'.who
      where
        go : OnLevel s j y' w' → ⊥
        go (inl b) = omega (arith, from-least s j y w P.who)
        go (inr b) = b.1 (sym b.0 ∙ P.gap y' l P'.below)

  same_at : (y w w' : ℕ) → OnLevel s j y w → OnLevel s j y w' → w ≡ w'
  same_at y w w' (inl a) (inl b) = a.1 ∙ sym b.1
  same_at y w w' (inl a) (inr b) = absurd (omega arith)
  same_at y w w' (inr a) (inl b) = absurd (omega arith)
  same_at y w w' (inr a) (inr b) = sym a.0 ∙ b.0

  pred-same : (z y w y' w' : ℕ) → Pred s z j y w → Pred s z j y' w' → w ≡ w'
  pred-same z y w y' w' P P' =
      by= y y' (λ e. same_at y' w w' (subst (λ (k : ℕ). OnLevel s j k w) e P.who) P'.who)
      (λ n. by< y y' (λ l. absurd (not-past z y w y' w' P P' l)) (λ l. absurd (not-past z y' w' y w P' P (omega arith))))

  module _ (W : Loose s) where
    -- sizes are multiples of 8
    none_between : (u : ℕ) → 64 < u → u < large → reaches u ≡ 0
    none_between u a b =
        by= (reaches u) 0 (λ e. e) (λ n. absurd (omega (arith, listed-size s W (reaches u) u (reach-in s W j u (reaches u) refl n).2)))

    pub pred-before : (z : ℕ) → 64 < z → Pred s z j (size_before s z j) (before s z j)
    unfolding size_before stands_at
    pred-before zero l = absurd (omega arith)
    pred-before (suc y) l =
        by< y large
        (λ m. at 64 (if<-yes y large _ _ m)
        (record { below = l; gap = λ u a b. none_between u a (omega arith); who = inl (refl, if<-yes 64 large _ _ (omega arith)) }))
        (λ m. by= (reaches y) 0
        (λ e. let P = pred-before y (omega arith) in
        at (size_before s y j) (if<-no y large _ _ m ∙ if=-yes (reaches y) 0 _ _ e)
        (record { below = omega (arith, P.below); gap = λ u a b. by= u y (λ k. rw k e) (λ k. P.gap u a (omega arith)); who = P.who }))
        (λ n. at y (if<-no y large _ _ m ∙ if=-no (reaches y) 0 _ _ n)
        (record {
          below = omega arith;
          gap = λ u a b. absurd (omega arith);
          who = inr (sym (if<-no y large _ _ m), λ o. n (sym (if<-no y large _ _ m) ∙ o), m);
        })))
      where
        at : (m : ℕ) → size_before s (suc y) j ≡ m → Pred s (suc y) j m (stands_at s j m) → Pred s (suc y) j (size_before s (suc y) j) (before s (suc y) j)
        at m e P = subst (λ (k : ℕ). Pred s (suc y) j k (stands_at s j k)) (sym e) P

    pub before-is : (z y w : ℕ) → 64 < z → Pred s z j y w → w ≡ before s z j
    before-is z y w l P = pred-same z y w (size_before s z j) (before s z j) P (pred-before z l)
