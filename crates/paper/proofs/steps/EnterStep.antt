-- A free large block that stands in no list enters its bin: one step from sheet to sheet, in second place or as the only one.
use mathlib.Core.List.{List, [], ◌∷◌}
use mathlib.Core.Logic.{◌≢◌, inl, inr}
use mathlib.Core.Path.{◌∙◌, ◌≡◌, ap, refl, subst, sym}
use Prim.Native.Nat.{◌<◌, ◌≤◌, suc, ℕ}
use native.Mathlib.Omega.{arith}
use Rattle.paper.proofs.bins.BinLaws.{count-rebin-enter}
use Rattle.paper.proofs.bins.Bins.{empty, nil-of}
use Rattle.paper.proofs.steps.Enter.{enter-frame, enter-good, enter-puts, rebin-back}
use Rattle.paper.proofs.steps.First.{OnLevel, Pred}
use Rattle.paper.proofs.steps.Leave.{reach-same}
use Rattle.paper.proofs.steps.Leaving.{rebinned}
use Rattle.paper.proofs.bins.Listed.{Loose, rebin-other, rebin-same, start}
use Rattle.paper.proofs.reads.LooseReads.{above-none, above-some, no-zero-listed, reach-in}
use Rattle.paper.proofs.steps.Only.{only-frame, only-good, only-puts}
use Rattle.paper.proofs.sheet.Phases.{Step}
use Rattle.paper.proofs.bins.Seek.{seek-cong, seek-gap, seek-zero}
use Rattle.paper.proofs.runs.Walk.{In}
use Rattle.paper.specs.Bins.{count, enter, first}
use Rattle.paper.specs.Blocks.{Block, State, block, blocks, end, free}
use Rattle.paper.specs.Governed.{above, height, reach, sheet}
use Rattle.paper.specs.Layout.{blocks_at, large}
use Rattle.words.specs.Choice.{by<, by=, if=, if=-no, if=-yes}

-- a list by its first
pub split-first : (xs : List ℕ) (f : ℕ) → first xs ≡ f → f ≢ 0 → (vs : List ℕ) × (xs ≡ f ∷ vs)
unfolding first
split-first [] f e n = absurd (n (sym e))
split-first (x ∷ xs) f e n = (xs, ap (λ (k : ℕ). k ∷ xs) e)

module _ (s : State) (W : Loose s) where
  pub no-first : (z : ℕ) → first (s.bins z) ≡ 0 → s.bins z ≡ []
  no-first z e = nil-of (s.bins z) (λ x. empty (s.bins z) x e (no-zero-listed s W z))

  -- past bins that do not stand in level j, the next one is the same
  pub above-skip : (j y z : ℕ) → y ≤ z → ((u : ℕ) → y < u → u ≤ z → reach s.top (end s) s.bins j u ≡ 0)
      → above s.top (end s) s.bins j y ≡ above s.top (end s) s.bins j z
  unfolding above
  above-skip j y z le gap =
      by= (above s.top (end s) s.bins j y) 0
      (λ e. e ∙ sym (seek-zero (reach s.top (end s) s.bins j) (end s) (suc z) (λ u a. above-none s W j y e u (omega arith))))
      (λ n. let m = above-some s W j y n in
      let far : z < m.0 = by< z m.0 (λ a. a) (λ a. absurd (n (sym m.2 ∙ gap m.0 m.1 a))) in
      let r = reach-in s W j m.0 _ m.2 n in
      sym m.2
      ∙ sym (seek-gap (reach s.top (end s) s.bins j) m.0 (λ o. n (sym m.2 ∙ o)) (end s) (suc z) far
      (omega (arith, start s W m.0 _ r.2)) (λ u a b. m.3 u (omega arith) b)))

module _ (s : State) (W : Loose s) (q z P : ℕ) (at : In (blocks s) blocks_at 1 q (block z free) P) (un : count q (s.bins z) ≡ 0) where
  abbrev pub entered : State
  entered = rebinned s z (enter q (s.bins z))

  pub entering-loose : Loose entered
  entering-loose =
      record {
        sized = W.sized;
        top1 = W.top1;
        top13 = W.top13;
        once = λ y x. by= z y
            (λ e. by= q x
            (λ f. omega (arith, count-rebin-enter s.bins z q y x, if=-yes {A = ℕ} z y (if= q x 1 0) 0 e, if=-yes {A = ℕ} q x 1 0 f, here y x e f))
            (λ n. omega (arith, count-rebin-enter s.bins z q y x, if=-yes {A = ℕ} z y (if= q x 1 0) 0 e, if=-no {A = ℕ} q x 1 0 n, W.once y x)))
            (λ n. omega (arith, count-rebin-enter s.bins z q y x, if=-no {A = ℕ} z y (if= q x 1 0) 0 n, W.once y x));
        found = λ y x i. by= z y
            (λ e. by= q x
            (λ f. (
              P,
              subst (λ (b : Block). In (blocks s) blocks_at 1 x b P) (ap (λ (k : ℕ). block k free) e)
                  (subst (λ (k : ℕ). In (blocks s) blocks_at 1 k (block z free) P) f at),
            ))
            (λ n. W.found y x (omega (arith, count-rebin-enter s.bins z q y x, if=-yes {A = ℕ} z y (if= q x 1 0) 0 e, if=-no {A = ℕ} q x 1 0 n))))
            (λ n. W.found y x (omega (arith, count-rebin-enter s.bins z q y x, if=-no {A = ℕ} z y (if= q x 1 0) 0 n)));
      }
    where
      here : (y x : ℕ) → z ≡ y → q ≡ x → count x (s.bins y) ≡ 0
      here y x e f = sym (λ i. count (f i) (s.bins (e i))) ∙ un

  pub entering-back : rebinned entered z (s.bins z) ≡ s
  entering-back =
      λ i. record {
        top = s.top;
        low = s.low;
        rest = s.rest;
        high = s.high;
        bins = rebin-back s.bins z (s.bins z) (enter q (s.bins z)) refl i;
      }

  -- bins of other sizes are as they were
  entered-reach : (j u : ℕ) → u ≢ z → reach s.top (end s) entered.bins j u ≡ reach s.top (end s) s.bins j u
  entered-reach j u n =
      reach-same s.top (end s) s.bins entered.bins j u (ap first (rebin-other s.bins z (enter q (s.bins z)) u n))

  pub entered-pred : (j y w : ℕ) → Pred s z j y w → Pred entered z j y w
  entered-pred j y w A =
      record {
        below = A.below;
        gap = λ u a b. entered-reach j u (omega arith) ∙ A.gap u a b;
        who = side A.who;
      }
    where
      side : OnLevel s j y w → OnLevel entered j y w
      side (inl b) = inl b
      side (inr b) = inr (entered-reach j y (omega (arith, A.below)) ∙ b.0, b.1, b.2)

  pub entered-above : (j : ℕ) → above s.top (end s) entered.bins j z ≡ above s.top (end s) s.bins j z
  unfolding above
  entered-above j =
      seek-cong (reach s.top (end s) entered.bins j) (reach s.top (end s) s.bins j) (end s) (suc z)
      (λ u a. entered-reach j u (omega arith))

  module _ (is-large : large ≤ z) where
    pub second-step : (u : ℕ) (vs : List ℕ) → s.bins z ≡ u ∷ vs → Step (end s) (sheet s) (sheet entered) (enter-puts u [] q vs)
    unfolding enter
    second-step u vs e =
        subst (λ (t : State). Step (end s) (sheet t) (sheet entered) (enter-puts u [] q vs))
        (ap (λ (l : List ℕ). rebinned entered z l) (sym e) ∙ entering-back)
        (record {
          good = enter-good entered entering-loose z q u [] vs is-in is-large;
          frame = λ a al _ o. enter-frame entered entering-loose z q u [] vs is-in is-large a al o;
        })
      where
        is-in : entered.bins z ≡ u ∷ q ∷ vs
        is-in = rebin-same s.bins z (enter q (s.bins z)) ∙ ap (enter q) e

    pub only_step : s.bins z ≡ [] → (y w : ℕ → ℕ) → ((j : ℕ) → 1 ≤ j → j ≤ height s.top z → Pred s z j (y j) (w j))
        → Step (end s) (sheet s) (sheet entered) (only-puts entered z q w)
    unfolding enter
    only_step e y w preds =
        subst (λ (t : State). Step (end s) (sheet t) (sheet entered) (only-puts entered z q w))
        (ap (λ (l : List ℕ). rebinned entered z l) (sym e) ∙ entering-back)
        (record {
          good = only-good entered entering-loose z q is-in is-large y w preds';
          frame = λ a al _ o. only-frame entered entering-loose z q is-in is-large y w preds' a al o;
        })
      where
        is-in : entered.bins z ≡ q ∷ []
        is-in = rebin-same s.bins z (enter q (s.bins z)) ∙ ap (enter q) e

        preds' : (j : ℕ) → 1 ≤ j → j ≤ height s.top z → Pred entered z j (y j) (w j)
        preds' j j1 jh = entered-pred j (y j) (w j) (preds j j1 jh)
