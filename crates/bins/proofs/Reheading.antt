-- A bin gets another first block, or loses its only one, or gets its first, on each of its levels: a run of stores that the state alone tells.
-- Those of a level are at words that the search on the levels below does not read.
use mathlib.Core.List.{List, [], ◌∷◌}
use mathlib.Core.Logic.{inl, inr}
use mathlib.Core.Path.{◌∙◌, ◌≡◌, ap, refl, sym}
use Prim.Native.Nat.{◌+◌, ◌-◌, ◌<◌, ◌≤◌, suc, zero, ℕ}
use native.Mathlib.Omega.{arith}
use Rattle.bins.proofs.Before.{before, before-is, on-lower, pred-before, size_before}
use Rattle.bins.proofs.Found.{Found, Names, along-found}
use Rattle.bins.proofs.Index.{Index, SparesAll, block-spares, index-lower, index-puts, level-spares}
use Rattle.bins.specs.Find.{along, found}
use Rattle.bins.specs.Head.{after, rehead, rehead_by, relink}
use Rattle.bins.specs.declared.chain.Bin.{Bin}
use Rattle.heads.specs.Links.{link_word}
use Rattle.levels.specs.Levels.{word_of}
use Rattle.paper.proofs.bins.Listed.{Loose}
use Rattle.paper.proofs.reads.LooseReads.{height-pos}
use Rattle.paper.proofs.runs.Walk.{In, in-low}
use Rattle.paper.proofs.sheet.Fields.{height-le}
use Rattle.paper.proofs.sheet.FreeWordLast.{puts-append}
use Rattle.paper.proofs.sheet.StoreRuns.{by_level}
use Rattle.paper.proofs.sheet.Stores.{puts}
use Rattle.paper.proofs.steps.EnterStep.{above-skip}
use Rattle.paper.proofs.steps.First.{Pred, link-puts, reach-at}
use Rattle.paper.specs.Bins.{first}
use Rattle.paper.specs.Blocks.{State, block, blocks, end, free}
use Rattle.paper.specs.Governed.{above, height, reach}
use Rattle.paper.specs.Layout.{blocks_at, large}
use Rattle.words.specs.Choice.{by=, if=-no, if=-yes}
use Rattle.words.specs.Words.{put_at}

-- the new first block, if there is one, is a free block of that size
abbrev pub Heir : State → ℕ → List ℕ → Type 0
Heir s z [] = Unit {0}
Heir s z (x ∷ vs) = (P : ℕ) × In (blocks s) blocks_at 1 x (block z free) P

module _ (s : State) (W : Loose s) (z : ℕ) (big : large ≤ z) where
  abbrev old : ℕ
  old = first (s.bins z)

  abbrev before-z : ℕ → ℕ
  before-z = before s z

  -- ---- on level j
  module _ (j : ℕ) (j1 : 1 ≤ j) (jh : j ≤ height s.top z) where
    P : Pred s z j (size_before s z j) (before-z j)
    P = pred-before s j W z (omega arith)

    j13 : j ≤ 13
    j13 = omega (arith, height-le s.top z, W.top13)

    reaches-z : reach s.top (end s) s.bins j z ≡ old
    reaches-z = reach-at s.top (end s) s.bins j z jh

    after_is : (cs : List ℕ) → Index s j cs → after cs (word_of j) (before-z j) old ≡ above s.top (end s) s.bins j z
    unfolding after
    after_is cs I =
        by= old 0
        (λ e. if=-yes old 0 _ _ e ∙ I.word j (size_before s z j) (before-z j) j1 (omega arith) P.who
        ∙ above-skip s W j (size_before s z j) z (omega (arith, P.below)) (λ u a b. by= u z (λ k. rw k (reaches-z ∙ e)) (λ k. P.gap u a (omega arith))))
        (λ n. if=-no old 0 _ _ n ∙ I.word j z old j1 (omega arith) (inr (reaches-z, n, big)))

    relink-stores : (vs : List ℕ) → Heir s z vs → (cs : List ℕ) → Index s j cs
        → relink cs j (before-z j) old (first vs) ≡ puts (link-puts s z before-z vs j) cs
    unfolding relink link-puts first
    relink-stores [] h cs I = if=-yes 0 0 _ _ refl ∙ ap (λ (k : ℕ). put_at 4 cs (before-z j + word_of j) (link_word (before-z j) k)) (after_is cs I)
    relink-stores (x ∷ vs) h cs I =
        if=-no x 0 _ _ (omega (arith, in-low (blocks s) blocks_at 1 x (block z free) h.0 h.1))
        ∙ ap (λ (k : ℕ). put_at 4 (put_at 4 cs (x + word_of j) (link_word x k)) (before-z j + word_of j) (link_word (before-z j) x)) (after_is cs I)

    -- they leave what the levels below read
    link-spares : (vs : List ℕ) → Heir s z vs → (i : ℕ) → i < j → SparesAll s i (link-puts s z before-z vs j)
    unfolding link-puts
    link-spares [] h i l = (level-spares s W i j (size_before s z j) (before-z j) l j13 P.who, tt)
    link-spares (x ∷ vs) h i l = (
      block-spares s W i x z h.0 (word_of j) big h.1 (omega (arith, j13)) (omega (arith, j13)),
      (level-spares s W i j (size_before s z j) (before-z j) l j13 P.who, tt),
    )

  -- the bin itself, where the search stops
  stop-names : (i : ℕ) → i ≤ height s.top z → Names s i z z (found i 0 old z)
  stop-names i l = by= old 0 (λ e. inl (e, refl)) (λ n. inr (reach-at s.top (end s) s.bins i z l, n, omega arith))

  module _ (vs : List ℕ) (h : Heir s z vs) where
    abbrev stores : ℕ → List (ℕ × ℕ)
    stores k = by_level k (link-puts s z before-z vs)

    by-stores : (k : ℕ) → suc k ≤ height s.top z → (cs : List ℕ) → Index s (suc k) cs
        → rehead_by k cs (before-z (suc k)) z old (first vs) ≡ puts (stores (suc k)) cs
    unfolding rehead_by
    by-stores zero l cs I =
        relink-stores 1 (omega arith) l vs h cs I
        ∙ sym (puts-append (link-puts s z before-z vs 1) [] cs)
    by-stores (suc k) l cs I =
        let ds : List ℕ = puts (link-puts s z before-z vs (suc (suc k))) cs in
        let J : Index s (suc k) ds = index-puts s (suc k) (link-puts s z before-z vs (suc (suc k))) cs (index-lower s (suc k) (suc (suc k)) cs (omega arith) I)
        (link-spares (suc (suc k)) (omega arith) l vs h (suc k) (omega arith)) in
        let P₂ : Pred s z (suc (suc k)) (size_before s z (suc (suc k))) (before-z (suc (suc k))) = pred-before s (suc (suc k)) W z (omega arith) in
        let F : Found s (suc k) z z (along ds (suc k) (found (suc k) (before-z (suc (suc k))) old z) z) =
        along-found s W z ds (suc k) (omega arith) J z (found (suc k) (before-z (suc (suc k))) old z) (stop-names (suc k) (omega arith))
        (size_before s z (suc (suc k))) (on-lower s (suc k) (suc (suc k)) _ _ (omega arith) P₂.who) P₂.below in
        ap (λ (t : List ℕ). rehead_by k t (along t (suc k) (found (suc k) (before-z (suc (suc k))) old z) z).before z old (first vs))
        (relink-stores (suc (suc k)) (omega arith) l vs h cs I)
        ∙ ap (λ (w : ℕ). rehead_by k ds w z old (first vs)) (before-is s (suc k) W z F.y _ (omega arith) F.pred)
        ∙ by-stores k (omega arith) ds J
        ∙ sym (puts-append (link-puts s z before-z vs (suc (suc k))) (stores (suc k)) cs)

    -- from the bin as it was found on its highest level
    pub rehead-stores : (cs : List ℕ) → Index s s.top cs → (bin : Bin) → bin.level ≡ height s.top z → (y : ℕ)
        → Pred s z (height s.top z) y bin.before
        → rehead cs bin z old (first vs) ≡ puts (stores (height s.top z)) cs
    unfolding rehead
    rehead-stores cs I bin e y A =
        let b : bin.before ≡ before-z (height s.top z) = before-is s (height s.top z) W z y bin.before (omega arith) A in
        let k : suc (height s.top z - 1) ≡ height s.top z = omega (arith, height-pos s W z) in
        (λ i. rehead_by (e i - 1) cs (b i) z old (first vs))
        ∙ ap (λ (m : ℕ). rehead_by (height s.top z - 1) cs (before-z m) z old (first vs)) (sym k)
        ∙ by-stores (height s.top z - 1) (omega arith) cs
        (index-lower s (suc (height s.top z - 1)) s.top cs (omega (arith, height-le s.top z)) I)
        ∙ ap (λ (m : ℕ). puts (stores m) cs) k
