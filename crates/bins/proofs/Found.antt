-- The search along the levels finds the bin of at least a size, and what stands before it on that level.
-- On a level it stands at a bin below the size, and what it reads next is `above`; what stands on a level stands on each below.
use mathlib.Core.List.{List}
use mathlib.Core.Logic.{◌≢◌, ◌⊎◌, inl, inr}
use mathlib.Core.Path.{◌∙◌, ◌≡◌, ap, refl, subst, sym}
use Prim.Native.Nat.{◌+◌, ◌-◌, ◌<◌, ◌≤◌, suc, zero, ℕ}
use native.Mathlib.Omega.{arith}
use Rattle.bins.proofs.Before.{from-least, on-lower}
use Rattle.bins.proofs.Index.{Index, index-lower}
use Rattle.bins.specs.Find.{along, down, down_by, exact, find_on, found, linked_at, search, size_at, walk}
use Rattle.bins.specs.declared.chain.Bin.{Bin}
use Rattle.levels.proofs.Levels.{height-start, start-le}
use Rattle.levels.specs.Levels.{start_of, word_of}
use Rattle.paper.proofs.bins.Listed.{Loose}
use Rattle.paper.proofs.reads.LooseReads.{above-none, above-some, bin-unique, height-pos, listed-size, reach-in}
use Rattle.paper.proofs.steps.First.{OnLevel, Pred, reach-at, reach-is}
use Rattle.paper.specs.Blocks.{State, end}
use Rattle.paper.specs.Governed.{above, height, reach}
use Rattle.paper.specs.Layout.{false_block, large}
use Rattle.words.specs.Choice.{by<, by=, if<-no, if<-yes, if=-no, if=-yes}

-- the bin has at least that size and stands on level i; or there is none, and n stands for its size
abbrev pub Names : State → ℕ → ℕ → ℕ → Bin → Type 0
Names s i least n bin =
    ((bin.first ≡ 0) × (bin.size ≡ n))
    ⊎ ((reach s.top (end s) s.bins i bin.size ≡ bin.first) × (bin.first ≢ 0) × (least ≤ bin.size))

-- what is found on level i for a size: the next bin there, and past which bin y it stands
pub record Found (s : State) (i least n : ℕ) (bin : Bin) : Type 0 where
  pub level : bin.level ≡ i
  pub y : ℕ
  pub pred : Pred s least i y bin.before
  pub next : bin.first ≡ above s.top (end s) s.bins i y
  pub names : Names s i least n bin

names-lower : (s : State) (i j least n : ℕ) (bin : Bin) → i ≤ j → Names s j least n bin → Names s i least n bin
names-lower s i j least n bin l (inl b) = inl b
names-lower s i j least n bin l (inr b) =
    let r = reach-is s.top (end s) s.bins j bin.size bin.first b.0 b.1 in
    inr (reach-at s.top (end s) s.bins i bin.size (omega (arith, r.1)) ∙ r.0, b.1, b.2)

-- what is found past y: no bin stands between
pub next-is : (s : State) (W : Loose s) (i y z : ℕ) → reach s.top (end s) s.bins i z ≢ 0
    → above s.top (end s) s.bins i y ≡ reach s.top (end s) s.bins i z
    → (y < z) × ((u : ℕ) → y < u → u < z → reach s.top (end s) s.bins i u ≡ 0)
next-is s W i y z n e =
    let m = above-some s W i y (λ o. n (sym e ∙ o)) in
    let same : m.0 ≡ z = bin-unique s W _ m.0 z (reach-in s W i m.0 _ (m.2 ∙ e) n).2 (reach-in s W i z _ refl n).2 in
    (omega (arith, m.1), λ u a b. m.3 u a (omega arith))

module _ (s : State) (W : Loose s) (least : ℕ) where
  -- ---- one level
  module _ (cs : List ℕ) (i : ℕ) (i1 : 1 ≤ i) (I : Index s i cs) (n : ℕ) (bin : Bin) (stop : Names s i least n bin) where
    abbrev next-bin : ℕ → ℕ
    next-bin = above s.top (end s) s.bins i

    -- a bin of at least that size stands farther on
    not_none : (y : ℕ) → y < least → next-bin y ≢ bin.first → next-bin y ≢ 0
    not_none y lt d e = go stop
      where
        go : Names s i least n bin → ⊥
        go (inl b) = d (e ∙ sym b.0)
        go (inr b) = b.1 (sym b.0 ∙ above-none s W i y e bin.size (omega (arith, b.2)))

    at-stop : (y before : ℕ) → OnLevel s i y before → y < least → next-bin y ≡ bin.first → Found s i least n (found i before bin.first bin.size)
    at-stop y before who lt e =
        record { level = refl; y = y; pred = record { below = lt; gap = gap stop; who = who }; next = sym e; names = stop }
      where
        gap : Names s i least n bin → (u : ℕ) → y < u → u < least → reach s.top (end s) s.bins i u ≡ 0
        gap (inl b) u a c = above-none s W i y (e ∙ b.0) u a
        gap (inr b) u a c = (next-is s W i y bin.size (λ o. b.1 (sym b.0 ∙ o)) (e ∙ sym b.0)).1 u a (omega (arith, b.2))

    walk-found : (k below y before first' : ℕ) → OnLevel s i y before → y < least → below ≤ y → least < k + below
        → first' ≡ next-bin y → Found s i least n (walk k cs i bin least before below first')
    unfolding walk
    walk-found zero below y before first' who lt le fuel e = absurd (omega arith)
    walk-found (suc k) below y before first' who lt le fuel e =
        by= first' bin.first
        (λ o. subst (Found s i least n) (sym (if=-yes first' bin.first _ _ o)) (at-stop y before who lt (sym e ∙ o)))
        (λ d. let n0 : first' ≢ 0 = (λ o. not_none y lt (λ k. d (e ∙ k)) (sym e ∙ o)) in
        let m = above-some s W i y (λ o. n0 (e ∙ o)) in
        let fz : reach s.top (end s) s.bins i m.0 ≡ first' = m.2 ∙ sym e in
        let r = reach-in s W i m.0 first' fz n0 in
        let sz : size_at cs first' ≡ m.0 = I.sized first' m.0 r.2 in
        let big : large ≤ m.0 = omega (arith, m.1, from-least s i y before who, listed-size s W first' m.0 r.2) in
        by< m.0 least
        (λ a. let rise : below < size_at cs first' = omega (arith, m.1) in
        subst (Found s i least n)
        (sym (if=-no first' bin.first _ _ d ∙ if<-yes (size_at cs first') least _ _ (omega arith) ∙ if<-yes below (size_at cs first') _ _ rise))
        (walk-found k (size_at cs first') m.0 first' (linked_at cs first' (word_of i)) (inr (fz, n0, big)) a (omega arith) (omega (arith, m.1))
        (I.word i m.0 first' i1 (omega arith) (inr (fz, n0, big)))))
        (λ a. subst (Found s i least n) (sym (if=-no first' bin.first _ _ d ∙ if<-no (size_at cs first') least _ _ (omega arith)))
        (record {
          level = refl;
          y = y;
          pred = record { below = lt; gap = λ u b c. m.3 u b (omega arith); who = who };
          next = e;
          names = inr (ap (reach s.top (end s) s.bins i) sz ∙ fz, n0, omega arith);
        })))

    -- from where the level above was left, up to what comes next there
    pub along-found : (y : ℕ) → OnLevel s i y bin.before → y < least → Found s i least n (along cs i bin least)
    unfolding along
    along-found y who lt =
        walk-found (suc least) 0 y bin.before (linked_at cs bin.before (word_of i)) who lt (omega arith) (omega arith)
        (I.word i y bin.before i1 (omega arith) who)

  -- ---- level by level
  module _ (cs : List ℕ) (to : ℕ) (to1 : 1 ≤ to) where
    down-by-found : (k : ℕ) → Index s (to + k) cs → (bin : Bin) → Found s (to + k) least 0 bin → Found s to least 0 (down_by k cs bin to least)
    unfolding down_by
    down-by-found zero I bin F = subst (λ (i : ℕ). Found s i least 0 bin) (omega arith) F
    down-by-found (suc k) I bin F =
        let J : Index s (to + k) cs = index-lower s (to + k) (to + suc k) cs (omega arith) I in
        down-by-found k J (along cs (to + k) bin least)
        (along-found cs (to + k) (omega arith) J 0 bin (names-lower s (to + k) (to + suc k) least 0 bin (omega arith) F.names)
        F.y (on-lower s (to + k) (to + suc k) F.y bin.before (omega arith) F.pred.who) F.pred.below)

    -- from a block that stands on level i
    search-found : (i y before : ℕ) → to ≤ i → Index s i cs → OnLevel s i y before → y < least → Found s to least 0 (search cs i before to least)
    unfolding search down
    search-found i y before l I who lt =
        let at : Bin = along cs i (found i before 0 0) least in
        let F : Found s i least 0 at = along-found cs i (omega arith) I 0 (found i before 0 0) (inl (refl, refl)) y who lt in
        let k : i ≡ to + (at.level - to) = omega (arith, F.level) in
        down-by-found (at.level - to) (subst (λ (j : ℕ). Index s j cs) k I) at (subst (λ (j : ℕ). Found s j least 0 at) k F)

-- ---- the whole search
module _ (s : State) (W : Loose s) (cs : List ℕ) (I : Index s s.top cs) where
  -- the bin of a size, or where it would stand, on its highest level
  pub exact-found : (z : ℕ) → large ≤ z → z ≤ 65536 → Found s (height s.top z) z 0 (exact cs z)
  unfolding exact
  exact-found z big near =
      let t : start_of s.top z ≤ s.top = start-le s.top z (omega arith) in
      rw I.top (search-found s W z cs (height s.top z) (height-pos s W z) (start_of s.top z) 64 false_block (height-start s.top z (omega arith))
      (index-lower s (start_of s.top z) s.top cs t I) (inl (refl, refl)) (omega arith))

  -- past what was found for a smaller size
  pub find-on-found : (i less least : ℕ) (bin : Bin) → 1 ≤ i → i ≤ s.top → Found s i less 0 bin → less ≤ least → Found s 1 least 0 (find_on cs bin least)
  unfolding find_on
  find-on-found i less least bin i1 it F l =
      by= bin.level 1
      (λ e. by= bin.first 0
      (λ o. subst (Found s 1 least 0) (sym (if=-yes bin.level 1 _ _ e ∙ if=-yes bin.first 0 _ _ o)) (still e o))
      (λ n. subst (Found s 1 least 0) (sym (if=-yes bin.level 1 _ _ e ∙ if=-no bin.first 0 _ _ n)) on))
      (λ d. subst (Found s 1 least 0) (sym (if=-no bin.level 1 _ _ d)) on)
    where
      on : Found s 1 least 0 (search cs bin.level bin.before 1 least)
      on =
          rw F.level (search-found s W least cs 1 (omega arith) i F.y bin.before i1 (index-lower s i s.top cs it I) F.pred.who
          (omega (arith, F.pred.below)))

      still : bin.level ≡ 1 → bin.first ≡ 0 → Found s 1 least 0 bin
      still e o =
          let one : i ≡ 1 = sym F.level ∙ e in
          record {
            level = e;
            y = F.y;
            pred = record {
              below = omega (arith, F.pred.below);
              gap = λ u a b. above-none s W 1 F.y (none one) u a;
              who = subst (λ (k : ℕ). OnLevel s k F.y bin.before) one F.pred.who;
            };
            next = o ∙ sym (none one);
            names = inl (o, none-size F.names);
          }
        where
          none : i ≡ 1 → above s.top (end s) s.bins 1 F.y ≡ 0
          none one = ap (λ (k : ℕ). above s.top (end s) s.bins k F.y) (sym one) ∙ sym F.next ∙ o

          none-size : Names s i less 0 bin → bin.size ≡ 0
          none-size (inl b) = b.1
          none-size (inr b) = absurd (b.1 o)
