-- The index words of a block, level by level: where each way out of the tests leads, and that the loops along the levels go on.
use mathlib.Core.Bool.{Bool, false, true}
use mathlib.Core.List.{List, [], ◌∷◌}
use mathlib.Core.Path.{◌∙◌, ◌≡◌, ap, refl, sym}
use Prim.Native.Nat.{◌+◌, ◌-◌, ◌<◌, ◌≤◌, suc, zero, ℕ}
use native.Mathlib.Omega.{arith}
use lib.Dec.{eqb}
use lib.ListN.{get_or, set}
use Rattle.guards.proofs.Guards.{guard-fail, guard-yes, no_both, pass-no}
use Rattle.guards.specs.Tests.{less, pass, same}
use Rattle.header.proofs.Laws.{link-true, true-link}
use Rattle.heads.specs.Links.{followed, link_word}
use Rattle.levels.specs.Levels.{word_of}
use Rattle.lists.specs.Index.{Awaited, astray, awaiting, climb, climbed, ended, first_tests, first_indexed, indexed, link_test, next_on, nothing}
use Rattle.paper.specs.Governed.{height}
use Rattle.paper.specs.Layout.{chain_at, level_at, levels}
use Rattle.words.specs.Choice.{if=-no, if=-yes}
use Rattle.words.specs.Words.{word_at}

-- ---- levels that await nothing

pub record Passing (ws : List ℕ) (i : ℕ) : Type 0 where
  pub within : i ≤ levels - 1
  pub all : nothing (levels - 1) 0 ws ≡ nothing (levels - 1 - i) i ws

pub passing : (ws : List ℕ) → Passing ws 0
passing ws = record { within = omega arith; all = refl }

nothing-end : (c i : ℕ) (ws : List ℕ) → c ≡ 0 → nothing c i ws ≡ true
unfolding nothing
nothing-end zero i ws e = refl
nothing-end (suc c) i ws e = absurd (omega arith)

nothing-bad : (c i : ℕ) (ws : List ℕ) → (get_or ws i 0 ≡ 0 → ⊥) → nothing (suc c) i ws ≡ false
unfolding nothing
nothing-bad c i ws n = if=-no (get_or ws i 0) 0 _ _ n

nothing-on : (c i : ℕ) (ws : List ℕ) → get_or ws i 0 ≡ 0 → nothing (suc c) i ws ≡ nothing c (i + 1) ws
unfolding nothing
nothing-on c i ws e = if=-yes (get_or ws i 0) 0 _ _ e

module _ {ws : List ℕ} {i : ℕ} (g : Passing ws i) where
  pub none_is : levels - 1 ≤ i → true ≡ nothing (levels - 1) 0 ws
  none_is l = sym (g.all ∙ nothing-end (levels - 1 - i) i ws (omega arith))

  module _ (l : i < levels - 1) where
    here : levels - 1 - i ≡ suc (levels - 1 - (i + 1))
    here = omega arith

    pub some_is : (get_or ws i 0 ≡ 0 → ⊥) → false ≡ nothing (levels - 1) 0 ws
    some_is n = sym (g.all ∙ ap (λ (c : ℕ). nothing c i ws) here ∙ nothing-bad (levels - 1 - (i + 1)) i ws n)

    pub passes : get_or ws i 0 ≡ 0 → Passing ws (i + 1)
    passes e = record { within = omega arith; all = g.all ∙ ap (λ (c : ℕ). nothing c i ws) here ∙ nothing-on (levels - 1 - (i + 1)) i ws e }

-- ---- the levels of a block

pub record Climbing (s ws₀ : List ℕ) (h f : ℕ) (ws : List ℕ) (level : ℕ) : Type 0 where
  pub low : 2 ≤ level
  pub all : climb s (h - 1) 2 f ws₀ ≡ climb s (suc h - level) level f ws

pub climbing : (s ws : List ℕ) (h f : ℕ) → Climbing s ws h f ws 2
climbing s ws h f = record { low = omega arith; all = ap (λ (c : ℕ). climb s c 2 f ws) (omega arith) }

pub too-high : (s ws : List ℕ) (h f : ℕ) → levels < h → astray ≡ climbed s h f ws
unfolding climbed
too-high s ws h f l = sym (guard-fail (less h (suc levels) ∷ []) astray _ (sym (pass-no (less h (suc levels) ∷ []) (λ t. omega (arith, t.0)))))

module _ (s : List ℕ) where
  climb-end : (c j f : ℕ) (ws : List ℕ) → c ≡ 0 → climb s c j f ws ≡ awaiting ws
  unfolding climb
  climb-end zero j f ws e = refl
  climb-end (suc c) j f ws e = absurd (omega arith)

  climb-bad : (c j f : ℕ) (ws : List ℕ) → pass (same (get_or ws (j - 2) 0) f ∷ link_test s j f ∷ []) ≡ false → climb s (suc c) j f ws ≡ astray
  unfolding climb
  climb-bad c j f ws h = guard-fail (same (get_or ws (j - 2) 0) f ∷ link_test s j f ∷ []) astray _ h

  climb-on : (c j f : ℕ) (ws : List ℕ) → get_or ws (j - 2) 0 ≡ f → word_at 4 s (f + word_of j) ≡ link_word f (next_on s j f)
      → climb s (suc c) j f ws ≡ climb s c (j + 1) f (set ws (j - 2) (next_on s j f))
  unfolding climb
  climb-on c j f ws a l = guard-yes (same (get_or ws (j - 2) 0) f ∷ link_test s j f ∷ []) astray _ (a, (l, tt))

module _ {s ws₀ : List ℕ} {h f : ℕ} {ws : List ℕ} {level : ℕ} (g : Climbing s ws₀ h f ws level) (l : h ≤ levels) where
  bounded : climbed s h f ws₀ ≡ climb s (h - 1) 2 f ws₀
  unfolding climbed
  bounded = guard-yes (less h (suc levels) ∷ []) astray _ (omega arith, tt)

  pub is-climbed : h < level → awaiting ws ≡ climbed s h f ws₀
  is-climbed e = sym (bounded ∙ g.all ∙ climb-end s (suc h - level) level f ws (omega arith))

  module _ (m : level ≤ h) where
    step : climbed s h f ws₀ ≡ climb s (suc (suc h - (level + 1))) level f ws
    step = bounded ∙ g.all ∙ ap (λ (c : ℕ). climb s c level f ws) (omega arith)

    pub not-awaited : (get_or ws (level - 2) 0 ≡ f → ⊥) → astray ≡ climbed s h f ws₀
    not-awaited n =
        sym (step ∙ climb-bad s (suc h - (level + 1)) level f ws
        (sym (pass-no (same (get_or ws (level - 2) 0) f ∷ link_test s level f ∷ []) (λ t. n t.0))))

    -- what was read as its word there
    module _ {o w : ℕ} {b : Bool} (eo : o ≡ word_of level) (ew : w ≡ word_at 4 s (f + o)) (eb : b ≡ eqb w (link_word f (followed f w))) where
      there : w ≡ word_at 4 s (f + word_of level)
      there = ew ∙ ap (λ (k : ℕ). word_at 4 s (f + k)) eo

      pub no-link-there : b ≡ false → astray ≡ climbed s h f ws₀
      no-link-there n =
          sym (step ∙ climb-bad s (suc h - (level + 1)) level f ws
          (sym (pass-no (same (get_or ws (level - 2) 0) f ∷ link_test s level f ∷ []) (λ t. no_both (sym n ∙ true-link f eb there t.1.0)))))

      pub climbs : {v : ℕ} {ws' : List ℕ} → get_or ws (level - 2) 0 ≡ f → b ≡ true → v ≡ followed f w → ws' ≡ set ws (level - 2) v
          → Climbing s ws₀ h f ws' (level + 1)
      climbs {v} {ws'} a n ev es =
          record {
            low = omega (arith, g.low);
            all = sym bounded ∙ step ∙ climb-on s (suc h - (level + 1)) level f ws a (link-true f eb there n)
                ∙ ap (climb s (suc h - (level + 1)) (level + 1) f) (ap (set ws (level - 2)) (ap (followed f) (sym there) ∙ sym ev) ∙ sym es);
          }

-- ---- the whole of a block's index words, by the chain word and the levels above

module _ (s : List ℕ) (h f : ℕ) (ws : List ℕ) {w : ℕ} {b : Bool} (ew : w ≡ word_at 4 s (f + chain_at)) (eb : b ≡ eqb w (link_word f (followed f w))) where
  pub no-chain-link : b ≡ false → astray ≡ indexed s h f ws
  unfolding indexed
  no-chain-link n =
      sym (guard-fail (link_test s 1 f ∷ []) astray _ (sym (pass-no (link_test s 1 f ∷ []) (λ t. no_both (sym n ∙ true-link f eb ew t.0)))))

  module _ (n : b ≡ true) where
    pub on-climbed : {x : Awaited} → x ≡ climbed s h f ws → x ≡ indexed s h f ws
    unfolding indexed
    on-climbed ex = ex ∙ sym (guard-yes (link_test s 1 f ∷ []) astray _ (link-true f eb ew n, tt))

    pub one-level : h ≡ 1 → awaiting ws ≡ indexed s h f ws
    unfolding climbed climb
    one-level e =
        on-climbed (ap (λ (c : ℕ). climb s (c - 1) 2 f ws) (sym e) ∙ sym (guard-yes (less h (suc levels) ∷ []) astray _ (omega arith, tt)))

-- ---- a first block, by its size and its level word

module _ (s : List ℕ) (t y z f : ℕ) (ws : List ℕ) where
  pub not-larger : z ≤ y → astray ≡ first_indexed s t y z f ws
  unfolding first_indexed
  not-larger l = sym (guard-fail (first_tests s t y z f) astray _ (sym (pass-no (first_tests s t y z f) (λ p. omega (arith, p.0)))))

  module _ {h w : ℕ} (eh : h ≡ height t z) (ew : w ≡ word_at 4 s (f + level_at)) where
    pub other-height : (w ≡ h → ⊥) → astray ≡ first_indexed s t y z f ws
    unfolding first_indexed
    other-height n = sym (guard-fail (first_tests s t y z f) astray _ (sym (pass-no (first_tests s t y z f) (λ p. n (ew ∙ p.1.0 ∙ sym eh)))))

    pub on-indexed : {x : Awaited} → y < z → w ≡ h → x ≡ indexed s h f ws → x ≡ first_indexed s t y z f ws
    unfolding first_indexed
    on-indexed l e ex =
        ex ∙ ap (λ (k : ℕ). indexed s k f ws) eh ∙ sym (guard-yes (first_tests s t y z f) astray _ (l, (sym ew ∙ e ∙ eh, tt)))

-- ---- at the end

module _ (t : ℕ) (ws : List ℕ) where
  pub one_ended : t ≡ 1 → true ≡ ended t ws
  unfolding ended
  one_ended e = sym (if=-yes t 1 _ _ e)

  pub all-ended : {b : Bool} → (t ≡ 1 → ⊥) → b ≡ nothing (levels - 1) 0 ws → b ≡ ended t ws
  unfolding ended
  all-ended n e = e ∙ sym (if=-no t 1 _ _ n)
