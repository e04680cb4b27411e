-- Where each way out of the tests at fixed places leads.
use mathlib.Core.Path.{◌≡◌, refl, sym, ap, ap₂, ◌∙◌, subst}
use mathlib.Core.Bool.{Bool, true, false, not}
use mathlib.Core.List.{List}
use Prim.Native.Nat.{ℕ, zero, suc, ◌+◌, ◌-◌, ◌*◌, ◌%◌, ◌≤◌, ◌<◌}
use native.Mathlib.Nat.{add-mul}
use native.Mathlib.Omega.{arith}
use lib.Bits.{and_le_l, and_le_r, bit_or, or_add_and, or_zero_l}
use lib.ListN.{length}
use lib.Dec.{eqb}
use borrow.Author.Tests.{eq-eqb, ne_eqb, eqb-true}
use Rattle.words.specs.Choice.{if=, if=-yes, if=-no, by=}
use Rattle.words.specs.Sums.{plus, minus}
use Rattle.words.specs.Words.{word_at}
use Rattle.heads.specs.Heads.{free_head}
use Rattle.heads.specs.Links.{link_word, followed}
use Rattle.guards.specs.Tests.{pass}
use Rattle.levels.specs.Levels.{top_of}
use Rattle.paper.specs.Layout.{blocks_at, chain_at, false_block, false_word_at, level_at, levels}
use Rattle.header.specs.Header.{cleared, rest_between, reserved_tests, false_tests}
use Rattle.guards.proofs.Guards.{guard-inv, guard-yes, no_both, pass-is, pass-no, passed}

-- ---- links

-- no distance is written as 0
pub no-link : (q w : ℕ) → w ≡ 0 → true ≡ eqb w (link_word q (followed q w))
unfolding link_word followed
no-link q w e = sym (eq-eqb _ _ (e ∙ sym (if=-yes _ 0 _ _ (if=-yes w 0 _ _ e))))

-- a distance that leads nowhere would be written as 0, and any other comes back
pub linked : (q w : ℕ) {t : ℕ} → q < 4294967296 → w < 4294967296 → (w ≡ 0 → ⊥) → t ≡ followed q w
    → not (eqb t 0) ≡ eqb w (link_word q (followed q w))
unfolding link_word followed
linked q w {t} lq lw n e =
    let there : followed q w ≡ plus q w = if=-no w 0 _ _ n in
    by= t 0
    (λ h. ap not (eq-eqb t 0 h) ∙ sym (ne_eqb _ _ (λ k. n (k ∙ if=-yes _ 0 _ _ (sym e ∙ h)))))
    (λ h. ap not (ne_eqb t 0 h) ∙ sym (eq-eqb _ _ (sym (if=-no _ 0 _ _ (λ k. h (e ∙ k)) ∙ ap (λ (v : ℕ). minus v q) there ∙ omega arith))))

pub link-true : (q : ℕ) {b : Bool} {w l : ℕ} → b ≡ eqb w (link_word q (followed q w)) → w ≡ l → b ≡ true → l ≡ link_word q (followed q l)
link-true q {b} {w} {l} e f h = subst (λ (v : ℕ). v ≡ link_word q (followed q v)) f (eqb-true _ _ (sym e ∙ h))

pub true-link : (q : ℕ) {b : Bool} {w l : ℕ} → b ≡ eqb w (link_word q (followed q w)) → w ≡ l → l ≡ link_word q (followed q l) → b ≡ true
true-link q {b} {w} {l} e f h = e ∙ eq-eqb _ _ (subst (λ (v : ℕ). v ≡ link_word q (followed q v)) (sym f) h)

-- ---- words that are 0: those so far together, and what is left of them decides

-- a number of which each bit is one of two others' is 0 where they are
either-zero : (a b : ℕ) → bit_or a b ≡ 0 → (a ≡ 0) × (b ≡ 0)
either-zero a b h = (omega (arith, or_add_and a b, and_le_r a b), omega (arith, or_add_and a b, and_le_l a b))

-- i of the k words are seen, and `all` has them together
pub record Clearing (s : List ℕ) (k st from : ℕ) (all i : ℕ) : Type 0 where
  pub rest : cleared s k st from ≡ if= all 0 (cleared s (k - i) st (from + i * st)) false

pub clearing : (s : List ℕ) (k st from : ℕ) → Clearing s k st from 0 0
clearing s k st from =
    record { rest = sym (if=-yes 0 0 _ _ refl ∙ ap₂ (λ (n at : ℕ). cleared s n st at) (omega arith) (omega arith)) }

clear-end : (s : List ℕ) (n st at : ℕ) → n ≡ 0 → cleared s n st at ≡ true
unfolding cleared
clear-end s zero st at e = refl
clear-end s (suc n) st at e = absurd (omega arith)

clear-on : (s : List ℕ) (all n st at : ℕ) → if= all 0 (cleared s (suc n) st at) false ≡ if= (bit_or all (word_at 4 s at)) 0 (cleared s n st (at + st)) false
unfolding cleared
clear-on s all n st at =
    by= all 0
    (λ e. by= (word_at 4 s at) 0
    (λ f. if=-yes all 0 _ _ e ∙ if=-yes (word_at 4 s at) 0 _ _ f
    ∙ sym (if=-yes (bit_or all (word_at 4 s at)) 0 _ _ (ap (λ (v : ℕ). bit_or v (word_at 4 s at)) e ∙ or_zero_l (word_at 4 s at) ∙ f)))
    (λ f. if=-yes all 0 _ _ e ∙ if=-no (word_at 4 s at) 0 _ _ f
    ∙ sym (if=-no (bit_or all (word_at 4 s at)) 0 _ _ (λ h. f (either-zero all (word_at 4 s at) h).1))))
    (λ e. if=-no all 0 _ _ e ∙ sym (if=-no (bit_or all (word_at 4 s at)) 0 _ _ (λ h. e (either-zero all (word_at 4 s at) h).0)))

module _ {s : List ℕ} {k st from all i : ℕ} (g : Clearing s k st from all i) where
  pub is-cleared : k ≤ i → eqb all 0 ≡ cleared s k st from
  is-cleared e =
      by= all 0
      (λ h. eq-eqb all 0 h ∙ sym (g.rest ∙ if=-yes all 0 _ _ h ∙ clear-end s (k - i) st (from + i * st) (omega arith)))
      (λ h. ne_eqb all 0 h ∙ sym (g.rest ∙ if=-no all 0 _ _ h))

  pub clears : {w : ℕ} → i < k → w ≡ word_at 4 s (from + i * st) → Clearing s k st from (bit_or all w) (i + 1)
  clears {w} l h =
      let n : ℕ = k - (i + 1) in
      let at : ℕ = from + i * st in
      record {
        rest = g.rest ∙ ap (λ (v : ℕ). if= all 0 (cleared s v st at) false) (omega arith) ∙ clear-on s all n st at
            ∙ ap (λ (v : ℕ). if= (bit_or all v) 0 (cleared s n st (at + st)) false) (sym h)
            ∙ ap (λ (v : ℕ). if= (bit_or all w) 0 (cleared s n st v) false) (omega (arith, add-mul i 1 st));
      }

-- ---- the last test of each list: all before it have passed

pub rest-is : (s : List ℕ) (a b : ℕ) {w h : ℕ} → blocks_at ≤ a → 8 ≤ b → a ≤ b - 8 → b ≤ length s → a % 8 ≡ 0 → b % 8 ≡ 0 → w ≡ word_at 4 s a
    → h ≡ free_head (b - a) → eqb w h ≡ pass (rest_between s a b)
rest-is s a b {w} {h} after least room inside a8 b8 ew eh =
    pass-is (rest_between s a b) (eqb w h)
    (λ k. (omega arith, (omega arith, (omega arith, (a8, (b8, (sym ew ∙ eqb-true _ _ k ∙ eh, tt)))))))
    (λ t. eq-eqb _ _ (ew ∙ t.1.1.1.1.1.0 ∙ sym eh))

-- the level word is that of layout 2, of none, or of layout 1

module _ (s : List ℕ) {w : ℕ} (e : w ≡ word_at 4 s (false_block + level_at)) where
  pub reserved-two : w ≡ levels → true ≡ pass (reserved_tests s)
  unfolding top_of cleared
  reserved-two h =
      let t : top_of s ≡ levels = if=-yes (word_at 4 s 108) 13 _ _ (sym e ∙ h) in
      pass-is (reserved_tests s) true (λ k. (sym e ∙ h ∙ sym t, (ap (λ (v : ℕ). cleared s (13 - v) 4 112) t, tt))) (λ k. refl)

  pub reserved-none : (w ≡ levels → ⊥) → (w ≡ 1 → ⊥) → false ≡ pass (reserved_tests s)
  unfolding top_of
  reserved-none h h' = pass-no (reserved_tests s) (λ k. h' (e ∙ k.0 ∙ if=-no (word_at 4 s 108) 13 _ _ (λ i. h (e ∙ i))))

  pub reserved-one : {b : Bool} → (w ≡ levels → ⊥) → w ≡ 1 → b ≡ cleared s 12 4 (false_block + 16) → b ≡ pass (reserved_tests s)
  unfolding top_of
  reserved-one {b} h h' eb =
      let t : top_of s ≡ 1 = if=-no (word_at 4 s 108) 13 _ _ (λ i. h (e ∙ i)) in
      let c : b ≡ cleared s (13 - top_of s) 4 112 = eb ∙ ap (λ (v : ℕ). cleared s (13 - v) 4 112) (sym t) in
      pass-is (reserved_tests s) b (λ k. (sym e ∙ h' ∙ sym t, (sym c ∙ k, tt))) (λ k. c ∙ k.1.0)

pub false-is : (s : List ℕ) {w1 w2 : ℕ} {b1 b2 e : Bool} → blocks_at ≤ length s → w1 ≡ word_at 4 s false_word_at → w1 ≡ false_block
    → w2 ≡ word_at 4 s (false_block + chain_at + 4) → w2 ≡ 0 → b1 ≡ cleared s 12 8 4 → not b1 ≡ false → b2 ≡ cleared s 3 4 false_block → not b2 ≡ false
    → e ≡ pass (reserved_tests s) → e ≡ pass (false_tests s)
false-is s {e = e} r a1 h1 a2 h2 c1 k1 c2 k2 ee =
    pass-is (false_tests s) e
    (λ h. (sym a1 ∙ h1, (sym a2 ∙ h2, (passed c1 k1, (passed c2 k2, (omega arith, (guard-inv (reserved_tests s) false true true no_both (sym ee ∙ h)).0))))))
    (λ t. ee ∙ guard-yes (reserved_tests s) false true t.1.1.1.1.1)
