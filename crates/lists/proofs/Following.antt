-- The loop along a list, for any tests and way on: where each way out leads, and that the list goes on.
use mathlib.Core.Bool.{Bool, false, true}
use mathlib.Core.List.{List}
use mathlib.Core.Logic.{◌≢◌}
use mathlib.Core.Path.{◌∙◌, ◌≡◌, ap, refl, sym}
use Prim.Native.Nat.{◌-◌, ◌/◌, ◌<◌, suc, zero, ℕ}
use native.Mathlib.Omega.{arith}
use lib.ListN.{length}
use lib.Dec.{ltb}
use borrow.Author.Tests.{lt-ltb, ltb-true}
use Rattle.guards.proofs.Guards.{guard-fail, guard-pass, no_both, pass-no}
use Rattle.lists.specs.Lists.{Left, asked, follow, left, lost}
use Rattle.marks.specs.MarkSets.{bit_marks, mark_at}
use Rattle.guards.specs.Tests.{Test, pass}
use Rattle.marks.proofs.Laws.{length-put}
use Rattle.marks.specs.Marks.{put_bit_at}
use Rattle.words.specs.Choice.{if<-yes, if=-no, if=-yes}

-- what was followed to its end is not lost
pub lost-left : {M : Type 0} (k : ℕ) (ms : M) → lost ≢ left k ms
lost-left k ms e = cc

pub record Going (tests : ℕ → ℕ → List Test) (next : ℕ → ℕ) (m₀ : List ℕ) (k first : ℕ) (m : List ℕ) (n p q : ℕ) : Type 0 where
  pub long : length m ≡ length m₀
  pub small : q < 4294967296
  pub all : follow bit_marks tests next k m₀ 0 first ≡ follow bit_marks tests next n m p q

pub start : (tests : ℕ → ℕ → List Test) (next : ℕ → ℕ) (m : List ℕ) (k first : ℕ) → first < 4294967296 → Going tests next m k first m k 0 first
start tests next m k first h = record { long = refl; small = h; all = refl }

module _ (tests : ℕ → ℕ → List Test) (next : ℕ → ℕ) where
  done : (k : ℕ) (m : List ℕ) (p q : ℕ) → q ≡ 0 → follow bit_marks tests next k m p q ≡ left k m
  unfolding follow
  done zero m p q e = if=-yes q 0 _ _ e
  done (suc k) m p q e = if=-yes q 0 _ _ e

  short : (k : ℕ) (m : List ℕ) (p q : ℕ) → (q ≡ 0 → ⊥) → k ≡ 0 → follow bit_marks tests next k m p q ≡ lost
  unfolding follow
  short zero m p q n e = if=-no q 0 _ _ n
  short (suc k) m p q n e = absurd (omega arith)

  failed : (k : ℕ) (m : List ℕ) (p q : ℕ) → (q ≡ 0 → ⊥) → pass (asked bit_marks tests m p q) ≡ false → follow bit_marks tests next k m p q ≡ lost
  unfolding follow
  failed zero m p q n e = if=-no q 0 _ _ n
  failed (suc k) m p q n e = if=-no q 0 _ _ n ∙ guard-fail (asked bit_marks tests m p q) lost _ e

  more : (k : ℕ) (m : List ℕ) (p q : ℕ) → (q ≡ 0 → ⊥) → pass (asked bit_marks tests m p q) ≡ true
      → follow bit_marks tests next (suc k) m p q ≡ follow bit_marks tests next k (put_bit_at m (q / 8) 0) q (next q)
  unfolding follow
  more k m p q n e = if=-no q 0 _ _ n ∙ guard-pass (asked bit_marks tests m p q) lost _ e

module _ {tests : ℕ → ℕ → List Test} {next : ℕ → ℕ} {m₀ : List ℕ} {k first : ℕ} {m : List ℕ} {n p q : ℕ}
    (g : Going tests next m₀ k first m n p q) where
  abbrev Whole : Left (List ℕ)
  Whole = follow bit_marks tests next k m₀ 0 first

  pub is-done : q ≡ 0 → left n m ≡ Whole
  is-done e = sym (g.all ∙ done tests next n m p q e)

  pub is-short : (q ≡ 0 → ⊥) → n ≡ 0 → lost ≡ Whole
  is-short h e = sym (g.all ∙ short tests next n m p q h e)

  -- a member is marked, and its words are as they must be
  module _ (h : q ≡ 0 → ⊥) {a : Bool} (ea : a ≡ ltb 0 (mark_at m q)) where
    pub is-unmarked : a ≡ false → lost ≡ Whole
    is-unmarked i =
        sym (g.all ∙ failed tests next n m p q h
        (sym (pass-no (asked bit_marks tests m p q) (λ t. no_both (sym i ∙ ea ∙ lt-ltb 0 (mark_at m q) t.0)))))

    module _ (i : a ≡ true) {b : Bool} (eb : b ≡ pass (tests p q)) where
      answer : pass (asked bit_marks tests m p q) ≡ b
      answer = if<-yes 0 (mark_at m q) _ _ (ltb-true 0 (mark_at m q) (sym ea ∙ i)) ∙ sym eb

      pub is-failed : b ≡ false → lost ≡ Whole
      is-failed j = sym (g.all ∙ failed tests next n m p q h (answer ∙ j))

      pub goes_on : {m' : List ℕ} {t : ℕ} → (n ≡ 0 → ⊥) → b ≡ true → m' ≡ put_bit_at m (q / 8) 0 → t < 4294967296 → t ≡ next q
          → Going tests next m₀ k first m' (n - 1) q t
      goes_on n0 j em ts et =
          record {
            long = ap length em ∙ length-put m (q / 8) 0 ∙ g.long;
            small = ts;
            all = g.all ∙ ap (λ (v : ℕ). follow bit_marks tests next v m p q) (omega arith)
                ∙ more tests next (n - 1) m p q h (answer ∙ j)
                ∙ (λ i. follow bit_marks tests next (n - 1) (sym em i) q (sym et i));
          }
