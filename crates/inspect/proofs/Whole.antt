-- Where each way out of the inspection leads.
use mathlib.Core.Bool.{Bool, false, true}
use mathlib.Core.List.{List, [], ◌∷◌}
use mathlib.Core.Path.{◌∙◌, ◌≡◌, ap, sym}
use Prim.Native.Nat.{◌+◌, ◌-◌, ◌≤◌, ℕ}
use native.Mathlib.Omega.{arith}
use lib.ListN.{length, replicate}
use Rattle.std.proofs.Common.{Option, Some, None}
use Rattle.guards.proofs.Guards.{guard-fail, guard-inv, guard-pass, guard-same, guard-yes, no_both, pass-no}
use Rattle.runs.specs.Contract.{to_seen}
use Rattle.header.specs.Header.{E, R, false_tests, rest_between, rest_tests}
use Rattle.runs.specs.Runs.{if_seen, scanned_between, Scanned}
use Rattle.accept.specs.Inspect.{inspect, scanned, size_tests}
use Rattle.inspect.specs.Inspection.{old_inspected}
use Rattle.lists.specs.Lists.{lists}
use Rattle.marks.specs.MarkSets.{bit_marks}
use Rattle.guards.specs.Tests.{guard, holds, pass, same}
use Rattle.paper.proofs.reads.Allowed.{allowed-inv}
use Rattle.paper.specs.Allowed.{allowed}
use Rattle.words.specs.Choice.{if=, if=-no, if=-yes}
use Rattle.words.specs.Words.{word_at}
use Rattle.runs.specs.declared.Seen.{Seen}

pick-allowed : (n : ℕ) {b : Bool} → b ≡ allowed n → b ≡ true → pass (holds (allowed n) ∷ []) ≡ true
pick-allowed n e h = guard-yes (holds (allowed n) ∷ []) false true (sym e ∙ h, tt)

module _ (s : List ℕ) where
  pub not_allowed : {b : Bool} → b ≡ allowed (length s) → b ≡ false → false ≡ old_inspected s
  unfolding old_inspected inspect
  not_allowed e h = sym (guard-fail (size_tests s) false _ (sym (pass-no (size_tests s) (λ t. no_both (sym h ∙ e ∙ t.0)))))

  module _ {a b : ℕ} (ea : a ≡ word_at 4 s 16) (eb : b ≡ word_at 4 s 24) where
    rest_at : {x : Bool} → x ≡ pass (rest_between s a b) → x ≡ pass (rest_tests s)
    rest_at e = e ∙ (λ i. pass (rest_between s (ea i) (eb i)))

    pub rest-bad : {x : Bool} → x ≡ pass (rest_between s a b) → x ≡ false → false ≡ old_inspected s
    unfolding old_inspected inspect
    rest-bad e h = sym (guard-same (size_tests s) false _ (guard-fail (rest_tests s) false _ (sym (rest_at e) ∙ h)))

    -- what has passed, for the code's differences
    pub gap : {x : Bool} → x ≡ pass (rest_between s a b) → x ≡ true → a + 8 ≤ b
    gap e h = let t = (guard-inv (rest_between s a b) false true true no_both (sym e ∙ h)).0 in omega (arith, t.1.0)

    -- what comes after the tests at fixed places
    abbrev tail : Scanned (List ℕ) → Bool
    tail v = if_seen v false (λ n ms sum. guard (same (word_at 4 s 0) (sum + (E s - R s) - 4) ∷ []) false (lists bit_marks s n ms))

    scanned-at : {v : Scanned (List ℕ)} → v ≡ scanned_between bit_marks s a b (length s) (replicate 128 0) → v ≡ scanned bit_marks s
    unfolding scanned
    scanned-at e = e ∙ (λ i. scanned_between bit_marks s (ea i) (eb i) (length s) (replicate 128 0))

    front : {v : Scanned (List ℕ)} → v ≡ scanned_between bit_marks s a b (length s) (replicate 128 0) → tail v ≡ false → false ≡ old_inspected s
    unfolding old_inspected inspect
    front e h = sym (guard-same (size_tests s) false _
        (guard-same (rest_tests s) false _ (guard-same (false_tests s) false _ (ap tail (sym (scanned-at e)) ∙ h))))

    module _ (r : Option Seen) (m' : List ℕ) (e : to_seen r m' ≡ scanned_between bit_marks s a b (length s) (replicate 128 0)) where
      pub run-bad : r ≡ None → false ≡ old_inspected s
      run-bad h = front e (ap (λ (v : Option Seen). tail (to_seen v m')) h)

      module _ {t : Seen} (h : r ≡ Some t) {w : ℕ} (ew : w ≡ word_at 4 s 0) where
        seen-tail : tail (to_seen r m') ≡ if= (word_at 4 s 0) (t.sum + (E s - R s) - 4) (lists bit_marks s t.count m') false
        seen-tail = ap (λ (v : Option Seen). tail (to_seen v m')) h

        pub free-word-bad : (w ≡ t.sum + (b - a) - 4 → ⊥) → false ≡ old_inspected s
        free-word-bad n =
            front e (seen-tail ∙ if=-no (word_at 4 s 0) (t.sum + (E s - R s) - 4) _ _ (λ k. n (omega (arith, k))))

        pub lists-decide : {t1 t2 t3 x : Bool} → t1 ≡ allowed (length s) → t1 ≡ true → t2 ≡ pass (rest_between s a b) → t2 ≡ true
            → t3 ≡ pass (false_tests s) → t3 ≡ true → w ≡ t.sum + (b - a) - 4 → x ≡ lists bit_marks s t.count m' → x ≡ old_inspected s
        unfolding old_inspected inspect
        lists-decide p1 q1 p2 q2 p3 q3 n ex =
            ex ∙ sym (guard-pass (size_tests s) false _ (pick-allowed (length s) p1 q1) ∙ guard-pass (rest_tests s) false _ (sym (rest_at p2) ∙ q2)
            ∙ guard-pass (false_tests s) false _ (sym p3 ∙ q3) ∙ ap tail (sym (scanned-at e)) ∙ seen-tail
            ∙ if=-yes (word_at 4 s 0) (t.sum + (E s - R s) - 4) _ _ (omega arith))

  pub false-bad : {x : Bool} → x ≡ pass (false_tests s) → x ≡ false → false ≡ old_inspected s
  unfolding old_inspected inspect
  false-bad e h =
      sym (guard-same (size_tests s) false _ (guard-same (rest_tests s) false _ (guard-fail (false_tests s) false _ (sym e ∙ h))))

-- an allowed length fits 32 bits
pub short : (n : ℕ) {b : Bool} → b ≡ allowed n → b ≡ true → n ≤ 65536
short n e h = (allowed-inv n (sym e ∙ h)).most
