-- `inspect`: each test that fails refuses; where all before the lists have passed, the lists decide.
use native.Mathlib.Omega.{arith}
use Rattle.inspect.proofs.Whole.{not_allowed, rest-bad, false-bad, run-bad, free-word-bad, lists-decide, gap, short}
use Rattle.inspect.proofs.inspect.Goals as goal

pub returns-then-not-allowed : goal.returns-then-not-allowed
returns-then-not-allowed c = not_allowed _ c.allowed.ensures c.if-not-allowed.true

pub returns-then-not-remainder_ok : goal.returns-then-not-remainder_ok
returns-then-not-remainder_ok c =
    rest-bad _ c.get-a.ensures c.get-b.ensures c.remainder_ok.ensures
    c.if-not-remainder_ok.true

pub returns-then-not-false_block_ok : goal.returns-then-not-false_block_ok
returns-then-not-false_block_ok c = false-bad _ c.false_block_ok.ensures c.if-not-false_block_ok.true

pub overflow_cast-pool : goal.overflow_cast-pool
overflow_cast-pool c = omega (arith, short _ c.allowed.ensures c.if-not-allowed.false)

pub returns-in_default : goal.returns-in_default
returns-in_default c =
    run-bad _ c.get-a.ensures c.get-b.ensures c.scan_both.result _
    c.scan_both.ensures.all c.in_default.is

pub overflow_sub-b : goal.overflow_sub-b
overflow_sub-b c =
    omega (
      arith,
      gap _ c.get-a.ensures c.get-b.ensures c.remainder_ok.ensures
          c.if-not-remainder_ok.false,
    )

pub overflow_sub-seen : goal.overflow_sub-seen
overflow_sub-seen c =
    omega (
      arith,
      gap _ c.get-a.ensures c.get-b.ensures c.remainder_ok.ensures
          c.if-not-remainder_ok.false,
    )

pub returns-then-get-seen : goal.returns-then-get-seen
returns-then-get-seen c =
    free-word-bad _ c.get-a.ensures c.get-b.ensures
    c.scan_both.result _
    c.scan_both.ensures.all
    c.in-Some.is c.get.ensures c.if-get-seen.true

pub returns : goal.returns
returns c =
    lists-decide _ c.get-a.ensures c.get-b.ensures
    c.scan_both.result _
    c.scan_both.ensures.all
    c.in-Some.is c.get.ensures
    c.allowed.ensures c.if-not-allowed.false
    c.remainder_ok.ensures c.if-not-remainder_ok.false
    c.false_block_ok.ensures
    c.if-not-false_block_ok.false c.if-get-seen.false
    c.all_listed.ensures
