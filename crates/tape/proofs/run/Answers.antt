-- tape::run meets its contract: the loop follows the run of the tape record by record, and the lines fit.
use Rattle.std.proofs.Common.{refl, sym, ◌∙◌, arith}
use Rattle.records.proofs.Records.{onward}
use Rattle.tape.proofs.Going.{too_long, start, ends, stops, goes_on}
use Rattle.tape.proofs.run.Goals as goal

pub returns-then-tape-gt-LONGEST : goal.returns-then-tape-gt-LONGEST
returns-then-tape-gt-LONGEST c = too_long _ _ _ _ c.if-tape-gt-LONGEST.true (omega arith) refl c.unreadable.ensures

pub loop-at-init : goal.loop-at-init
loop-at-init c = (start _ _ _ c.if-tape-gt-LONGEST.false refl refl, refl, refl)

pub returns-in_default : goal.returns-in_default
returns-in_default c = stops c.loop-at.invariant.0 c.loop-at-test.true (omega arith) c.record_at.ensures c.in_default.is c.unreadable-in_default.ensures

pub loop-at-smaller : goal.loop-at-smaller
loop-at-smaller c =
    let on = onward _ _ (sym c.record_at.ensures ∙ c.in-Some.is) in
    omega (arith, on.past-this, on.within)

pub loop-at-preserved : goal.loop-at-preserved
loop-at-preserved c =
    let h = c.loop-at.invariant in (
      goes_on h.0 c.loop-at-test.true (omega arith) c.record_at.ensures c.in-Some.is c.serve.ensures,
      c.serve.ensures.same_bytes ∙ h.1,
      c.serve.ensures.printed.same.same_bytes ∙ h.2,
    )

pub returns : goal.returns
returns c = ends c.loop-at.invariant.0 c.loop-at-test.false
