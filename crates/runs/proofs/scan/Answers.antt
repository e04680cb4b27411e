-- `scan`: the invariant says that the whole walk is the walk from here. Each way out and each way on has its law.
use Rattle.std.proofs.Common.{rules}
use Rattle.runs.proofs.Laws.{begin, scan-done, scan-due, scan-unfit, scan-unfree, scan-held, scan-free, fits-kind}
use Rattle.runs.proofs.scan.Goals as goal
use Rattle.runs.proofs.scan.Goals.{then-flags_of-due, else-flags_of-due+else-not-free_ok}

pub loop-p-init : goal.loop-p-init
loop-p-init g c = begin _ _ _ _ _ _ _ (search rules)

pub returns-then-not-fits : goal.returns-then-not-fits
returns-then-not-fits g c =
    record {
      few = search rules;
      less_sum = search rules;
      all = scan-unfit c.loop-p.invariant c.loop-p-test.true c.get-w.ensures c.size_of-z.ensures c.fits.ensures c.if-not-fits.true;
    }

pub returns-then-not-free_ok : goal.returns-then-not-free_ok
returns-then-not-free_ok g c =
    record {
      few = search rules;
      less_sum = search rules;
      all = scan-unfree c.loop-p.invariant c.loop-p-test.true c.get-w.ensures c.size_of-z.ensures
          c.fits.ensures c.if-not-fits.false c.flags_of.ensures c.if-flags_of-due.false
          (c.free_ok.ensures (fits-kind _ _ _ _ _ c.size_of-z.ensures c.fits.ensures c.if-not-fits.false)) c.if-not-free_ok.true;
    }

pub loop-p-preserved : goal.loop-p-preserved
loop-p-preserved g c =
    elim c.if-flags_of-due.branch [
      | then-flags_of-due w ↦ rw (w.m-is, w.due-is, w.seen-is) (scan-held c.loop-p.invariant c.loop-p-test.true c.get-w.ensures c.size_of-z.ensures
          c.fits.ensures c.if-not-fits.false c.flags_of.ensures (search rules) w.if-flags_of-due.true)
      | else-flags_of-due+else-not-free_ok w ↦ rw (w.m-is, w.due-is, w.seen-is)
          (scan-free c.loop-p.invariant c.loop-p-test.true c.get-w.ensures c.size_of-z.ensures
          c.fits.ensures c.if-not-fits.false c.flags_of.ensures w.if-flags_of-due.false
          (w.free_ok.ensures (fits-kind _ _ _ _ _ c.size_of-z.ensures c.fits.ensures c.if-not-fits.false))
          (search rules) w.if-not-free_ok.false w.mark.ensures w.above_free-due.ensures (search rules))
    ]

pub returns-then-due-ne-HELD : goal.returns-then-due-ne-HELD
returns-then-due-ne-HELD g c =
    record { few = search rules; less_sum = search rules; all = scan-due c.loop-p.invariant c.loop-p-test.false c.if-due-ne-HELD.true }

pub returns : goal.returns
returns g c =
    record { few = search rules; less_sum = search rules; all = scan-done c.loop-p.invariant c.loop-p-test.false c.if-due-ne-HELD.false }
