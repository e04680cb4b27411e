-- tape_main::main is safe: the lines that a run leaves are bytes of `out`.
use Rattle.std.proofs.Common.{sym, length-take-le}
use Rattle.tape.proofs.Leaves.{count-within}
use Rattle.tape_main.proofs.main.Goals as goal

pub slice_bounds-out-end : goal.slice_bounds-out-end
slice_bounds-out-end c = count-within _ _ c.run-k.ensures

pub slice_bounds-write-end : goal.slice_bounds-write-end
slice_bounds-write-end c = sym (length-take-le _ _ (count-within _ _ c.run-k.ensures))
