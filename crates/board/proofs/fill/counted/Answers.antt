-- board::fill::counted meets its contract, by the length of the list.
use lib.ListN.{length-set}
use native.Mathlib.Omega.{arith}
use Rattle.board.proofs.Seven.{counted-stored, counted-refused}
use Rattle.board.proofs.fill.counted.Goals as goal

pub returns-then-list-ne7 : goal.returns-then-list-ne7
returns-then-list-ne7 c = counted-refused c.args.f _ c.if-list-ne7.true

pub bounds-list-4 : goal.bounds-list-4
bounds-list-4 c = simp length-set (omega arith)

pub bounds-list-5 : goal.bounds-list-5
bounds-list-5 c = simp length-set (omega arith)

pub bounds-list-6 : goal.bounds-list-6
bounds-list-6 c = simp length-set (omega arith)

pub returns : goal.returns
returns c = counted-stored c.args.f c.args.list.now c.if-list-ne7.false
