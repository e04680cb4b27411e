-- bank::write meets its contract; a part of another length is no part that the contract speaks of.
use Rattle.bank.proofs.Writing.{begins, ends, goes_on, same-long}
use native.Mathlib.Omega.{arith}
use Rattle.bank.proofs.records.write.Goals as goal

pub loop-i-init : goal.loop-i-init
loop-i-init c = begins c.args.part.now c.args.kind c.args.body.now

pub loop-i-preserved : goal.loop-i-preserved
loop-i-preserved c = goes_on c.loop-i.invariant c.loop-i-test.true (omega (arith, same-long c.args.part.now c.args.kind c.loop-i.invariant, c.if-part-body.false, c.loop-i-test.true))

pub returns : goal.returns
returns c long = ends c.args.part.now c.args.kind c.loop-i.invariant c.loop-i-test.false long
