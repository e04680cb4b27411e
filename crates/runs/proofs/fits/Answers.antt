-- `fits`: a failing test refuses, whatever stands before it; the last one decides.
use Rattle.std.proofs.Common.{arith}
use Rattle.guards.proofs.Guards.{pass-no}
use Rattle.runs.specs.Runs.{fit_size}
use Rattle.runs.proofs.Laws.{fit-last, not_theirs}
use Rattle.runs.proofs.fits.Goals as goal

pub returns-then-not-has : goal.returns-then-not-has
returns-then-not-has g c = not_theirs _ _ _ _ c.has.ensures c.if-not-has.true

pub returns-then-z-ne0 : goal.returns-then-z-ne0
returns-then-z-ne0 g c = let x = c.args in pass-no (fit_size x.z g.K.Kind.kind x.e x.p) (λ t. omega arith)

pub returns : goal.returns
returns g c = fit-last _ _ _ _ c.has.ensures c.if-not-has.false c.if-z-ne0.false
