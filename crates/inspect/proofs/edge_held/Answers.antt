-- `edge_held` asks what its model asks: whether E is the pool's end, and else the head there.
use Rattle.inspect.proofs.AtEdge.{asks-end, asks-head}
use Rattle.inspect.proofs.edge_held.Goals as goal

pub returns-then-e-pool : goal.returns-then-e-pool
returns-then-e-pool c = asks-end _ c.get-e.ensures c.if-e-pool.true

pub returns : goal.returns
returns c = asks-head _ c.get-e.ensures c.if-e-pool.false c.get.ensures c.from.ensures
