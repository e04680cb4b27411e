-- What the loops along the lists and the index answer, as the model has it: marks, and what is awaited, are what the call left behind.
use Rattle.std.specs.Prelude.{Bool, true, false, List, Option, Some, None, ℕ}
use Rattle.lists.specs.Lists.{lost, left, Left as Lefts}
use Rattle.lists.specs.Index.{Awaited, astray, awaiting}

abbrev pub to_left : Option ℕ → List ℕ → Lefts (List ℕ)
to_left (Some k) ms = left k ms
to_left None ms = lost

abbrev pub to_awaited : Bool → List ℕ → Awaited
to_awaited true ws = awaiting ws
to_awaited false ws = astray
