-- "There and back gives the same governed bytes; only reserved words of a bin's first block may differ" (request 2026-05): which bytes these are.
use Rattle.std.specs.Prelude.{◌≢◌, ◌≡◌, ℕ, ◌+◌, ◌-◌, ◌*◌, ◌<◌, ◌≤◌}
use Rattle.paper.specs.Bins.{first}
use Rattle.paper.specs.Blocks.{State}
use Rattle.paper.specs.Governed.{height}
use Rattle.paper.specs.Layout.{large, levels}

-- byte i is in a word of level 2 or higher, which layout 2 has and layout 1 leaves alone, of the first block q of the bin of size z: from the word of
-- its highest level on, and before its chain word at +64. No level is above 13, so all of them are from +16 on
abbrev pub Reserved : State → ℕ → Type 0
Reserved s i = (z q : ℕ) × (large ≤ z) × (first (s.bins z) ≡ q) × (q ≢ 0) × (q + (68 - 4 * height levels z) ≤ i) × (i < q + 64)
