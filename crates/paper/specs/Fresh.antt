-- "Here the remainder's size is n-168 and the free word n-172": a pool that was just laid out has no block but the remainder.
use Rattle.std.specs.Prelude.{[], ℕ, ◌-◌}
use Rattle.words.specs.Choice.{if=}
use Rattle.paper.specs.Layout.{blocks_at, levels}
use Rattle.paper.specs.Blocks.{State}

-- of n bytes, with an index t high
unfoldable pub fresh : ℕ → ℕ → State
fresh t n = record { top = t; low = []; rest = n - blocks_at; high = []; bins = λ z. [] }

-- how high the index of layout 1 is, and of layout 2 (request 2026-04); 0 of a number that names no layout
unfoldable pub layout_top : ℕ → ℕ
layout_top layout = if= layout 1 1 (if= layout 2 levels 0)
