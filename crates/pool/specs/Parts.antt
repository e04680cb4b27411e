-- The code's bounds of the part that is lent: they are the paper's, and lie within the pool.
use Rattle.std.specs.Prelude.{◌≡◌, List, ℕ, ◌≤◌, length}
use Rattle.std.specs.declared.ops.Range.{Range}
use Rattle.pool.specs.Calls.{part_from, part_to}

pub record Bounds (bs : List ℕ) (offset : ℕ) (r : Range ℕ) : Type 0 where
  pub starts : r.start ≡ part_from bs offset
  pub ends : r.end ≡ part_to bs offset
  pub rises : r.start ≤ r.end
  pub inside : r.end ≤ length bs
