-- A text was put on a page, and is no longer than a line.
use Rattle.std.specs.Prelude.{List, ℕ, ◌≤◌, length}
use Rattle.text.specs.declared.Page.{Page as Lent}
use Rattle.text.specs.Lent.{Puts}

pub record Printed (before : Lent) (text : List ℕ) (after : Lent) : Type 0 where
  pub same : Puts before text after
  pub short : length text ≤ 96
