-- The statement of `record_at` determines its answer: two that it allows are equal.
use mathlib.Core.Path.{◌≡◌, sym, ◌∙◌}
use mathlib.Core.List.{List}
use Prim.Native.Nat.{ℕ}
use Rattle.records.specs.Records.{Record, read_at}

pub record-at-determined : (tape : List ℕ) (at : ℕ) (r r' : Record) → r ≡ read_at tape at → r' ≡ read_at tape at → r ≡ r'
record-at-determined tape at r r' e f = e ∙ sym f
