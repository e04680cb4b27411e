-- A list of tests before an answer, as data: so one law says what has passed, whatever is tested.
use Rattle.std.specs.Prelude.{Bool, true, false, List, [], ◌∷◌, ℕ}
use Rattle.words.specs.Choice.{if=, if<}

pub data Test : Type 0 where
  same less : ℕ → ℕ → Test
  holds : Bool → Test

module _ {A : Type 0} where
  -- x where all tests hold, else bad
  abbrev pub guard : List Test → A → A → A
  guard [] bad x = x
  guard (same a b ∷ ts) bad x = if= a b (guard ts bad x) bad
  guard (less a b ∷ ts) bad x = if< a b (guard ts bad x) bad
  guard (holds c ∷ ts) bad x = elim c [ true ↦ guard ts bad x | false ↦ bad ]

-- the tests alone: what a function of the code answers
abbrev pub pass : List Test → Bool
pass ts = guard ts false true
