-- "A refusal returns 0 beside its number and changes nothing." The number and the value of each answer, and what a call leaves.
use Rattle.std.specs.Prelude.{List, [], ◌∷◌, ℕ}
use Rattle.std.specs.declared.result.Result.{Result}
use Rattle.std.specs.declared.result.Result.TheVariants.{Ok, Err}
use Rattle.paper.specs.declared.Figures.{Figures}
use Rattle.paper.specs.declared.Refusal.{Refusal}
use Rattle.paper.specs.declared.Refusal.TheVariants.{ListLength, NoLayout, NoPiston, NoRecord, NoRoom, NoSize, NotAllowed, NotHeld, NotNamed, NotSound, OtherLayout, Unreadable}

-- a call is done, with its value, or refused
abbrev pub Answer : Type 0
Answer = Result ℕ Refusal

-- the answer of a call for the figures
abbrev pub Tally : Type 0
Tally = Result Figures Refusal

-- "the refusals' numbers"
abbrev pub code : Refusal → ℕ
code NotAllowed = 1
code NotSound = 2
code NoSize = 3
code NoRoom = 4
code NotHeld = 5
code ListLength = 6
code Unreadable = 7
code NoLayout = 8
code NoPiston = 10
code NoRecord = 11
code NotNamed = 12
code OtherLayout = 13

abbrev pub number : Answer → ℕ
number (Ok v) = 0
number (Err k) = code k

abbrev pub value : Answer → ℕ
value (Ok v) = v
value (Err k) = 0

-- "Refused figures are seven zeros"
abbrev pub no_figures : Figures
no_figures =
    record { held_blocks = 0; held_bytes = 0; free_small = 0; free_large = 0; remainder = 0; free_word = 0; largest = 0 }

abbrev pub tally_number : Tally → ℕ
tally_number (Ok f) = 0
tally_number (Err k) = code k

abbrev pub figures_of : Tally → Figures
figures_of (Ok f) = f
figures_of (Err k) = no_figures

-- "Held blocks; held bytes (block sizes); free small blocks; free large blocks; remainder size; free word; largest grant."
abbrev pub seven_of : Figures → List ℕ
seven_of f =
    f.held_blocks ∷ f.held_bytes ∷ f.free_small ∷ f.free_large ∷ f.remainder ∷ f.free_word ∷ f.largest ∷ []

-- what a call answers, and every lent byte afterwards
pub record Out : Type 0 where
  pub answer : Answer
  pub after : List ℕ

abbrev pub out : Answer → List ℕ → Out
out a s = record { answer = a; after = s }
