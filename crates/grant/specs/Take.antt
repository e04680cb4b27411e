-- The model of taking, on a list of bytes: what is chosen is carried out.
use Rattle.std.specs.Prelude.{IsErrOf, IsOkAnd, List, ℕ, ◌≡◌}
use Rattle.choosing.specs.declared.Choice.{Choice}
use Rattle.choosing.specs.declared.Choice.TheVariants.{ExactBin, FirstOfBin, HighEnd, LargerBin, LowEnd}
use Rattle.choosing.specs.Choosing.{choose}
use Rattle.grant.specs.Small.{cut_high, take_first}
use Rattle.grant.specs.Large.{cut_low, take_part, take_whole}
use Rattle.std.specs.declared.result.Result.TheVariants.{Ok, Err}
use Rattle.std.specs.declared.result.Result.{Result}
use Rattle.paper.specs.declared.Refusal.{Refusal}
use Rattle.paper.specs.Answers.{out, Out}

unfoldable pub carry : List ℕ → Choice → Out
carry bs (FirstOfBin q b) = take_first bs q b
carry bs (HighEnd rest b) = cut_high bs rest b
carry bs (ExactBin bin b) = take_whole bs bin b
carry bs (LargerBin bin b) = take_part bs bin b
carry bs (LowEnd rest b) = cut_low bs rest b

-- or refused, and nothing is done
abbrev pub carry_out : List ℕ → Result Choice Refusal → Out
carry_out bs (Ok choice) = carry bs choice
carry_out bs (Err k) = out (Err k) bs

-- the same where a refusal is of whatever kind: what is answered, and what is left
abbrev pub CarriesOut : {E : Type 0} → List ℕ → Result Choice E → Result ℕ E → List ℕ → Type 0
CarriesOut bs (Ok choice) result after = IsOkAnd result (λ offset. carry bs choice ≡ out (Ok offset) after)
CarriesOut bs (Err k) result after = IsErrOf result k × (after ≡ bs)

unfoldable pub take : List ℕ → ℕ → Out
take bs s = carry_out bs (choose bs s)
