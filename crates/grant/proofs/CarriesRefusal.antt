-- Of a refusal of the pool's own, carrying out is the model.
use mathlib.Core.List.{List}
use mathlib.Core.Path.{◌≡◌, refl}
use Prim.Native.Nat.{ℕ}
use Rattle.choosing.specs.declared.Choice.{Choice}
use Rattle.grant.specs.Take.{CarriesOut, carry_out}
use Rattle.paper.specs.Answers.{out}
use Rattle.paper.specs.declared.Refusal.{Refusal}
use Rattle.std.specs.declared.result.Result.{Result}
use Rattle.std.specs.declared.result.Result.TheVariants.{Ok, Err}

pub carries-refusal : (bs : List ℕ) (choice : Result Choice Refusal) (result : Result ℕ Refusal) (after : List ℕ) → CarriesOut bs choice result after → carry_out bs choice ≡ out result after
carries-refusal bs (Ok choice) (Ok offset) after done = done
carries-refusal bs (Ok choice) (Err k) after done = absurd done
carries-refusal bs (Err k) result after refused = rw (refused.0, refused.1) refl
