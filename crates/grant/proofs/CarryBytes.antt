-- Carrying out what was chosen, on bytes, is the paper's: each way is one law.
use mathlib.Core.List.{List}
use mathlib.Core.Path.{◌∙◌, ◌≡◌, ap, sym}
use Prim.Native.Nat.{ℕ}
use native.Mathlib.Omega.{arith}
use Rattle.bins.specs.Find.{size}
use Rattle.choosing.proofs.ChoiceRead.{Carries, said}
use Rattle.grant.proofs.LowBytes.{cut_low-bytes}
use Rattle.grant.proofs.PartBytes.{take_part-bytes}
use Rattle.grant.proofs.SmallBytes.{cut_high-bytes, take_first-bytes}
use Rattle.grant.proofs.WholeBytes.{take_whole-bytes}
use Rattle.grant.specs.Large.{cut_low}
use Rattle.grant.specs.Small.{cut_high}
use Rattle.grant.specs.Take.{carry, carry_out as carry_out-model}
use Rattle.choosing.specs.declared.Choice.{Choice}
use Rattle.choosing.specs.declared.Choice.TheVariants.{ExactBin, FirstOfBin, HighEnd, LargerBin, LowEnd}
use Rattle.choosing.specs.declared.remainder.Rest.{Rest}
use Rattle.paper.proofs.reads.Stands.{Stands}
use Rattle.paper.specs.Blocks.{State}
use Rattle.paper.specs.Calls.{leaves}
use Rattle.paper.specs.Granting.{carry_out}
use Rattle.paper.specs.Sheet.{Holds}
use Rattle.std.specs.declared.result.Result.TheVariants.{Ok, Err}
use Rattle.std.specs.declared.result.Result.{Result}
use Rattle.paper.specs.declared.Refusal.{Refusal}
use Rattle.paper.specs.Answers.{out}

pub carry_out-bytes : (s : State) (bs : List ℕ) → Stands s bs → (c : Result Choice Refusal) → Carries s c → carry_out-model bs c ≡ leaves (carry_out s (said c)) bs
unfolding carry Holds
carry_out-bytes s bs S (Ok (FirstOfBin q b)) h = take_first-bytes s bs S b h.0 (omega (arith, h.1, h.2)) h.1 q h.3 h.4
carry_out-bytes s bs S (Ok (HighEnd rest b)) h =
    ap (λ (r : Rest). cut_high bs r b) h.3 ∙ cut_high-bytes s bs S b h.0 (omega (arith, h.1, h.2)) h.1 h.4
carry_out-bytes s bs S (Ok (ExactBin bin b)) h = take_whole-bytes s bs S b h.0 bin h.2
carry_out-bytes s bs S (Ok (LargerBin bin b)) h = take_part-bytes s bs S b h.1 h.0 (size bin) h.2 bin h.3
carry_out-bytes s bs S (Ok (LowEnd rest b)) h =
    ap (λ (r : Rest). cut_low bs r b) h.2 ∙ cut_low-bytes s bs S b (omega (arith, h.1)) h.0 h.3
carry_out-bytes s bs S (Err k) h = ap (out (Err k)) (sym S.holds)
