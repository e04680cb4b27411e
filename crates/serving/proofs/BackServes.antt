-- Giving back serves: a refusal leaves what stands, and else by the bytes of the give-back; and by what every give-back keeps.
use mathlib.Core.List.{List}
use mathlib.Core.Logic.{◌≢◌}
use mathlib.Core.Path.{◌≡◌, ◌∙◌, ap, sym}
use Prim.Native.Nat.{ℕ, ◌-◌}
use native.Mathlib.Omega.{arith}
use Rattle.words.specs.Choice.{by=, if=-no, if=-yes}
use Rattle.words.specs.Sums.{minus}
use Rattle.words.specs.Words.{Bytes}
use Rattle.giveback.proofs.BackBytes.{back-bytes}
use Rattle.paper.proofs.keeps.BackKeeps.{give_back-keeps, give_back-none, give_back-some}
use Rattle.paper.proofs.reads.Stands.{Stands}
use Rattle.paper.proofs.runs.HeldPlaces.{held_at}
use Rattle.paper.proofs.runs.HeldWalk.{held-within}
use Rattle.paper.specs.Blocks.{State}
use Rattle.paper.specs.Calls.{leaves}
use Rattle.paper.specs.GivingBack as paper
use Rattle.paper.specs.Governed.{sheet}
use Rattle.paper.specs.Granting.{Result}
use Rattle.paper.specs.Sheet.{Holds, write}
use Rattle.serving.specs.Models as model
use Rattle.serving.proofs.AskServes.{looked-up, size-less-four}
use Rattle.serving.proofs.Serves.{Serves, kept-serves}
use Rattle.std.specs.declared.result.Result.TheVariants.{Ok, Err}
use Rattle.paper.specs.declared.Refusal.TheVariants.{NotHeld}
use Rattle.paper.specs.Answers.{Answer, out}

module _ (s : State) (bs : List ℕ) (S : Stands s bs) (bytes : Bytes bs) (offset : ℕ) where
  none-back : held_at s offset ≡ 0 → model.give_back bs offset ≡ leaves (paper.give_back s offset) bs
  unfolding model.give_back Holds
  none-back e =
      looked-up s bs S offset _ _ ∙ if=-yes (held_at s offset) 0 _ _ e ∙ ap (out (Err NotHeld)) (sym S.holds)
      ∙ ap (λ (r : Result). leaves r bs) (sym (give_back-none s S.well_formed offset e))

  -- its size and its start are those of the walk
  held_back : held_at s offset ≢ 0 → model.give_back bs offset ≡ leaves (paper.give_back s offset) bs
  unfolding model.give_back
  held_back n =
      let h = held-within s S.well_formed offset n in
      let q : minus offset 4 ≡ offset - 4 = omega (arith, S.well_formed.fits) in
      let a : Ok (held_at s offset - 4) ≡ (paper.give_back s offset).answer =
      ap (λ (r : Result). r.answer) (sym (give_back-some s S.well_formed offset n)) in
      looked-up s bs S offset _ _ ∙ if=-no (held_at s offset) 0 _ _ n
      ∙ rw (size-less-four s bs S offset n, q, back-bytes s bs S bytes offset n)
      (ap (λ (r : Answer). out r (write (sheet (paper.give_back s offset).state) bs)) a)

  pub give-back-serves : Serves (model.give_back bs offset) (paper.give_back s offset) bs
  give-back-serves =
      kept-serves s bs S (paper.give_back s offset) (give_back-keeps s S.well_formed offset) (by= (held_at s offset) 0 none-back held_back)
