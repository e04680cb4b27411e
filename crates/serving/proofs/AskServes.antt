-- Asking serves: the block that the walk finds is the paper's, and its size less 4 is plain.
use mathlib.Core.List.{List}
use mathlib.Core.Logic.{◌≢◌}
use mathlib.Core.Path.{◌≡◌, ◌∙◌, ap, refl, sym}
use Prim.Native.Nat.{ℕ, ◌+◌, ◌-◌}
use native.Mathlib.Omega.{arith}
use Rattle.words.specs.Choice.{by=, if=, if=-no, if=-yes}
use Rattle.words.specs.Sums.{minus}
use Rattle.paper.proofs.reads.Stands.{Stands}
use Rattle.paper.proofs.runs.HeldPlaces.{held_at}
use Rattle.paper.proofs.runs.HeldWalk.{held-within}
use Rattle.paper.proofs.runs.LookedUp.{by-held}
use Rattle.paper.specs.Blocks.{State}
use Rattle.paper.specs.declared.Found.{Found}
use Rattle.paper.specs.declared.Found.TheVariants.{Held, Free, Remainder, Nothing}
use Rattle.paper.specs.GivingBack as paper
use Rattle.paper.specs.LookingUp.{by_offset, look_up}
use Rattle.walk.proofs.LookUpRead.{look-up-read}
use Rattle.walk.specs.LookUp as walk
use Rattle.serving.specs.Models.{held_there, by_answer}
use Rattle.serving.specs.Models as model
use Rattle.std.specs.declared.result.Result.TheVariants.{Ok, Err}
use Rattle.paper.specs.declared.Refusal.TheVariants.{NotHeld}
use Rattle.paper.specs.Answers.{Answer}
use Rattle.paper.specs.declared.Refusal.{Refusal}

-- what is done by the size that is held there, is done by the block that was found
by-found : {A : Type 0} (x : Found) (offset : ℕ) (f : Refusal → A) (g : ℕ → A) → by_answer (held_there x offset) f g ≡ by_offset x offset f (λ q z. g z)
unfolding held_there
by-found (Held q z) offset f g =
    by= offset (q + 4)
    (λ e. ap (λ (r : Answer). by_answer r f g) (if=-yes offset (q + 4) _ _ e) ∙ sym (if=-yes offset (q + 4) _ _ e))
    (λ n. ap (λ (r : Answer). by_answer r f g) (if=-no offset (q + 4) _ _ n) ∙ sym (if=-no offset (q + 4) _ _ n))
by-found (Free q z) offset f g = refl
by-found (Remainder q z) offset f g = refl
by-found Nothing offset f g = refl

module _ (s : State) (bs : List ℕ) (S : Stands s bs) (offset : ℕ) where
  -- looked up in the bytes, in the words of what is held there
  pub looked-up : {A : Type 0} (f : Refusal → A) (g : ℕ → A)
      → by_answer (held_there (walk.look_up bs offset) offset) f g ≡ if= (held_at s offset) 0 (f NotHeld) (g (held_at s offset))
  looked-up f g =
      ap (λ (x : Found). by_answer (held_there x offset) f g) (look-up-read s bs S offset) ∙ by-found (look_up s offset) offset f g
      ∙ by-held offset f (λ q z. g z) s S.well_formed.sized

  pub size-less-four : held_at s offset ≢ 0 → minus (held_at s offset) 4 ≡ held_at s offset - 4
  size-less-four n = let h = held-within s S.well_formed offset n in omega (arith, S.well_formed.fits)

  pub ask-serves : model.ask bs offset ≡ paper.ask s offset
  unfolding model.ask paper.ask
  ask-serves =
      looked-up Err (λ z. Ok (minus z 4))
      ∙ by= (held_at s offset) 0
      (λ e. if=-yes (held_at s offset) 0 _ _ e ∙ sym (if=-yes (held_at s offset) 0 _ _ e))
      (λ n. if=-no (held_at s offset) 0 _ _ n ∙ ap Ok (size-less-four n) ∙ sym (if=-no (held_at s offset) 0 _ _ n))
      ∙ sym (by-held offset Err (λ q z. Ok (z - 4)) s S.well_formed.sized)
