-- serving::held_there meets its contract, by the block that was found.
use mathlib.Core.Path.{◌≡◌, refl}
use Prim.Native.Nat.{ℕ}
use Rattle.paper.specs.declared.Found.{Found}
use Rattle.paper.specs.declared.Found.TheVariants.{Held, Free, Remainder, Nothing}
use Rattle.serving.specs.Models as model
use Rattle.words.specs.Choice.{if=-yes, if=-no}
use Rattle.serving.proofs.held_there.Goals as goal
use Rattle.std.specs.declared.result.Result.TheVariants.{Err}
use Rattle.paper.specs.declared.Refusal.TheVariants.{NotHeld}

-- any other block than a held one, or none
other : (x : Found) (offset : ℕ) → ((q z : ℕ) → x ≡ Held q z → ⊥) → Err NotHeld ≡ model.held_there x offset
unfolding model.held_there
other (Held q z) offset n = absurd (n q z refl)
other (Free q z) offset n = refl
other (Remainder q z) offset n = refl
other Nothing offset n = refl

pub returns-in_default : goal.returns-in_default
returns-in_default c = other _ _ c.in_default.not-Held

-- a held block: by where it starts
pub returns-then-offset-start : goal.returns-then-offset-start
unfolding model.held_there
returns-then-offset-start c = rw (c.in-Held.is, if=-no _ _ _ _ c.if-offset-start.true)

pub returns : goal.returns
unfolding model.held_there
returns c = rw (c.in-Held.is, if=-yes _ _ _ _ c.if-offset-start.false)
