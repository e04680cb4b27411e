-- `size_at`: the size in the word that was read.
use mathlib.Core.Path.{ap, ◌∙◌}
use Prim.Native.Nat.{ℕ}
use Rattle.heads.specs.Heads.{size_of}
use Rattle.lists.proofs.size_at.Goals as goal

pub returns : goal.returns
returns c = c.size_of.ensures ∙ ap (λ (w : ℕ). size_of w) c.get.ensures
