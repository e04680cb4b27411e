-- heads::follow meets its contract: the start, moved by the signed distance that the word holds.
use Rattle.std.proofs.Common.{sym, ap, ◌∙◌, ℕ, ◌+◌, ◌%◌, arith}
use Rattle.std.proofs.lemmas.Int.{of_z-to_z, to_z-of_z}
use Rattle.std.specs.Int.{w32, cast_unsigned}
use Rattle.heads.specs.Links.{followed}
use Rattle.words.specs.Choice.{if=-yes, if=-no}
use Rattle.heads.proofs.links.follow.Goals as goal

pub returns-then-word-eq0 : goal.returns-then-word-eq0
unfolding followed
returns-then-word-eq0 c = sym (if=-yes _ _ _ _ c.if-word-eq0.true)

pub returns-else-word-eq0 : goal.returns-else-word-eq0
unfolding followed
returns-else-word-eq0 c =
    c.wrapping_add_signed.ensures
    ∙ ap (λ (w : ℕ). (c.args.from + w) % 4294967296) (ap (cast_unsigned w32) (to_z-of_z w32 c.cast_signed.result (record { sfits = c.cast_signed.type_inv }) ∙ c.cast_signed.ensures) ∙ of_z-to_z w32 _ (omega arith))
    ∙ sym (if=-no _ _ _ _ c.if-word-eq0.false)
