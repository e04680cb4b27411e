-- heads::link_word meets its contract: the word of the signed distance, or 0.
use Rattle.std.proofs.Common.{sym, ap, ◌∙◌, arith}
use Rattle.std.proofs.lemmas.Int.{of_z-to_z, to_z-of_z}
use Rattle.std.specs.Int.{w32, cast_unsigned}
use Rattle.heads.specs.Links.{link_word}
use Rattle.words.specs.Choice.{if=-yes, if=-no}
use Rattle.heads.proofs.links.link_word.Goals as goal

pub returns-then-to-eq0 : goal.returns-then-to-eq0
unfolding link_word
returns-then-to-eq0 c = sym (if=-yes _ _ _ _ c.if-to-eq0.true)

pub returns-else-to-eq0 : goal.returns-else-to-eq0
unfolding link_word
returns-else-to-eq0 c =
    c.cast_unsigned.ensures
    ∙ ap (cast_unsigned w32) (to_z-of_z w32 c.distance.result (record { sfits = c.distance.type_inv }) ∙ c.distance.ensures)
    ∙ of_z-to_z w32 _ (omega arith)
    ∙ sym (if=-no _ _ _ _ c.if-to-eq0.false)
