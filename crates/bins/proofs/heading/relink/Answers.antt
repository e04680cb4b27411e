-- bins::relink meets its contract, by the test on the new first block.
use Rattle.bins.specs.Head.{relink}
use Rattle.words.specs.Choice.{if=-yes, if=-no}
use Rattle.bins.proofs.heading.relink.Goals as goal

pub returns-then-new-eq0 : goal.returns-then-new-eq0
unfolding relink
returns-then-new-eq0 c =
    rw (
      if=-yes _ _ _ _ c.if-new-eq0.true,
      c.put_field.ensures,
      c.link_word.ensures,
      c.after-next.ensures,
      c.word-index.ensures,
    )

pub returns : goal.returns
unfolding relink
returns c =
    rw (
      if=-no _ _ _ _ c.if-new-eq0.false,
      c.put_field-3.ensures,
      c.link_word-3.ensures,
      c.put_field-2.ensures,
      c.link_word-2.ensures,
      c.after-next.ensures,
      c.word-index.ensures,
    )
