-- `ends` of large blocks: the footer is the head again.
use Rattle.std.proofs.Common.{ap, arith, ℕ, ◌+◌, ◌∙◌}
use Rattle.words.specs.Words.{word_at}
use Rattle.runs.proofs.Laws.{at-least-large, large-ends}
use Rattle.runs.proofs.LargeKind.ends.Goals as goal

pub returns : goal.returns
returns c = λ k.
    large-ends _ _ _ k c.size_of-z.ensures
    (c.field.ensures ∙ ap (λ (o : ℕ). word_at 4 c.args.pool.now (c.args.p + o)) (omega (arith, at-least-large _ k, c.size_of-z.ensures, c.minus.ensures)))
