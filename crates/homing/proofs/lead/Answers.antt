-- homing::lead meets its contract: to store what is read there changes nothing.
use mathlib.Core.Path.{◌∙◌, ap, sym}
use native.Mathlib.Omega.{arith}
use Rattle.words.proofs.Laws.{put_word}
use Rattle.words.specs.Words.{put_at}
use Rattle.homing.proofs.lead.Goals as goal

pub returns-then-get-q : goal.returns-then-get-q
returns-then-get-q c =
    sym (ap (put_at 4 _ _) (sym c.if-get-q.true ∙ c.get.ensures)
    ∙ put_word 4 _ _ (λ i. omega (arith, c.slice_known-1.given i)))
