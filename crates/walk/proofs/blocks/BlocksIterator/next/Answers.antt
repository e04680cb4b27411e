-- walk::Blocks gives the block that stands next: its size is a word without its two flags.
use Rattle.heads.specs.Heads.{head_of}
use Rattle.heads.specs.declared.head.Head.{Head}
use mathlib.Core.Path.{refl, ◌∙◌, ap}
use native.Mathlib.Omega.{arith}
use Rattle.walk.proofs.blocks.BlocksIterator.next.Goals as goal

pub returns-clause-steps : goal.returns-clause-steps
unfolding head_of
returns-clause-steps c =
    record {
      pool = refl;
      end = refl;
      gives = record {
        below = c.if-self.false;
        start = refl;
        head = c.from-head.ensures ∙ ap head_of c.get.ensures;
        sized = c.if-head-eq0.false;
        short = omega (arith, ap (λ (h : Head). h.size) c.from-head.ensures);
        on = refl;
      };
    }
