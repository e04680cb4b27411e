-- walk::pool_end meets its contract: the less of two is found by a test.
use Rattle.walk.specs.Blocks.{pool_end}
use Rattle.words.specs.Choice.{by<, if<-yes, if<-no}
use mathlib.Core.Path.{◌≡◌, sym, ◌∙◌}
use Prim.Native.Nat.{min}
use native.Mathlib.Omega.{arith}
use lib.ListN.{length}
use Rattle.walk.proofs.pool_end.Goals as goal

pub returns : goal.returns
unfolding pool_end
returns c =
    let n = length c.args.pool.now in
    c.min.ensures
    ∙ by< n 65536
    (λ l. let least : min n 65536 ≡ n = omega arith in least ∙ sym (if<-yes n 65536 n 65536 l))
    (λ l. let least : min n 65536 ≡ 65536 = omega arith in least ∙ sym (if<-no n 65536 n 65536 l))
