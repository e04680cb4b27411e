-- lines::rest meets its contract: each turn puts a number more.
use Rattle.lines.proofs.Print.{rest-more, rest-none}
use Rattle.lines.proofs.rest.Goals as goal

pub loop-v-preserved : goal.loop-v-preserved
loop-v-preserved c last h =
    c.loop-v.invariant last (rest-more c.args.numbers.now c.loop-v.v-index c.loop-v-test.true c.put_one.ensures c.numeral.ensures h)

pub returns : goal.returns
returns c = c.loop-v.invariant _ (rest-none c.args.numbers.now c.loop-v.v-index c.loop-v-test.false c.put_one-2.ensures)
