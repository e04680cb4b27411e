-- tape::calls::RunPool::figures meets its contract, by the two ways of its test.
use Rattle.std.proofs.Common.{◌≡◌, take, sym, ap, ◌∙◌, arith, rules}
use Rattle.words.specs.Choice.{if<-yes, if<-no}
use Rattle.pool.specs.Calls.{figures}
use Rattle.tape.specs.Serve.{figures_first}
use Rattle.tape.proofs.calls.RunPool.figures.Goals as goal

pub returns-in-None : goal.returns-in-None
unfolding figures_first
returns-in-None c = sym (if<-yes _ _ _ _ (omega (arith, c.in-None.ensures)))

pub returns-in-Some : goal.returns-in-Some
unfolding figures_first
returns-in-Some c =
    let p : c.in-Some.pool.now ≡ take c.args.self.now.n c.args.self.now.buffer.now = search (rules, c.in-Some.ensures) in
    c.figures.ensures ∙ ap figures p ∙ sym (if<-no _ _ _ _ (omega (arith, c.in-Some.ensures)))
