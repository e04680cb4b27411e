-- asking::mark_run meets its contract: the walk that marks.
use Rattle.asking.specs.AllHeld.{Marking, marking, marked, mark_run}
use Rattle.walk.proofs.Along.{Going, arrives, sets_out, steps}
use Rattle.words.specs.Choice.{when-yes, when-no}
use mathlib.Core.Path.{◌≡◌, sym, ◌∙◌, ap, subst}
use Prim.Native.Nat.{ℕ}
use Rattle.walk.specs.declared.blocks.Blocks.{Blocks}
use Rattle.asking.proofs.mark_run.Goals as goal

pub loop-block-init : goal.loop-block-init
loop-block-init c =
    let way = c.below-block-items.ensures in
    let same = c.into_iter-block-iterator.ensures.into_iter_gives in
    let here : c.into_iter-block-iterator.result.at ≡ c.args.from = ap (λ (s : Blocks). s.at) same ∙ way.at in
    subst
    (λ (at : ℕ). Going marked c.args.pool.now c.args.from c.args.to (marking c.args.from c.args.m.now) c.into_iter-block-iterator.result (marking at c.args.m.now))
    (sym here)
    (sets_out marked _ way same)

pub loop-block-preserved-then-block : goal.loop-block-preserved-then-block
unfolding marked
loop-block-preserved-then-block c =
    let S = c.in-Some.ensures.steps in
    steps c.loop-block.invariant S _ (rw (when-yes _ _ _ c.if-block.true) (cc (S.gives.on, S.gives.start, c.mark.ensures)))

pub loop-block-preserved : goal.loop-block-preserved
unfolding marked
loop-block-preserved c =
    let S = c.in-Some.ensures.steps in
    steps c.loop-block.invariant S _ (rw (when-no _ _ _ c.if-block.false) (cc S.gives.on))

pub returns : goal.returns
unfolding mark_run
returns c = ap (λ (x : Marking). x.marks) (sym (arrives c.loop-block.invariant c.in-None.ensures.steps))
