use Rattle.std.proofs.Common.{◌∙◌, ◌<◌, ℕ, List, IfSome, ap, length, subst, sym, take}
use Rattle.graph.specs.declared.choice.Choice.{Choice}
use Rattle.graph.specs.Gains.{gained_outputs, AreFreed}
use Rattle.graph.specs.InTurn.{AreOutputsBelow}
use Rattle.graph.specs.Statements.{gain_of}
use Rattle.graph.proofs.InTurn.{all_chosen, take_push}
use Rattle.graph.proofs.Losing.{freed_none, freed_then, outputs_push}
use Rattle.graph.proofs.loaded.free_gains.Goals as goal

pub loop-choice-init : goal.loop-choice-init
loop-choice-init c = freed_none c.args.makers.now

pub free_gain-requires-clause-outputs : goal.free_gain-requires-clause-outputs
free_gain-requires-clause-outputs c = subst (λ (n : ℕ). AreOutputsBelow n c.args.gains.now) (sym c.loop-choice.invariant.fits) c.requires.outputs

pub free_gain-requires-clause-within : goal.free_gain-requires-clause-within
free_gain-requires-clause-within c =
    let x = c.choice-item.result in
    subst (λ (y : Choice). IfSome y.statement (λ k. k < length c.args.gains.now)) (sym c.choice-item.is) (c.requires.within.1 c.loop-choice.choice-index x c.loop-choice-test.true).statement

pub loop-choice-preserved : goal.loop-choice-preserved
loop-choice-preserved c =
    let gains = c.args.gains.now in
    let chosen = c.args.chosen.now in
    let place = c.loop-choice.choice-index in
    let x = c.choice-item.result in
    subst (λ (l : List ℕ). AreFreed l c.args.makers.now c.free_gain.new.makers) (sym (ap (gained_outputs gains) (take_push chosen place x c.loop-choice-test.true c.choice-item.is) ∙ outputs_push gains (take place chosen) x))
    (freed_then (gained_outputs gains (take place chosen)) (gain_of gains x.statement).outputs c.args.makers.now c.loop-choice.makers c.free_gain.new.makers c.loop-choice.invariant c.free_gain.ensures)

pub returns : goal.returns
returns c =
    subst (λ (l : List Choice). AreFreed (gained_outputs c.args.gains.now l) c.args.makers.now c.loop-choice.makers) (all_chosen c.args.chosen.now c.loop-choice.choice-index c.loop-choice-test.false) c.loop-choice.invariant
