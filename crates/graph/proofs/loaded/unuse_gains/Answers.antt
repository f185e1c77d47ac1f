use Rattle.std.proofs.Common.{◌∙◌, ◌<◌, ◌+◌, ℕ, List, IfSome, ap, length, refl, subst, sym, take}
use Rattle.graph.specs.declared.choice.Choice.{Choice}
use Rattle.graph.specs.Fronts.{AreCut}
use Rattle.graph.specs.Gains.{gained_times}
use Rattle.graph.specs.Held.{times}
use Rattle.graph.specs.InTurn.{AreInputsBelow}
use Rattle.graph.specs.Statements.{gain_of}
use Rattle.graph.proofs.Fronts.{cut_none, cut_then}
use Rattle.graph.proofs.InTurn.{all_chosen, take_push}
use Rattle.graph.proofs.Losing.{times_push}
use Rattle.graph.proofs.loaded.unuse_gains.Goals as goal

pub loop-choice-init : goal.loop-choice-init
loop-choice-init c = cut_none (gained_times c.args.gains.now (take 0 c.args.chosen.now)) c.args.users.now (λ p. refl)

pub unuse_gain-requires-clause-inputs : goal.unuse_gain-requires-clause-inputs
unuse_gain-requires-clause-inputs c = subst (λ (n : ℕ). AreInputsBelow n c.args.gains.now) (sym c.loop-choice.invariant.fits) c.requires.inputs

pub unuse_gain-requires-clause-within : goal.unuse_gain-requires-clause-within
unuse_gain-requires-clause-within c =
    let x = c.choice-item.result in
    subst (λ (y : Choice). IfSome y.statement (λ k. k < length c.args.gains.now)) (sym c.choice-item.is) (c.requires.within.1 c.loop-choice.choice-index x c.loop-choice-test.true).statement

pub loop-choice-preserved : goal.loop-choice-preserved
loop-choice-preserved c =
    let gains = c.args.gains.now in
    let chosen = c.args.chosen.now in
    let place = c.loop-choice.choice-index in
    let x = c.choice-item.result in
    cut_then (gained_times gains (take place chosen)) (times (gain_of gains x.statement).inputs) (gained_times gains (take (place + 1) chosen)) c.args.users.now c.loop-choice.users c.unuse_gain.new.users
    (λ p. ap (λ (l : List Choice). gained_times gains l p) (take_push chosen place x c.loop-choice-test.true c.choice-item.is) ∙ times_push gains (take place chosen) x p) c.loop-choice.invariant c.unuse_gain.ensures

pub returns : goal.returns
returns c =
    subst (λ (l : List Choice). AreCut (gained_times c.args.gains.now l) c.args.users.now c.loop-choice.users) (all_chosen c.args.chosen.now c.loop-choice.choice-index c.loop-choice-test.false) c.loop-choice.invariant
