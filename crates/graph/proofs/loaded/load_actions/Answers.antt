use Rattle.std.proofs.Common.{◌≡◌, ◌∙◌, ◌<◌, ◌+◌, ℕ, List, IfSome, map, ap, refl, drop, get_or, length, subst, sym, arith}
use Rattle.std.proofs.Math.ListN.{set}
use Rattle.std.proofs.lemmas.List.{get_or_default, length-set}
use Rattle.paths.specs.declared.manifest.Action.{Action}
use Rattle.paths.specs.Commands.{no_action}
use Rattle.graph.specs.declared.choice.Choice.{Choice}
use Rattle.graph.specs.Chosen.{IsWithin}
use Rattle.graph.specs.Extended.{addition_of}
use Rattle.graph.specs.InTurn.{actions_given}
use Rattle.graph.specs.Statements.{action_at, action_with}
use Rattle.graph.proofs.InTurn.{drop_next, drop_past}
use Rattle.graph.proofs.loaded.load_actions.Goals as goal

pub loop-choice-init : goal.loop-choice-init
loop-choice-init c = record { fits = refl; rest = refl }

pub bounds-actions-index : goal.bounds-actions-index
bounds-actions-index c =
    let x = c.choice-item.result in
    let within = subst (IsWithin (length c.args.actions.now) (length c.args.additions.now)) (sym c.choice-item.is) (c.requires c.loop-choice.choice-index x c.loop-choice-test.true) in
    let low = within.edge in
    omega (arith, low, c.index.ensures.place, c.loop-choice.invariant.fits)

pub load_chosen-requires : goal.load_chosen-requires
load_chosen-requires c k is =
    let x = c.choice-item.result in
    let within = subst (IsWithin (length c.args.actions.now) (length c.args.additions.now)) (sym c.choice-item.is) (c.requires c.loop-choice.choice-index x c.loop-choice-test.true) in
    subst (λ o. IfSome o (λ n. n < length c.args.additions.now)) is within.statement

pub loop-choice-preserved : goal.loop-choice-preserved
loop-choice-preserved c =
    let additions = map addition_of c.args.additions.now in
    let chosen = c.args.chosen.now in
    let place = c.loop-choice.choice-index in
    let x = c.choice-item.result in
    let old = c.loop-choice.actions in
    let at = c.index.result in
    let action = c.load_chosen.new.action in
    let within = subst (IsWithin (length c.args.actions.now) (length c.args.additions.now)) (sym c.choice-item.is) (c.requires place x c.loop-choice-test.true) in
    let low : at < length old = let edge = within.edge in omega (arith, edge, c.index.ensures.place, c.loop-choice.invariant.fits) in
    let here : get_or old at c.index-actions-index.result ≡ action_at old x.edge = get_or_default old at c.index-actions-index.result no_action low ∙ ap (action_at old) c.index.ensures.place in
    let loaded : action ≡ action_with additions (action_at old x.edge) x.statement = c.load_chosen.ensures ∙ ap (λ (a : Action). action_with additions a x.statement) here in
    let now : set old at action ≡ set old x.edge (action_with additions (action_at old x.edge) x.statement) = ap (λ (n : ℕ). set old n action) c.index.ensures.place ∙ ap (set old x.edge) loaded in
    record {
      fits = length-set old at action ∙ c.loop-choice.invariant.fits;
      rest = ap (λ (l : List Action). actions_given additions l (drop (place + 1) chosen)) now
          ∙ (ap (actions_given additions old) (sym (drop_next chosen place x c.loop-choice-test.true c.choice-item.is)) ∙ c.loop-choice.invariant.rest);
    }

pub returns : goal.returns
returns c =
    ap (actions_given (map addition_of c.args.additions.now) c.loop-choice.actions) (sym (drop_past c.args.chosen.now c.loop-choice.choice-index c.loop-choice-test.false)) ∙ c.loop-choice.invariant.rest
