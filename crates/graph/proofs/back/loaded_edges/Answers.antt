use Rattle.std.proofs.Common.{◌≡◌, ◌∙◌, ◌<◌, ◌+◌, ◌++◌, List, ap, length, subst, sym, drop, arith, append_assoc}
use Rattle.std.proofs.lemmas.List.{get_or_default, append-nil}
use Rattle.paths.specs.declared.manifest.Action.{Action}
use Rattle.paths.specs.Commands.{no_action}
use Rattle.graph.specs.declared.back.LoadedEdge.{LoadedEdge}
use Rattle.graph.specs.declared.choice.Choice.{Choice}
use Rattle.graph.specs.Statements.{action_at}
use Rattle.graph.specs.Back.{loaded_by, loaded_all}
use Rattle.graph.proofs.InTurn.{drop_next, drop_past}
use Rattle.graph.proofs.back.loaded_edges.Goals as goal

pub loop-choice-init : goal.loop-choice-init
loop-choice-init c = ap (λ (l : List LoadedEdge). l ++ loaded_all c.args.actions.now c.args.chosen.now) c.in_ok-edges.ensures.items

pub bounds-actions-index : goal.bounds-actions-index
bounds-actions-index c =
    let x = c.choice-item.result in
    let low : x.edge < length c.args.actions.now = subst (λ (y : Choice). y.edge < length c.args.actions.now) (sym c.choice-item.is) (c.requires c.loop-choice.choice-index x c.loop-choice-test.true) in
    omega (arith, low, c.index.ensures.place)

pub loop-choice-preserved : goal.loop-choice-preserved
loop-choice-preserved c =
    let actions = c.args.actions.now in
    let chosen = c.args.chosen.now in
    let place = c.loop-choice.choice-index in
    let x = c.choice-item.result in
    let edges = c.loop-choice.edges.items in
    let action = c.index-actions-index.result in
    let low : x.edge < length actions = subst (λ (y : Choice). y.edge < length actions) (sym c.choice-item.is) (c.requires place x c.loop-choice-test.true) in
    let here : action ≡ action_at actions x.edge = c.index-actions-index.is ∙ (get_or_default actions c.index.result action no_action (omega (arith, low, c.index.ensures.place)) ∙ ap (action_at actions) c.index.ensures.place) in
    ap (λ (l : List LoadedEdge). l ++ loaded_all actions (drop (place + 1) chosen)) (c.in_ok-push_loaded.ensures ∙ ap (λ (a : Action). edges ++ loaded_by x.edge a x.statement) here)
    ∙ (append_assoc edges (loaded_by x.edge (action_at actions x.edge) x.statement) (loaded_all actions (drop (place + 1) chosen))
    ∙ (ap (λ (l : List Choice). edges ++ loaded_all actions l) (sym (drop_next chosen place x c.loop-choice-test.true c.choice-item.is)) ∙ c.loop-choice.invariant))

pub returns : goal.returns
returns c =
    sym (append-nil c.loop-choice.edges.items)
    ∙ (ap (λ (l : List Choice). c.loop-choice.edges.items ++ loaded_all c.args.actions.now l) (sym (drop_past c.args.chosen.now c.loop-choice.choice-index c.loop-choice-test.false)) ∙ c.loop-choice.invariant)
