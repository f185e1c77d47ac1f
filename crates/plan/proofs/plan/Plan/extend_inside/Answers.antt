use Rattle.std.proofs.Common.{◌≡◌, List, true, subst, arith}
use Rattle.model.specs.Graph.{has_number}
use Rattle.graph.specs.declared.back.LoadedEdge.{LoadedEdge}
use Rattle.graph.specs.LoadedEdges.{numbers_in}
use Rattle.plan.specs.Staying.{AreToCount}
use Rattle.plan.proofs.Staying.{ok_then, may_of, edges_below}
use Rattle.plan.proofs.plan.Plan.extend_inside.Goals as goal

pub may_count_all-requires-clause-lines : goal.may_count_all-requires-clause-lines
may_count_all-requires-clause-lines c =
    let may = c.requires.may.1 in
    let plan = c.args.self.now in
    omega (arith, may.over.over.edges, may.edges, plan.standings.ok.0)

pub may_count_all-requires-clause-within : goal.may_count_all-requires-clause-within
may_count_all-requires-clause-within c = λ e there.
    edges_below c.files_stand.ensures c.requires.may.0 c.args.graph.now c.args.self.now c.args.before.now c.requires.may.1 e
    (subst (λ (l : List LoadedEdge). has_number (numbers_in l) e ≡ true) c.deref.ensures.value there)

pub extend_in_place-requires-clause-counted : goal.extend_in_place-requires-clause-counted
extend_in_place-requires-clause-counted c =
    let plan = c.args.self.now in
    subst (λ (l : List LoadedEdge). AreToCount c.args.graph.now plan.standings.items plan.there.items (numbers_in l)) c.deref.ensures.value (c.may_count_all.ensures c.if-may_count_all.true)

pub returns-then-may_count_all-clause-planned : goal.returns-then-may_count_all-clause-planned
returns-then-may_count_all-clause-planned c = ok_then c.extend_in_place.result c.extend_in_place.ensures.planned (λ goes. goes c.args.cone.now c.requires.inside)

pub extend-requires-clause-may : goal.extend-requires-clause-may
extend-requires-clause-may c = may_of c.requires.may.0 c.args.graph.now c.args.self.now c.args.before.now c.requires.may.1

pub returns-clause-planned : goal.returns-clause-planned
returns-clause-planned c = ok_then c.extend.result c.extend.ensures.planned (λ goes before may. goes before)
