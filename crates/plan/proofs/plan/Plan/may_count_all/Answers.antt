use Rattle.std.proofs.Common.{ℕ, List, take, subst, sym}
use Rattle.graph.specs.declared.back.LoadedEdge.{LoadedEdge}
use Rattle.graph.specs.LoadedEdges.{numbers_in}
use Rattle.plan.specs.Staying.{AreToCount}
use Rattle.plan.proofs.Staying.{counted_none, counted_next, numbers_next, number_there, taken_all}
use Rattle.plan.proofs.plan.Plan.may_count_all.Goals as goal

pub loop-loaded-init : goal.loop-loaded-init
loop-loaded-init c = counted_none c.args.graph.now c.args.self.now.standings.items c.args.self.now.there.items

pub may_count-requires-clause-within : goal.may_count-requires-clause-within
may_count-requires-clause-within c = c.requires.within c.loaded-item.result.edge (number_there c.args.edges.now c.loop-loaded.loaded-index c.loaded-item.result c.loop-loaded-test.true c.loaded-item.is)

pub loop-loaded-preserved : goal.loop-loaded-preserved
loop-loaded-preserved c =
    let edges = c.args.edges.now in
    let plan = c.args.self.now in
    let k = c.loop-loaded.loaded-index in
    let l = c.loaded-item.result in
    subst (λ (m : List ℕ). AreToCount c.args.graph.now plan.standings.items plan.there.items m) (sym (numbers_next edges k l c.loop-loaded-test.true c.loaded-item.is))
    (counted_next c.args.graph.now plan.standings.items plan.there.items (numbers_in (take k edges)) l.edge (c.may_count.ensures c.if-not-may_count.false) c.loop-loaded.invariant)

pub returns : goal.returns
returns c = λ is.
    subst (λ (m : List LoadedEdge). AreToCount c.args.graph.now c.args.self.now.standings.items c.args.self.now.there.items (numbers_in m)) (taken_all c.args.edges.now c.loop-loaded.loaded-index c.loop-loaded-test.false) c.loop-loaded.invariant
