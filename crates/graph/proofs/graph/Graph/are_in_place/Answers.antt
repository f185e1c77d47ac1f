use Rattle.std.proofs.Common.{ℕ, List, take, subst, sym}
use Rattle.graph.specs.declared.back.LoadedEdge.{LoadedEdge}
use Rattle.graph.specs.LoadedEdges.{numbers_in}
use Rattle.graph.specs.Placed.{AreInPlace}
use Rattle.graph.proofs.Keeping.{in_place_none, in_place_next, numbers_next, edge_there, edges_whole}
use Rattle.graph.proofs.graph.Graph.are_in_place.Goals as goal

pub loop-loaded-init : goal.loop-loaded-init
loop-loaded-init c = in_place_none c.args.self.now c.args.cone.now

pub is_in_place-requires-clause-within : goal.is_in_place-requires-clause-within
is_in_place-requires-clause-within c = c.requires.within c.loaded-item.result.edge (edge_there c.args.edges.now c.loop-loaded.loaded-index c.loaded-item.result c.loop-loaded-test.true c.loaded-item.is)

pub loop-loaded-preserved : goal.loop-loaded-preserved
loop-loaded-preserved c =
    let edges = c.args.edges.now in
    let k = c.loop-loaded.loaded-index in
    let l = c.loaded-item.result in
    subst (λ (m : List ℕ). AreInPlace c.args.self.now c.args.cone.now m) (sym (numbers_next edges k l c.loop-loaded-test.true c.loaded-item.is))
    (in_place_next c.args.self.now c.args.cone.now (numbers_in (take k edges)) l.edge (c.is_in_place.ensures c.if-not-is_in_place.false) c.loop-loaded.invariant)

pub returns : goal.returns
returns c = λ is. subst (λ (m : List LoadedEdge). AreInPlace c.args.self.now c.args.cone.now (numbers_in m)) (edges_whole c.args.edges.now c.loop-loaded.loaded-index c.loop-loaded-test.false) c.loop-loaded.invariant
