use Rattle.std.proofs.Common.{◌≡◌, ◌∙◌, ◌<◌, ℕ, List, Bool, length, take, ap, subst, sym, arith}
use Rattle.graph.specs.declared.back.LoadedEdge.{LoadedEdge}
use Rattle.graph.specs.LoadedEdges.{numbers_in}
use Rattle.plan.specs.declared.step.Standing.{Standing}
use Rattle.plan.specs.Staying.{recounted_for, AreRecounted}
use Rattle.plan.proofs.Staying.{counts_none, counts_next, only_none, only_more, numbers_next, number_there, taken_all}
use Rattle.plan.proofs.plan.Plan.recount.Goals as goal

pub loop-loaded-init : goal.loop-loaded-init
loop-loaded-init c = (only_none c.args.self.now, counts_none c.args.graph.now c.args.self.now.standings.items c.args.self.now.there.items c.args.self.now.left.items)

pub recount_edge-requires-clause-lines : goal.recount_edge-requires-clause-lines
recount_edge-requires-clause-lines c =
    let still = c.loop-loaded.invariant.0.still in
    omega (arith, ap (λ (s : List Standing). length s) still.standings, c.requires.lines, c.loop-loaded.self.standings.ok.0, c.args.self.now.standings.ok.0)

pub recount_edge-requires-clause-within : goal.recount_edge-requires-clause-within
recount_edge-requires-clause-within c = c.requires.within c.loaded-item.result.edge (number_there c.args.edges.now c.loop-loaded.loaded-index c.loaded-item.result c.loop-loaded-test.true c.loaded-item.is)

pub loop-loaded-preserved : goal.loop-loaded-preserved
loop-loaded-preserved c =
    let graph = c.args.graph.now in
    let first = c.args.self.now in
    let old = c.loop-loaded.self in
    let new = c.recount_edge.new.self in
    let edges = c.args.edges.now in
    let k = c.loop-loaded.loaded-index in
    let l = c.loaded-item.result in
    let only = c.loop-loaded.invariant.0 in
    let within = c.requires.within l.edge (number_there edges k l c.loop-loaded-test.true c.loaded-item.is) in
    let low : l.edge < length first.left.items = omega (arith, within, c.requires.lines, first.fits, first.left.ok.0, first.standings.ok.0) in
    let is : new.left.items ≡ recounted_for graph first.standings.items first.there.items old.left.items l.edge =
    c.recount_edge.ensures.left
    ∙ (ap (λ (s : List Standing). recounted_for graph s old.there.items old.left.items l.edge) only.still.standings
    ∙ ap (λ (t : List Bool). recounted_for graph first.standings.items t old.left.items l.edge) (ap (λ v. v.items) only.there)) in (
      only_more first old new only c.recount_edge.ensures.rest,
      subst (λ (m : List ℕ). AreRecounted graph first.standings.items first.there.items m first.left.items new.left.items) (sym (numbers_next edges k l c.loop-loaded-test.true c.loaded-item.is))
          (counts_next graph first.standings.items first.there.items (numbers_in (take k edges)) first.left.items old.left.items new.left.items l.edge low is c.loop-loaded.invariant.1),
    )

pub returns-clause-left : goal.returns-clause-left
returns-clause-left c =
    let first = c.args.self.now in
    subst (λ (m : List LoadedEdge). AreRecounted c.args.graph.now first.standings.items first.there.items (numbers_in m) first.left.items c.loop-loaded.self.left.items) (taken_all c.args.edges.now c.loop-loaded.loaded-index c.loop-loaded-test.false) c.loop-loaded.invariant.1
