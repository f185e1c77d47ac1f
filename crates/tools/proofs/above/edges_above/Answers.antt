use Rattle.std.proofs.Common.{ℕ, List, subst}
use Rattle.graph.specs.declared.graph.Graph.{Graph}
use Rattle.tools.specs.Above.{AreAbove}
use Rattle.tools.proofs.above.edges_above.Goals as goal

pub returns : goal.returns
returns c =
    let walk = c.in_ok-walk.walk in
    let is = c.in_ok-walk.ensures.walk in
    let order = c.list_all.new.self.order.items in
    subst (λ (graph : Graph). AreAbove graph c.args.paths.now order) is.same (subst (λ (paths : List ℕ). AreAbove walk.graph.now paths order) is.asked c.in_ok-list_all.ensures)
