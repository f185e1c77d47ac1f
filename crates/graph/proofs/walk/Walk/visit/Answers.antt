use Rattle.graph.specs.Links.{links_of}
use Rattle.graph.proofs.Walking.{needed_awaited}
use Rattle.graph.proofs.walk.Walk.visit.Goals as goal

pub open-requires-clause-needed : goal.open-requires-clause-needed
open-requires-clause-needed c =
    let walk = c.args.self.now in
    needed_awaited (links_of walk.graph.now) walk.requested.now walk.order.items walk.marks.items walk.left.items walk.stack.items c.args.edge c.args.maker c.requires.at.at c.requires.last c.requires.awaits
