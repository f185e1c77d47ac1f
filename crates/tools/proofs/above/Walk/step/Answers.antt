use Rattle.graph.specs.Links.{links_of}
use Rattle.tools.proofs.Rises.{last_within}
use Rattle.tools.proofs.above.Walk.step.Goals as goal

pub next_input-requires-clause-within : goal.next_input-requires-clause-within
next_input-requires-clause-within c =
    let walk = c.args.self.now in
    last_within (links_of walk.graph.now) walk.paths.now walk.order.items walk.marks.items walk.left.items walk.stack.items c.requires.at.at c.args.edge c.requires.last
