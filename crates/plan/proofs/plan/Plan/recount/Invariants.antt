use Rattle.std.proofs.Common.{take}
use Rattle.graph.specs.LoadedEdges.{numbers_in}
use Rattle.plan.specs.Staying.{AreRecounted, OnlyCounts}
use Rattle.plan.proofs.plan.Plan.recount.Given as goal

abbrev pub invariant-loop-loaded : goal.invariant-loop-loaded
invariant-loop-loaded l =
    OnlyCounts l.fn.self l.self
    × AreRecounted l.graph l.fn.self.standings.items l.fn.self.there.items (numbers_in (take l.loaded-index l.edges)) l.fn.self.left.items l.self.left.items
