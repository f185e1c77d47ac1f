use Rattle.std.proofs.Common.{length, take}
use Rattle.graph.specs.Links.{links_of}
use Rattle.plan.specs.Settling.{IsCounted}
use Rattle.plan.specs.Settling.{IsStill}
use Rattle.plan.proofs.Arriving.{HaveCome}
use Rattle.plan.proofs.plan.Plan.arrive_all.Given as goal

abbrev pub invariant-loop-path : goal.invariant-loop-path
invariant-loop-path l =
    IsStill l.fn.self l.self
    × IsCounted (links_of l.graph) (length l.graph.manifest.paths) l.self.standings.items l.self.left.items l.self.there.items
    × HaveCome (length l.graph.manifest.paths) (take l.path-index l.path-items) l.fn.self.there.items l.self.there.items
