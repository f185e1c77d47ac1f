use Rattle.std.proofs.Common.{take}
use Rattle.graph.specs.LoadedEdges.{numbers_in}
use Rattle.plan.specs.Staying.{AreToCount}
use Rattle.plan.proofs.plan.Plan.may_count_all.Given as goal

abbrev pub invariant-loop-loaded : goal.invariant-loop-loaded
invariant-loop-loaded l = AreToCount l.graph l.self.standings.items l.self.there.items (numbers_in (take l.loaded-index l.edges))
