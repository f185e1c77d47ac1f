use Rattle.std.proofs.Common.{◌≡◌, ℕ, suc, List, true, length, count_by}
use Rattle.model.specs.Graph.{edge_at}
use Rattle.model.specs.Schedule.{Task}
use Rattle.graph.specs.Links.{links_of}
use Rattle.plan.specs.declared.step.Standing.TheVariants.{Alias}
use Rattle.plan.specs.Standing.{standing_at, is_alias}
use Rattle.plan.specs.Plan.{IsOver}
use Rattle.plan.specs.Planned.{IsTaskOf}
use Rattle.plan.specs.Settling.{SettlesAliases, IsSound}
use Rattle.plan.proofs.plan.Plan.settle_pending.Given as goal

abbrev pub invariant-loop-place : goal.invariant-loop-place
invariant-loop-place l =
    SettlesAliases l.fn.self l.self
    × IsOver (links_of l.graph) (length l.graph.manifest.paths) l.self.standings.items l.self.left.items l.self.there.items
    × ((task : Task) (done : List ℕ) → IsTaskOf task l.graph → ((e : ℕ) → standing_at l.fn.self.standings.items e ≡ Alias → (edge_at task.graph.edges (suc e)).phony ≡ true) → IsSound task.graph.edges done l.fn.self → IsSound task.graph.edges done l.self)

abbrev pub decreases-loop-place : goal.decreases-loop-place
decreases-loop-place l = count_by is_alias l.self.standings.items
