use Rattle.std.proofs.Common.{ℕ, List, count_by}
use Rattle.model.specs.Schedule.{Task}
use Rattle.plan.specs.Standing.{is_alias}
use Rattle.plan.specs.Planned.{IsTaskOf}
use Rattle.plan_plain.specs.Planned.{SettlesAliases, IsSound, AreAliases}
use Rattle.plan_plain.proofs.plain.Plan.settle_aliases.Given as goal

abbrev pub invariant-loop-edge : goal.invariant-loop-edge
invariant-loop-edge l =
    SettlesAliases l.fn.self l.self
    × ((task : Task) (done : List ℕ) → IsTaskOf task l.graph → AreAliases task.graph.edges l.fn.self.standings.items → IsSound task.graph.edges done l.fn.self.standings.items → IsSound task.graph.edges done l.self.standings.items)

abbrev pub decreases-loop-edge : goal.decreases-loop-edge
decreases-loop-edge l = count_by is_alias l.self.standings.items
