use Rattle.std.proofs.Common.{◌∙◌, ap, drop, sym, ℕ, BTreeMap}
use Rattle.model.specs.World.{runs}
use Rattle.sim.specs.declared.jobs.Running.{Running}
use Rattle.sim.specs.Jobs.{Told, running_at}
use Rattle.sim.proofs.Listed.{listed_live}
use Rattle.sim.proofs.jobs.Jobs.stop.Goals as goal

pub returns-clause-runs : goal.returns-clause-runs
returns-clause-runs c runs_on job one is =
    ap (λ (t : Told). runs job t.events) (sym c.self.view_is) ∙ listed_live job one c.self.inside.running.entries (drop c.self.inside.before c.self.inside.events.items) (ap (λ (m : BTreeMap ℕ Running). running_at job m.entries) (sym c.replace.ensures.value) ∙ is) (c.self.invariant.runs (ap (λ (t : Told). t.stopped) c.self.view_is ∙ runs_on) job)
