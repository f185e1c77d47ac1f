use Rattle.std.proofs.Common.{◌≡◌, ℕ, Some, true, List, IsTrue, length}
use Rattle.model.specs.declared.event.Event.{Event}
use Rattle.model.specs.World.{runs, IsRunning}
use Rattle.model.specs.Calls.{OthersWrote}
use Rattle.sim.specs.declared.jobs.Running.{Running}
use Rattle.sim.specs.Jobs.{running_at}
use Rattle.sim.specs.Sim.{carried}
use Rattle.sim.proofs.sim.carry_out.Given as goal

-- what is left is listed, and once it is done all is
abbrev pub invariant-loop-job : goal.invariant-loop-job
invariant-loop-job g l = record {
  left : (job : ℕ) (one : Running) → running_at job l.running.entries ≡ Some one → running_at job l.initial.running.entries ≡ Some one;
  others : (events : List Event) → ((job : ℕ) (one : Running) → running_at job l.initial.running.entries ≡ Some one → runs job events ≡ true) → OthersWrote (IsRunning events) l.initial.history l.history;
  done : IsTrue l.complete → carried g.C.Commands.outcome l.running.entries l.history ≡ carried g.C.Commands.outcome l.initial.running.entries l.initial.history;
}

abbrev pub decreases-loop-job : goal.decreases-loop-job
decreases-loop-job g l = length l.running.entries
