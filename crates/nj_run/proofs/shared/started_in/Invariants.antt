use Rattle.std.proofs.Common.{◌≡◌, ◌++◌, drop}
use Rattle.nj_run.specs.Shared.{jobs_of, jobs_started}
use Rattle.nj_run.proofs.shared.started_in.Given as goal

abbrev pub invariant-loop-event : goal.invariant-loop-event
invariant-loop-event l = jobs_of l.started.items ++ jobs_started (drop l.event-index l.events) ≡ jobs_started l.events
