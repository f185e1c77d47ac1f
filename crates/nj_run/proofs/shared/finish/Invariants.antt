use Rattle.std.proofs.Common.{◌≡◌}
use Rattle.nj_run.specs.Shared.{jobs_of}
use Rattle.nj_run.proofs.shared.finish.Given as goal

abbrev pub invariant-loop-place : goal.invariant-loop-place
invariant-loop-place l = jobs_of l.started.items ≡ jobs_of l.fn.started.items
