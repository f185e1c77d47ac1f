use Rattle.std.proofs.Common.{◌≡◌, vec_len}
use Rattle.host.specs.Process.{jobs_of}
use Rattle.host.proofs.waiting.some_runs.Given as goal

abbrev pub invariant-loop-place : goal.invariant-loop-place
invariant-loop-place l = (jobs_of l.commands.items ≡ jobs_of l.fn.commands.items) × (vec_len l.commands ≡ vec_len l.fn.commands)
