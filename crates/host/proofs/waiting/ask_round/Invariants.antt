use Rattle.std.proofs.Common.{◌≡◌, ◌≤◌, vec_len}
use Rattle.host.specs.Process.{jobs_of}
use Rattle.host.proofs.waiting.ask_round.Given as goal

abbrev pub invariant-loop : goal.invariant-loop
invariant-loop l = (jobs_of l.commands.items ≡ jobs_of l.fn.commands.items) × (vec_len l.commands ≡ vec_len l.fn.commands) × (l.end ≤ vec_len l.fn.commands)
