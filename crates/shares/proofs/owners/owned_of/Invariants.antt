use Rattle.std.proofs.Common.{◌≡◌, drop}
use Rattle.shares.specs.Owners.{none_owned, owned_all}
use Rattle.shares.proofs.owners.owned_of.Given as goal

abbrev pub invariant-loop-process : goal.invariant-loop-process
invariant-loop-process l = owned_all l.processes (none_owned l.commands) ≡ owned_all (drop l.process-index l.processes) l.owned
