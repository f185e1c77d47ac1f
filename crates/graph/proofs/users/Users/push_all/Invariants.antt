use Rattle.std.proofs.Common.{◌≡◌, take}
use Rattle.graph.specs.Held.{pushed}
use Rattle.graph.proofs.users.Users.push_all.Given as goal

abbrev pub invariant-loop-done : goal.invariant-loop-done
invariant-loop-done l = l.self ≡ pushed l.fn.self (take l.done l.paths) l.edge
