use Rattle.std.proofs.Common.{◌≡◌, ◌++◌, []}
use Rattle.std.specs.Prelude.{replicate}
use Rattle.graph.proofs.users.Users.add_paths.Given as goal

abbrev pub invariant-loop-done : goal.invariant-loop-done
invariant-loop-done l = l.self ≡ l.fn.self ++ replicate l._done []
