use Rattle.std.proofs.Common.{◌≡◌, take}
use Rattle.graph.specs.InTurn.{users_given}
use Rattle.graph.proofs.loaded.use_gains.Given as goal

abbrev pub invariant-loop-done : goal.invariant-loop-done
invariant-loop-done l = l.users ≡ users_given l.gains l.fn.users (take l.done l.chosen)
