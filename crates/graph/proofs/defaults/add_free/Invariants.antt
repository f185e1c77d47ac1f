use Rattle.std.proofs.Common.{◌≡◌, ◌++◌, take}
use Rattle.graph.specs.Free.{free_of}
use Rattle.graph.proofs.defaults.add_free.Given as goal

abbrev pub invariant-loop-path : goal.invariant-loop-path
invariant-loop-path l = l.free.items ≡ l.initial.free.items ++ free_of l.needed (take l.path-index l.paths)
