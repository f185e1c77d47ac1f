use Rattle.std.proofs.Common.{take}
use Rattle.graph.specs.Gains.{AreFreed}
use Rattle.graph.proofs.makers.free.Given as goal

abbrev pub invariant-loop-path : goal.invariant-loop-path
invariant-loop-path l = AreFreed (take l.path-index l.paths) l.fn.makers l.makers
