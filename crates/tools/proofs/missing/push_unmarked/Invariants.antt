use Rattle.std.proofs.Common.{take}
use Rattle.tools.specs.Missing.{AddsDeps, IsUnmarked}
use Rattle.tools.proofs.missing.push_unmarked.Given as goal

abbrev pub invariant-loop-dep : goal.invariant-loop-dep
invariant-loop-dep l = AddsDeps l.initial.missing.items l.missing.items (IsUnmarked l.marks (take l.dep-index l.made))
