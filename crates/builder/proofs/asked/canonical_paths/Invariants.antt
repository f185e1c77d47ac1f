use Rattle.std.proofs.Common.{take}
use Rattle.builder.specs.Asked.{AreTargets}
use Rattle.builder.proofs.asked.canonical_paths.Given as goal

abbrev pub invariant-loop-target : goal.invariant-loop-target
invariant-loop-target l = AreTargets (take l.target-index l.given) l.paths
