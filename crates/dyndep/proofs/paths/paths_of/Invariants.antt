use Rattle.std.proofs.Common.{take}
use Rattle.lexer.specs.Said.{paths_of}
use Rattle.dyndep.specs.Dyndep.{ArePaths}
use Rattle.dyndep.proofs.paths.paths_of.Given as goal

abbrev pub invariant-loop-value : goal.invariant-loop-value
invariant-loop-value l = ArePaths (paths_of (take l.value-index l.values)) l.paths
