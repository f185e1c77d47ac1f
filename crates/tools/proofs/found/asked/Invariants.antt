use Rattle.std.proofs.Common.{map, take}
use Rattle.std.specs.List.{AllZip}
use Rattle.std.specs.Map.Iter.{deref}
use Rattle.tools.specs.Found.{IsNamed}
use Rattle.tools.proofs.found.asked.Given as goal

abbrev pub invariant-loop-word : goal.invariant-loop-word
invariant-loop-word l = AllZip (IsNamed l.graph) (map deref (take l.word-index l.words)) l.paths.items
