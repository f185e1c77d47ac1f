use Rattle.std.proofs.Common.{◌≡◌, ◌++◌, take}
use Rattle.std.specs.List.{flat_map}
use Rattle.status.specs.Line.{shown}
use Rattle.status.proofs.lines.line.Given as goal

abbrev pub invariant-loop-part : goal.invariant-loop-part
invariant-loop-part l = l.line.items ≡ l.initial.line.items ++ flat_map (shown l.counts) (take l.part-index l.part-items)
