use Rattle.std.proofs.Common.{◌≡◌, take}
use Rattle.graph.specs.InTurn.{lines_given}
use Rattle.graph.proofs.loaded.grow_lines.Given as goal

abbrev pub invariant-loop-done : goal.invariant-loop-done
invariant-loop-done l = l.lines ≡ lines_given l.gains l.fn.lines (take l.done l.chosen)
