use Rattle.std.proofs.Common.{◌≡◌, drop, length}
use Rattle.graph.specs.InTurn.{lines_taken}
use Rattle.graph.proofs.loaded.shrink_lines.Given as goal

abbrev pub invariant-loop-choice : goal.invariant-loop-choice
invariant-loop-choice l = record {
  fits : length l.lines ≡ length l.fn.lines;
  rest : lines_taken l.gains l.lines (drop l.choice-index l.chosen) ≡ lines_taken l.gains l.fn.lines l.chosen;
}
