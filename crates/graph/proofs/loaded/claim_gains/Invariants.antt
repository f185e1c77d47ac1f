use Rattle.std.proofs.Common.{◌≡◌, List, length, take}
use Rattle.std.specs.Prelude.{All}
use Rattle.paths.specs.declared.line.Line.{Line}
use Rattle.graph.specs.Chosen.{IsWithin}
use Rattle.graph.specs.Gains.{gained_outputs, HaveGained}
use Rattle.graph.specs.InTurn.{lines_given, AreMakersIn}
use Rattle.graph.proofs.loaded.claim_gains.Given as goal

abbrev pub invariant-loop-done : goal.invariant-loop-done
invariant-loop-done l = record {
  fits : length l.makers ≡ length l.initial.makers;
  made : (before : List Line) → All (IsWithin (length before) (length l.gains)) l.chosen → AreMakersIn before l.initial.makers → AreMakersIn (lines_given l.gains before (take l.done l.chosen)) l.makers;
  gained : HaveGained (gained_outputs l.gains (take l.done l.chosen)) l.initial.makers l.makers;
}
