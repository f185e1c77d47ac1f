use Rattle.std.proofs.Common.{take}
use Rattle.graph.specs.Statements.{HasMore, AreNumbersIn}
use Rattle.graph.proofs.loaded.numbers_of.Given as goal

abbrev pub invariant-loop-text : goal.invariant-loop-text
invariant-loop-text l = record {
  more : HasMore l.fn.paths l.paths;
  numbers : AreNumbersIn l.paths (take l.text-index l.texts) l.numbers;
}
