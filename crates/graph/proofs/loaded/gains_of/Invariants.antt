use Rattle.std.proofs.Common.{map, take}
use Rattle.graph.specs.Extended.{addition_of}
use Rattle.graph.specs.Statements.{HasMore, AreGainsIn}
use Rattle.graph.proofs.loaded.gains_of.Given as goal

abbrev pub invariant-loop-addition : goal.invariant-loop-addition
invariant-loop-addition l = record {
  more : HasMore l.fn.paths l.paths;
  gains : AreGainsIn l.paths (map addition_of (take l.addition-index l.additions)) l.gains.items;
}
