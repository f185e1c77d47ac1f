use Rattle.std.proofs.Common.{take}
use Rattle.graph.specs.Gains.{gained_outputs, AreFreed}
use Rattle.graph.proofs.loaded.free_gains.Given as goal

abbrev pub invariant-loop-choice : goal.invariant-loop-choice
invariant-loop-choice l = AreFreed (gained_outputs l.gains (take l.choice-index l.chosen)) l.fn.makers l.makers
