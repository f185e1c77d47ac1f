use Rattle.std.proofs.Common.{take}
use Rattle.graph.specs.Fronts.{AreCut}
use Rattle.graph.specs.Gains.{gained_times}
use Rattle.graph.proofs.loaded.unuse_gains.Given as goal

abbrev pub invariant-loop-choice : goal.invariant-loop-choice
invariant-loop-choice l = AreCut (gained_times l.gains (take l.choice-index l.chosen)) l.fn.users l.users
