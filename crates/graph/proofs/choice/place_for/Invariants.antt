use Rattle.std.proofs.Common.{◌-◌, length}
use Rattle.graph.specs.Chosen.{chosen_edges}
use Rattle.graph.proofs.Chosen.{IsHalved}
use Rattle.graph.proofs.choice.place_for.Given as goal

abbrev pub invariant-loop-low : goal.invariant-loop-low
invariant-loop-low l = IsHalved (chosen_edges l.chosen) (length l.chosen) l.edge l.low l.high

abbrev pub decreases-loop-low : goal.decreases-loop-low
decreases-loop-low l = l.high - l.low
