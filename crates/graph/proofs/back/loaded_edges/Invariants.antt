use Rattle.std.proofs.Common.{◌≡◌, ◌++◌, drop}
use Rattle.graph.specs.Back.{loaded_all}
use Rattle.graph.proofs.back.loaded_edges.Given as goal

abbrev pub invariant-loop-choice : goal.invariant-loop-choice
invariant-loop-choice l = l.edges.items ++ loaded_all l.actions (drop l.choice-index l.chosen) ≡ loaded_all l.actions l.chosen
