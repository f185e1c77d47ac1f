use Rattle.std.proofs.Common.{◌≡◌, ◌<◌, ℕ, true, get_or}
use Rattle.std.specs.Option.{is_some}
use Rattle.graph.proofs.Chosen.{no_choice}
use Rattle.graph.proofs.graph.Graph.first_lacking.Given as goal

abbrev pub invariant-loop-choice : goal.invariant-loop-choice
invariant-loop-choice l = (j : ℕ) → j < l.choice-index → is_some (get_or l.chosen j no_choice).statement ≡ true
