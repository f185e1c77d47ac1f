use Rattle.graph.proofs.Undoing.{AreForgottenTo}
use Rattle.graph.proofs.recorded.Recorded.forget.Given as goal

abbrev pub invariant-loop-loaded : goal.invariant-loop-loaded
invariant-loop-loaded l = AreForgottenTo l.edges l.loaded-index l.fn.self l.self
