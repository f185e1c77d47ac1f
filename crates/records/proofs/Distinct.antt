-- No output of an edge stands twice.
use Rattle.std.proofs.Common.{inr, ℕ, List}
use Rattle.model.specs.declared.graph.Edge.{Edge}
use Rattle.model.specs.Graph.{edge_at, outputs, IsMadeOnce}
use Rattle.log_text.specs.Kept.{AreDistinct}

pub distinct : (edges : List Edge) (i : ℕ) → IsMadeOnce edges → AreDistinct (outputs (edge_at edges i))
distinct edges i once p twice = once p (inr (i, twice))
