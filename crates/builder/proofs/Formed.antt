-- What the edges of build files have.
use Rattle.std.proofs.Common.{◌≡◌, ◌≢◌, ℕ, false, [], sym}
use Rattle.std.proofs.lemmas.Bool.{false≢true}
use Rattle.model.specs.declared.graph.Edge.{Edge}
use Rattle.model.specs.declared.graph.BuildGraph.{BuildGraph}
use Rattle.model.specs.Graph.{edge_at, no_edge, outputs, IsCommand}
use Rattle.theory.proofs.Lists.{all_weaker}
use Rattle.theory.proofs.Makers.{each_edge}
use Rattle.manifest.specs.Answer.{IsWellFormed, IsGraph}

module _ (graph : BuildGraph) (formed : IsGraph graph) where
  of_each : (P : Edge → Type 0) → P no_edge → ((e : Edge) → IsWellFormed e → P e) → (i : ℕ) → P (edge_at graph.edges i)
  of_each P none each = each_edge P graph.edges none (all_weaker IsWellFormed P each graph.edges formed)

  pub have_outputs : (i : ℕ) → IsCommand graph.edges i → outputs (edge_at graph.edges i) ≢ []
  have_outputs = of_each (λ e. e.phony ≡ false → outputs e ≢ []) (λ h. absurd (false≢true (sym h))) (λ e well command. well.made)
