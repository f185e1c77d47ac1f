-- Which edges are above paths, by the lines of build files alone (this project's own; what real ninja's tools go through).
use Rattle.std.specs.Prelude.{◌≡◌, ◌⊎◌, ℕ, ◌<◌, ◌||◌, Bool, true, false, List, ◌++◌, ◌∷◌, ◌↔◌, IsSome, Some, filter, flat_map, get_or, length}
use Rattle.model.specs.Graph.{has_number}
use Rattle.graph.specs.Links.{Links, links_of}
use Rattle.graph.specs.declared.graph.Graph.{Graph}
use Rattle.graph.specs.Held.{StandOnce}

-- the edge makes one of the paths, or an input of an edge that is needed for them
pub data IsNeededFor (links : Links) (paths : List ℕ) : ℕ → Type 0 where
  Makes : (e p : ℕ) → has_number paths p ≡ true → links.maker p ≡ Some e → IsNeededFor links paths e
  Further : (e d p : ℕ) → IsNeededFor links paths d → has_number (links.inputs d) p ≡ true → links.maker p ≡ Some e → IsNeededFor links paths e

-- the edge makes an input of this one
abbrev pub MakesInputOf : Links → ℕ → ℕ → Type 0
MakesInputOf links m e = (p : ℕ) × (has_number (links.inputs e) p ≡ true) × (links.maker p ≡ Some m)

-- each of these edges stands behind those that make its inputs, unless such a one needs it itself
abbrev pub AreBehindMakers : Links → List ℕ → Type 0
AreBehindMakers links edges = (before after : List ℕ) (m e : ℕ) → edges ≡ before ++ e ∷ after → MakesInputOf links m e
    → (IsNeededFor links (links.inputs m) e → ⊥) → has_number before m ≡ true

-- the edges that are needed for the paths, each once, and behind those that make its inputs
pub record AreAbove (graph : Graph) (paths edges : List ℕ) : Type 0 where
  pub just : (e : ℕ) → has_number edges e ≡ true ↔ IsNeededFor (links_of graph) paths e
  pub once : StandOnce edges
  pub order : AreBehindMakers (links_of graph) edges

-- the output is one of the paths, or an input of an edge that is needed for them
abbrev pub IsNamedAbove : Graph → List ℕ → ℕ → Type 0
IsNamedAbove graph paths p = (has_number paths p ≡ true) ⊎ ((e : ℕ) × IsNeededFor (links_of graph) paths e × (has_number ((links_of graph).inputs e) p ≡ true))

-- the outputs that the paths are, or that edges above them name
abbrev pub AreNamedMade : Graph → List ℕ → List ℕ → Type 0
AreNamedMade graph paths outputs = (p : ℕ) → has_number outputs p ≡ true ↔ (IsNamedAbove graph paths p × IsSome ((links_of graph).maker p))

-- the marks are those of these paths and of the inputs of these edges
pub record AreNamedBy (graph : Graph) (paths edges : List ℕ) (marks : List Bool) : Type 0 where
  pub count : length marks ≡ length graph.manifest.paths
  pub marked : (p : ℕ) → p < length graph.manifest.paths → get_or marks p false ≡ (has_number paths p || has_number (flat_map (links_of graph).inputs edges) p)

-- these are marked, too
abbrev pub MarksAlso : (old new : List Bool) → List ℕ → Type 0
MarksAlso old new also = (p : ℕ) → p < length old → get_or new p false ≡ (get_or old p false || has_number also p)

-- the outputs of these edges that are marked
abbrev pub marked_outputs : Graph → List Bool → List ℕ → List ℕ
marked_outputs graph marks edges = flat_map (λ e. filter (λ p. get_or marks p false) ((links_of graph).outputs e)) edges
