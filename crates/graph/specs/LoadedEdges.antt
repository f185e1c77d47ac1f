-- Edges whose dyndep file was loaded.
use Rattle.std.specs.Prelude.{◌≡◌, ℕ, List, map, slice_get, Some}
use Rattle.graph.specs.declared.back.LoadedEdge.{LoadedEdge}

-- their numbers
abbrev pub numbers_in : List LoadedEdge → List ℕ
numbers_in edges = map (λ (l : LoadedEdge). l.edge) edges

-- what is said of each of them
abbrev pub EachLoaded : List LoadedEdge → (ℕ → Type 0) → Type 0
EachLoaded edges P = (k : ℕ) (loaded : LoadedEdge) → slice_get edges k ≡ Some loaded → P loaded.edge
