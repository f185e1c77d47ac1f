-- What stays where a graph gets numbers for more paths.
use Rattle.std.specs.Prelude.{◌≡◌, ◌++◌, ℕ, List, []}
use Rattle.graph.specs.Told.{declared_by, recorded_by}
use Rattle.graph.specs.declared.graph.Graph.{Graph}

-- more paths have a number, and the edges are the same; nothing is recorded of them where nothing was
pub record KeepsEdges (old new : Graph) : Type 0 where
  pub more : List (List ℕ)
  pub paths : new.manifest.paths ≡ old.manifest.paths ++ more
  pub lines : new.manifest.lines ≡ old.manifest.lines
  pub declared : declared_by new ≡ declared_by old
  pub recorded : ((e : ℕ) → recorded_by old e ≡ []) → (e : ℕ) → recorded_by new e ≡ []
