-- What stands above the file that was read.
use Rattle.std.specs.Prelude.{◌≡◌, ◌≢◌, ◌<◌, ℕ, List, [], ◌∷◌, ◌++◌, All, filter, flat_map, length, Option, Some, None, MatchOption, slice_get, if◌then◌else◌, ◌==◌}
use Rattle.lexer.specs.Path.{IsCanonical}
use Rattle.paths.specs.Told.{IsUnnamed, text_at}
use Rattle.graph.specs.Links.{links_of}
use Rattle.graph.specs.declared.graph.Graph.{Graph}
use Rattle.tools.specs.declared.declared.Declared.{Declared}
use Rattle.tools.specs.Above.{AreAbove}
use Rattle.tools.specs.Files.{runs_generator}
use Rattle.ninja_asked.specs.declared.above.Above.{Above}

-- the path of the file of this name, where a line names it; the empty name is that of no file
abbrev pub IsFileOf : Declared → List ℕ → Option ℕ → Type 0
IsFileOf declared name file =
    MatchOption file ((path : List ℕ) → name ≢ [] → IsCanonical name path → IsUnnamed declared.graph.manifest path)
    (λ p. (path : List ℕ) × IsCanonical name path × (slice_get declared.graph.manifest.paths p ≡ Some path))

-- the edges that are above it
abbrev pub AreAboveFile : Graph → Option ℕ → List ℕ → Type 0
AreAboveFile graph None edges = edges ≡ []
AreAboveFile graph (Some p) edges = AreAbove graph (p ∷ []) edges

-- the first output of an edge with a command and without `generator`
abbrev pub first_of : List ℕ → List ℕ
first_of [] = []
first_of (output ∷ outputs) = output ∷ []

abbrev pub made_first : Declared → ℕ → List (List ℕ)
made_first declared e =
    if runs_generator declared e then [] else if (links_of declared.graph).phony e then [] else flat_map (λ p. text_at declared.graph.manifest.paths p ∷ []) (first_of ((links_of declared.graph).outputs e))

-- Of these edges those with `generator`, and of the others what is built first; nothing is, where there is no generator.
pub record IsOfEdges (declared : Declared) (file : Option ℕ) (edges : List ℕ) (above : Above) : Type 0 where
  pub file_is : above.file ≡ file
  pub generators : above.generators.items ≡ filter (runs_generator declared) edges
  pub first : above.first.items ≡ if length above.generators.items == 0 then [] else flat_map (made_first declared) edges

-- it is what the edges above the file give
pub record IsAllAbove (declared : Declared) (name : List ℕ) (above : Above) : Type 0 where
  pub edges : List ℕ
  pub file : IsFileOf declared name above.file
  pub are : AreAboveFile declared.graph above.file edges
  pub of : IsOfEdges declared above.file edges above

-- one edge more was looked at
pub record AddsEdge (declared : Declared) (edge : ℕ) (old new : Above) : Type 0 where
  pub file : new.file ≡ old.file
  pub generators : new.generators.items ≡ old.generators.items ++ filter (runs_generator declared) (edge ∷ [])
  pub first : new.first.items ≡ old.first.items ++ made_first declared edge

-- all of these were looked at, where there was nothing before
abbrev pub AddsEdges : Declared → List ℕ → Above → Above → Type 0
AddsEdges declared edges old new = old.generators.items ≡ [] → old.first.items ≡ [] → IsOfEdges declared old.file edges new

-- they are edges
abbrev pub AreEdges : Declared → List ℕ → Type 0
AreEdges declared edges = All (λ e. e < length declared.graph.manifest.lines) edges
