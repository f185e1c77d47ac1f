-- Which path a word names.
use Rattle.std.specs.Prelude.{◌≡◌, ℕ, List, [], ◌++◌, ◌∷◌, Some, ◌⊎◌, slice_get}
use Rattle.std.specs.List.{AllZip}
use Rattle.lexer.specs.Path.{IsCanonical}
use Rattle.graph.specs.Links.{links_of, users_at}
use Rattle.graph.specs.declared.graph.Graph.{Graph}

-- the path is what the text names
abbrev pub HasText : Graph → List ℕ → ℕ → Type 0
HasText graph text p = slice_get graph.manifest.paths p ≡ Some text

-- the path is the first output of the first edge that names the other (manual: "Running ninja", `^`), or the one of this text
pub record IsFirstMade (graph : Graph) (q p : ℕ) : Type 0 where
  pub edge : ℕ
  pub reads : slice_get (users_at graph q) 0 ≡ Some edge
  pub makes : slice_get ((links_of graph).outputs edge) 0 ≡ Some p

pub record IsFirstMadeOf (graph : Graph) (text : List ℕ) (p : ℕ) : Type 0 where
  pub read : ℕ
  pub is : HasText graph text read
  pub first : IsFirstMade graph read p

-- `^` is 94, and stands behind this text
abbrev pub IsMarked : List ℕ → List ℕ → Type 0
IsMarked path front = path ≡ front ++ 94 ∷ []

abbrev pub IsUnmarked : List ℕ → Type 0
IsUnmarked path = (front : List ℕ) → IsMarked path front → ⊥

-- a canonical path names the other, with or without the mark
abbrev pub IsNamedBy : Graph → List ℕ → ℕ → Type 0
IsNamedBy graph path p = ((front : List ℕ) × IsMarked path front × IsFirstMadeOf graph front p) ⊎ (IsUnmarked path × HasText graph path p)

-- so a word names a path by its canonical form
abbrev pub IsNamed : Graph → List ℕ → ℕ → Type 0
IsNamed graph word p = (path : List ℕ) × IsCanonical word path × IsNamedBy graph path p

-- each path is what the word at its place names
abbrev pub AreAsked : Graph → List (List ℕ) → List ℕ → Type 0
AreAsked graph words paths = (words ≡ [] → ⊥) → AllZip (IsNamed graph) words paths
