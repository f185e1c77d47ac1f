-- What an edge reads, by numbers and in the words of the edges that the numbers stand for.
use Rattle.std.specs.Prelude.{◌≡◌, ◌<◌, ◌⊎◌, ◌↔◌, ℕ, suc, true, false, List, [], ◌∷◌, length, Some, IsSome}
use Rattle.model.specs.World.{View}
use Rattle.model.specs.Graph.{has_number}
use Rattle.model.specs.Reading.{IsRead}
use Rattle.paths.specs.Told.{text_at}
use Rattle.graph.specs.declared.graph.Graph.{Graph}
use Rattle.graph.specs.declared.reading.Reading.{Reading}
use Rattle.graph.specs.declared.reading.Reading.TheVariants.{Itself, Through}
use Rattle.graph.specs.Held.{StandOnce}
use Rattle.graph.specs.Links.{links_of}
use Rattle.graph.specs.Alias.{alias_at, counts_if_present}
use Rattle.graph.specs.Told.{declared_by}

-- the edges whose regular inputs are read
abbrev pub edges_in : Reading → List ℕ
edges_in (Itself e) = e ∷ []
edges_in (Through es) = es.items

-- in this view the path is a regular input of one of these edges, and counts
pub record IsCountedIn (graph : Graph) (edges : List ℕ) (view : View) (p : List ℕ) : Type 0 where
  pub edge : ℕ
  pub listed : has_number edges edge ≡ true
  pub path : ℕ
  pub input : has_number ((links_of graph).regular edge) path ≡ true
  pub text : text_at graph.manifest.paths path ≡ p
  pub counts : (counts_if_present (links_of graph) path ≡ false) ⊎ IsSome (view p)

-- just what the edge reads, in each view; each edge once
pub record IsReadingOf (graph : Graph) (e : ℕ) (edges : List ℕ) : Type 0 where
  pub within : (d : ℕ) → has_number edges d ≡ true → d < length graph.manifest.lines
  pub once : StandOnce edges
  pub read : (view : View) (p : List ℕ) → IsRead (declared_by graph).edges view (suc e) p ↔ IsCountedIn graph edges view p

-- what the edge reads is counted at it, or read by a phony edge that makes one of its regular inputs
abbrev pub IsReadNext : Graph → View → List ℕ → ℕ → Type 0
IsReadNext graph view p d =
    IsCountedIn graph (d ∷ []) view p
    ⊎ ((q : ℕ) × (j : ℕ) × (has_number ((links_of graph).regular d) q ≡ true) × (alias_at (links_of graph) q ≡ Some j) × IsRead (declared_by graph).edges view (suc j) p)

-- What is counted at an edge is read by it, and what is read by a phony edge that makes one of its regular inputs; and nothing else.
pub record ReadingStands (graph : Graph) : Type 0 where
  pub next : (view : View) (d : ℕ) (p : List ℕ) → IsRead (declared_by graph).edges view (suc d) p → IsReadNext graph view p d
  pub counted : (edges : List ℕ) (view : View) (p : List ℕ) (is : IsCountedIn graph edges view p) → IsRead (declared_by graph).edges view (suc is.edge) p
  pub through : (d p j : ℕ) → has_number ((links_of graph).regular d) p ≡ true → alias_at (links_of graph) p ≡ Some j
      → (view : View) (t : List ℕ) → IsRead (declared_by graph).edges view (suc j) t → IsRead (declared_by graph).edges view (suc d) t
