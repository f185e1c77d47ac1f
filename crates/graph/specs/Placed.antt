-- Where edges stand in a cone, and what a load leaves of it.
use Rattle.std.specs.Prelude.{◌≡◌, ℕ, ◌<◌, true, List, length, Some}
use Rattle.model.specs.Graph.{has, has_number, Addition}
use Rattle.model.specs.Phases.{IsGrownBy}
use Rattle.paths.specs.Told.{text_at}
use Rattle.graph.specs.declared.cone.Cone.{Cone}
use Rattle.graph.specs.declared.graph.Graph.{Graph}
use Rattle.graph.specs.Alone.{HasGrownAlone}
use Rattle.graph.specs.Cone.{maker_at, mark_at, is_listed}
use Rattle.graph.specs.Linked.{IsConeOf}
use Rattle.graph.specs.Links.{links_of, needs_of, users_at}
use Rattle.graph.specs.Places.{place_in}
use Rattle.graph.specs.Told.{declared_by, recorded_by, AreSameInputs}

-- the edge is listed, and its place is in front of that of the other
pub record StandsBefore (cone : Cone) (d e : ℕ) : Type 0 where
  pub listed : is_listed (mark_at cone.marks.items d) ≡ true
  pub before : place_in cone.places.items d < place_in cone.places.items e

-- it is so of each of these that is listed
abbrev pub StandsBeforeAll : Cone → ℕ → List ℕ → Type 0
StandsBeforeAll cone e edges = (d : ℕ) → has_number edges d ≡ true → is_listed (mark_at cone.marks.items d) ≡ true → StandsBefore cone e d

-- what the edge needs is made in front of it
abbrev pub IsBehindMakers : Graph → Cone → ℕ → Type 0
IsBehindMakers graph cone e = (k d : ℕ) → k < length (needs_of graph e) → maker_at (links_of graph) e k ≡ Some d → StandsBefore cone d e

-- what it makes is needed behind it
abbrev pub IsBeforeUsers : Graph → Cone → ℕ → Type 0
IsBeforeUsers graph cone e = (p d : ℕ) → has_number ((links_of graph).outputs e) p ≡ true → has_number (users_at graph p) d ≡ true → is_listed (mark_at cone.marks.items d) ≡ true → StandsBefore cone e d

-- both
pub record IsInPlace (graph : Graph) (cone : Cone) (e : ℕ) : Type 0 where
  pub listed : is_listed (mark_at cone.marks.items e) ≡ true
  pub needs : IsBehindMakers graph cone e
  pub users : IsBeforeUsers graph cone e

-- so it is of each of these
abbrev pub AreInPlace : Graph → Cone → List ℕ → Type 0
AreInPlace graph cone edges = (e : ℕ) → has_number edges e ≡ true → IsInPlace graph cone e

-- the edges that name the file have what its statements say, nothing else changed, and recorded inputs that were in use are so still
pub record HasGrownTo (old new : Graph) (earlier later : ℕ → List (List ℕ)) (edges : List ℕ) (file : ℕ) : Type 0 where
  pub within : file < length old.manifest.paths
  pub additions : List Addition
  pub grown : IsGrownBy (text_at old.manifest.paths file) additions (declared_by old).edges (declared_by new).edges
  pub alone : HasGrownAlone edges file old new
  pub were : AreSameInputs earlier (recorded_by old)
  pub are : AreSameInputs later (recorded_by new)
  pub stay : (i : ℕ) (p : List ℕ) → has (earlier i) p ≡ true → has (later i) p ≡ true

-- a cone is that of the same targets still, where the edges that changed are in their places
abbrev pub ConesStay : Type 0
ConesStay =
    (old new : Graph) (earlier later : ℕ → List (List ℕ)) (edges : List ℕ) (file : ℕ) (targets : List (List ℕ)) (cone : Cone) → HasGrownTo old new earlier later edges file → AreInPlace new cone edges
    → IsConeOf (declared_by old).edges earlier targets cone.order.items cone.marks.items → IsConeOf (declared_by new).edges later targets cone.order.items cone.marks.items
