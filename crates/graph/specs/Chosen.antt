-- The edges that name a dyndep file, and the statements that are chosen for them.
use Rattle.std.specs.Prelude.{◌≡◌, ℕ, ◌<◌, ◌≤◌, ◌==◌, ◌||◌, Bool, true, false, if◌then◌else◌, List, [], ◌∷◌, map, length, get_or, Option, None, IfSome}
use Rattle.model.specs.Graph.{has_number}
use Rattle.graph.specs.declared.choice.Choice.{Choice}
use Rattle.graph.specs.declared.graph.Graph.{Graph}
use Rattle.graph.specs.Extended.{dyndep_at}
use Rattle.graph.specs.Statements.{is_place}

-- their edges
abbrev pub chosen_edges : List Choice → List ℕ
chosen_edges chosen = map (λ (c : Choice). c.edge) chosen

-- the statement that is chosen for the edge
abbrev pub choice_in : List Choice → ℕ → Option ℕ
choice_in [] e = None
choice_in (c ∷ cs) e = if c.edge == e then c.statement else choice_in cs e

-- each number is above the one before it
abbrev pub AreRising : List ℕ → Type 0
AreRising edges = (j k : ℕ) → j < k → k < length edges → get_or edges j 0 < get_or edges k 0

-- those in front of the place are below the number, and the others are not
pub record IsPlaceFor (edges : List ℕ) (edge place : ℕ) : Type 0 where
  pub within : place ≤ length edges
  pub below : (k : ℕ) → k < place → get_or edges k 0 < edge
  pub behind : (k : ℕ) → place ≤ k → k < length edges → edge ≤ get_or edges k 0

-- the number stands at the place
pub record StandsAt (edges : List ℕ) (edge place : ℕ) : Type 0 where
  pub within : place < length edges
  pub is : get_or edges place 0 ≡ edge

-- the edge stands among the others, once, and none has a statement that had none
pub record HasJoined (old : List Choice) (edge : ℕ) (new : List Choice) : Type 0 where
  pub rising : AreRising (chosen_edges new)
  pub edges : (e : ℕ) → has_number (chosen_edges new) e ≡ (has_number (chosen_edges old) e || (edge == e))
  pub none : (e : ℕ) → choice_in old e ≡ None → choice_in new e ≡ None

-- the edge stands among the others, if this says so; else nothing is changed
abbrev pub HasJoinedIf : Bool → List Choice → ℕ → List Choice → Type 0
HasJoinedIf true old edge new = HasJoined old edge new
HasJoinedIf false old edge new = new ≡ old

-- the edges that name the file, by number and each once
pub record AreNamers (graph : Graph) (file : ℕ) (edges : List ℕ) : Type 0 where
  pub rising : AreRising edges
  pub are : (e : ℕ) → has_number edges e ≡ is_place (dyndep_at graph e) file

-- the edge is one of so many, and its statement, where it has one
pub record IsWithin (edges statements : ℕ) (choice : Choice) : Type 0 where
  pub edge : choice.edge < edges
  pub statement : IfSome choice.statement (λ k. k < statements)
