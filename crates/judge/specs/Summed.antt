-- What the inputs of phony edges come to.
use Rattle.std.specs.Prelude.{◌≡◌, ◌↔◌, ℕ, suc, Bool, true, false, IfSome, List, Option, Some, nat_eq}
use Rattle.std.specs.List.{flat_map}
use Rattle.indexmap.specs.IndexMap.{get}
use Rattle.model.specs.World.{View}
use Rattle.model.specs.Graph.{has_number}
use Rattle.model.specs.Reading.{IsRead}
use Rattle.graph.specs.declared.graph.Graph.{Graph}
use Rattle.graph.specs.Links.{links_of}
use Rattle.graph.specs.Alias.{alias_at}
use Rattle.graph.specs.ReadingOf.{IsCountedIn}
use Rattle.graph.specs.Told.{declared_by}
use Rattle.judge.specs.declared.looks.Look.{Look}
use Rattle.judge.specs.declared.looks.Looks.{Looks}
use Rattle.judge.specs.declared.input_facts.Inputs.{Inputs}
use Rattle.judge.specs.Summaries.{AreInputs}
use Rattle.judge.specs.declared.sums.Sums.{Sums}
use Rattle.judge.specs.Facts.{IsReadBy, AreAsked, seen_inputs, HasTaken}

-- all that the edge reads was asked for, and comes to this
pub record IsSum (graph : Graph) (flags : List Bool) (seen : List Look) (e : ℕ) (inputs : Inputs) : Type 0 where
  pub edges : List ℕ
  pub read : IsReadBy graph e edges
  pub asked : AreAsked seen (flat_map (links_of graph).regular edges)
  pub are : AreInputs (seen_inputs graph flags false seen (flat_map (links_of graph).regular edges)) inputs

-- each sum that is kept is right by what was seen and by what was made anew
abbrev pub AreSums : Graph → List Bool → List Look → Sums → Type 0
AreSums graph flags seen sums = (e : ℕ) (inputs : Inputs) → get nat_eq sums.by_edge e ≡ Some inputs → IsSum graph flags seen e inputs

-- the path is read by a phony edge that makes one of these
pub record IsReadThrough (graph : Graph) (numbers : List ℕ) (view : View) (p : List ℕ) : Type 0 where
  pub path : ℕ
  pub listed : has_number numbers path ≡ true
  pub alias : ℕ
  pub made : alias_at (links_of graph) path ≡ Some alias
  pub read : IsRead (declared_by graph).edges view (suc alias) p

-- what phony edges read that make these paths was taken in, after others
pub record HasJoined (graph : Graph) (flags : List Bool) (seen : List Look) (numbers : List ℕ) (old new : Inputs) : Type 0 where
  pub edges : List ℕ
  pub read : (view : View) (p : List ℕ) → IsReadThrough graph numbers view p ↔ IsCountedIn graph edges view p
  pub taken : HasTaken graph flags false seen (flat_map (links_of graph).regular edges) old new

-- so it is, by what was seen
abbrev pub JoinsSeen : Graph → List Bool → Looks → List ℕ → Inputs → Inputs → Type 0
JoinsSeen graph flags looks numbers old new = HasJoined graph flags looks.seen.items numbers old new

-- ---- what calls say of sums, whatever graph, flags and looks they are right by

abbrev pub AreAnySums : Sums → Type 0
AreAnySums sums = (graph : Graph) (flags : List Bool) (seen : List Look) → AreSums graph flags seen sums

-- what is answered is the sum of the edge
abbrev pub GivesSum : ℕ → Sums → Option Inputs → Type 0
GivesSum e sums found = (graph : Graph) (flags : List Bool) (seen : List Look) → AreSums graph flags seen sums → IfSome found (IsSum graph flags seen e)

-- sums are right with one more, where that is right
abbrev pub StaySummedWith : ℕ → Inputs → Sums → Sums → Type 0
StaySummedWith e inputs old new =
    (graph : Graph) (flags : List Bool) (seen : List Look) → AreSums graph flags seen old → IsSum graph flags seen e inputs → AreSums graph flags seen new
