-- Which sums stay right while commands end: those of what no command makes.
use Rattle.std.specs.Prelude.{◌≡◌, not, ℕ, Bool, true, false, ◌||◌, if◌then◌else◌, List, [], ◌∷◌, ◌++◌, Option, Some, None, nat_eq}
use Rattle.indexmap.specs.IndexMap.{get}
use Rattle.model.specs.Graph.{has_number}
use Rattle.graph.specs.declared.graph.Graph.{Graph}
use Rattle.graph.specs.Links.{Links, links_of}
use Rattle.judge.specs.declared.looks.Look.{Look}
use Rattle.judge.specs.declared.looks.Looks.{Looks}
use Rattle.judge.specs.Seen.{look_at, is_asked, StaysKnown}
use Rattle.judge.specs.declared.input_facts.Inputs.{Inputs}
use Rattle.judge.specs.declared.sums.Sums.{Sums}
use Rattle.judge.specs.Facts.{flag_at}
use Rattle.judge.specs.Summed.{IsSum, AreSums}

-- such an edge has a command
abbrev pub has_command : Links → Option ℕ → Bool
has_command links None = false
has_command links (Some e) = not (links.phony e)

-- a command makes the path: no source, and no output of a phony edge
abbrev pub is_made : Links → ℕ → Bool
is_made links p = has_command links (links.maker p)

-- a command makes one of these paths
abbrev pub any_made : Links → List ℕ → Bool
any_made links [] = false
any_made links (p ∷ ps) = is_made links p || any_made links ps

-- a command makes a regular input of one of these edges
abbrev pub read_made : Links → List ℕ → Bool
read_made links [] = false
read_made links (e ∷ es) = any_made links (links.regular e) || read_made links es

-- the sum is right, and no command makes any of the paths that it was made of
pub record IsLasting (graph : Graph) (flags : List Bool) (seen : List Look) (e : ℕ) (inputs : Inputs) : Type 0 where
  pub sum : IsSum graph flags seen e inputs
  pub unmade : read_made (links_of graph) sum.edges ≡ false

-- each sum that is kept is such a one
abbrev pub AreLasting : Graph → List Bool → List Look → Sums → Type 0
AreLasting graph flags seen sums = (e : ℕ) (inputs : Inputs) → get nat_eq sums.by_edge e ≡ Some inputs → IsLasting graph flags seen e inputs

-- each sum that is kept is such a one, but for those that are marked as passing
abbrev pub AreMarked : Graph → List Bool → List Look → Sums → Type 0
AreMarked graph flags seen sums =
    (e : ℕ) (inputs : Inputs) → get nat_eq sums.by_edge e ≡ Some inputs → has_number sums.passing.items e ≡ false → IsLasting graph flags seen e inputs

-- the marks are right by what was seen since, where they were before
abbrev pub StayMarked : Graph → List Bool → List Look → List Look → Sums → Sums → Type 0
StayMarked graph flags seen later old new = AreMarked graph flags seen old → AreMarked graph flags later new

-- so it is, by what was seen before and behind a call
abbrev pub MarksStay : Graph → List Bool → Looks → Looks → Type 0
MarksStay graph flags before after = StayMarked graph flags before.seen.items after.seen.items before.sums after.sums

-- they are right, whatever graph, flags and looks they are right by
abbrev pub AreAnyMarked : Sums → Type 0
AreAnyMarked sums = (graph : Graph) (flags : List Bool) (seen : List Look) → AreMarked graph flags seen sums

-- so they are with one more sum, where that lasts if it is said to
abbrev pub StayMarkedWith : Bool → ℕ → Inputs → Sums → Sums → Type 0
StayMarkedWith lasts e inputs old new =
    (graph : Graph) (flags : List Bool) (seen : List Look) → AreMarked graph flags seen old → (lasts ≡ true → IsLasting graph flags seen e inputs) → AreMarked graph flags seen new

-- the edge was marked, where that is so
abbrev pub MarksIf : Bool → ℕ → Sums → Sums → Type 0
MarksIf so e old new = new.passing.items ≡ old.passing.items ++ (if so then e ∷ [] else [])

-- what is marked stays marked
abbrev pub KeepsMarks : Sums → Sums → Type 0
KeepsMarks old new = (e : ℕ) → has_number new.passing.items e ≡ false → has_number old.passing.items e ≡ false

-- the marked ones are not kept
abbrev pub LeavesLasting : Sums → Sums → Type 0
LeavesLasting old new = (graph : Graph) (flags : List Bool) (seen : List Look) → AreMarked graph flags seen old → AreLasting graph flags seen new

-- of each path that no command makes it is still known what was seen, and whether it was made anew
pub record KeepsUnmade (graph : Graph) (old_flags : List Bool) (old_seen : List Look) (new_flags : List Bool) (new_seen : List Look) : Type 0 where
  pub looks : (p : ℕ) → is_made (links_of graph) p ≡ false → is_asked (look_at old_seen p) ≡ true → look_at new_seen p ≡ look_at old_seen p
  pub flags : (p : ℕ) → is_made (links_of graph) p ≡ false → flag_at new_flags p ≡ flag_at old_flags p

-- ---- a law

-- Where what was asked for is known still, sums and marks are right still; behind the end of a command what lasts is right, and lasts.
pub record SumsFollow : Type 0 where
  pub sums : (graph : Graph) (flags : List Bool) (seen new : List Look) → StaysKnown seen new → (sums : Sums) → AreSums graph flags seen sums → AreSums graph flags new sums
  pub marks : (graph : Graph) (flags : List Bool) (seen new : List Look) → StaysKnown seen new → (sums : Sums) → AreMarked graph flags seen sums → AreMarked graph flags new sums
  pub last_sums : (graph : Graph) (f g : List Bool) (seen new : List Look) → KeepsUnmade graph f seen g new → (sums : Sums) → AreLasting graph f seen sums → AreSums graph g new sums
  pub last_marks : (graph : Graph) (f g : List Bool) (seen new : List Look) → KeepsUnmade graph f seen g new → (sums : Sums) → AreLasting graph f seen sums → AreMarked graph g new sums
