-- Which dyndep files are loaded, and in which order, by numbers.
use Rattle.std.specs.Prelude.{◌≡◌, ℕ, ◌<◌, Bool, true, false, if◌then◌else◌, List, [], ◌∷◌, ◌++◌, length, Option, None, Some, is_some, MatchOption}
use Rattle.std.specs.List.{AllByRecursion}
use Rattle.model.specs.Graph.{has_number}
use Rattle.plan.specs.Flags.{has}
use Rattle.graph.specs.declared.graph.Graph.{Graph}
use Rattle.graph.specs.Links.{links_of}
use Rattle.graph.specs.Extended.{dyndep_at}
use Rattle.plan.specs.declared.step.Standing.{Standing}
use Rattle.plan.specs.Turns.{Turns}
use Rattle.plan.specs.Standing.{standing_at, is_outside}
use Rattle.plan.specs.Plan.{AreAllPooled}

-- the file that the edge names, where the edge stands in the cone
abbrev pub named_by : Graph → Standing → ℕ → Option ℕ
named_by graph standing e = if is_outside standing then None else dyndep_at graph e

-- an edge of the cone names the file, which is not loaded
pub record IsWanted (graph : Graph) (standings : List Standing) (file : ℕ) : Type 0 where
  pub edge : ℕ
  pub inside : is_outside (standing_at standings edge) ≡ false
  pub names : dyndep_at graph edge ≡ Some file

-- the edge is the first that names the file
pub record IsFirstToName (graph : Graph) (file edge : ℕ) : Type 0 where
  pub names : dyndep_at graph edge ≡ Some file
  pub first : (k : ℕ) → k < edge → dyndep_at graph k ≡ Some file → ⊥

-- a file that no edge makes goes before one that is made, else one that is named before (this project's own)
pub data LoadsBefore (graph : Graph) (file other : ℕ) : Type 0 where
  BySource : (d : ℕ) → (links_of graph).maker file ≡ None → (links_of graph).maker other ≡ Some d → LoadsBefore graph file other
  ByEdge : (d e : ℕ) → ((links_of graph).maker other ≡ None → (links_of graph).maker file ≡ None) → IsFirstToName graph file d → IsFirstToName graph other e → d < e → LoadsBefore graph file other

-- each file goes before those behind it
abbrev pub AreInOrder : Graph → List ℕ → Type 0
AreInOrder graph [] = Unit {0}
AreInOrder graph (file ∷ files) = ((other : ℕ) → has_number files other ≡ true → LoadsBefore graph file other) × AreInOrder graph files

-- just the files that edges of the cone name, in the order in which they are loaded
pub record AreLoads (graph : Graph) (standings : List Standing) (loads : List ℕ) : Type 0 where
  pub named : (file : ℕ) → has_number loads file ≡ true → IsWanted graph standings file
  pub all : (e file : ℕ) → is_outside (standing_at standings e) ≡ false → dyndep_at graph e ≡ Some file → has_number loads file ≡ true
  pub ordered : AreInOrder graph loads

-- So it is; and while files are left, so that the cone may grow, each edge is in its pool, in the cone or not.
pub record IsLoading (graph : Graph) (standings : List Standing) (turns : Turns) (loads : List ℕ) : Type 0 where
  pub loads_are : AreLoads graph standings loads
  pub all : 0 < length loads → AreAllPooled graph turns

-- no edge of the cone names a file
abbrev pub NoneIsWanted : Graph → List Standing → Type 0
NoneIsWanted graph standings = (file : ℕ) → IsWanted graph standings file → ⊥

-- the flags of just the files that edges of the cone name are set
pub record AreWanted (graph : Graph) (standings : List Standing) (flags : List Bool) : Type 0 where
  pub fits : length flags ≡ length graph.manifest.paths
  pub named : (file : ℕ) → has flags file ≡ true → IsWanted graph standings file
  pub all : (e file : ℕ) → is_outside (standing_at standings e) ≡ false → dyndep_at graph e ≡ Some file → has flags file ≡ true

-- the edge names the file, which is wanted, and is made or a source
pub record IsTaken (graph : Graph) (flags : List Bool) (made : Bool) (e file : ℕ) : Type 0 where
  pub names : dyndep_at graph e ≡ Some file
  pub wanted : has flags file ≡ true
  pub kind : is_some ((links_of graph).maker file) ≡ made

abbrev pub NoneIsTaken : Graph → List Bool → Bool → ℕ → Type 0
NoneIsTaken graph flags made e = (file : ℕ) → IsTaken graph flags made e file → ⊥

-- the file is named before the other
pub record IsNamedBefore (graph : Graph) (file other : ℕ) : Type 0 where
  pub edge : ℕ
  pub later : ℕ
  pub first : IsFirstToName graph file edge
  pub second : IsFirstToName graph other later
  pub before : edge < later

-- each file is named before those behind it
abbrev pub AreNamedInOrder : Graph → List ℕ → Type 0
AreNamedInOrder graph [] = Unit {0}
AreNamedInOrder graph (file ∷ files) = ((other : ℕ) → has_number files other ≡ true → IsNamedBefore graph file other) × AreNamedInOrder graph files

-- just the wanted files that are made, or that are sources, stand behind the others, in the order in which they are named
pub record HavePushed (graph : Graph) (made : Bool) (flags left : List Bool) (before after : List ℕ) : Type 0 where
  pub added : List ℕ
  pub splits : after ≡ before ++ added
  pub each : (file : ℕ) → has_number added file ≡ true → (has flags file ≡ true) × (is_some ((links_of graph).maker file) ≡ made)
  pub all : (e file : ℕ) → IsTaken graph flags made e file → has_number added file ≡ true
  pub ordered : AreNamedInOrder graph added
  pub others : (file : ℕ) → (is_some ((links_of graph).maker file) ≡ made → ⊥) → has left file ≡ has flags file

-- none of these paths is there
abbrev pub NoneIsThere : List Bool → List ℕ → Type 0
NoneIsThere there paths = AllByRecursion (λ p. has there p ≡ false) paths

-- the first of these paths that is there
pub record IsFirstThere (there : List Bool) (paths : List ℕ) (p : ℕ) : Type 0 where
  pub before : List ℕ
  pub after : List ℕ
  pub splits : paths ≡ before ++ p ∷ after
  pub earlier : NoneIsThere there before
  pub is : has there p ≡ true

-- the next of these paths to be loaded: the first that is there
abbrev pub IsNextLoad : List Bool → List ℕ → Option ℕ → Type 0
IsNextLoad there paths next = MatchOption next (NoneIsThere there paths) (IsFirstThere there paths)
