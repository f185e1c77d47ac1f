-- What the load of a dyndep file changes of the numbers of a graph.
use Rattle.std.specs.Prelude.{◌≡◌, ◌⊎◌, ℕ, true, false, List, None, Some}
use Rattle.model.specs.Graph.{has_number}
use Rattle.graph.specs.declared.back.Before.{Before}
use Rattle.graph.specs.declared.graph.Graph.{Graph}
use Rattle.graph.specs.Extended.{dyndep_at}
use Rattle.graph.specs.LoadedEdges.{numbers_in}
use Rattle.graph.specs.Links.{links_of, needs_of, NeedsArePaths}
use Rattle.graph.specs.Statements.{is_place}

-- Only these edges, which are just those that named the file, may need more and make more, and they name no file any more; what was
-- needed are paths.
pub record HasGrownAlone (edges : List ℕ) (file : ℕ) (old new : Graph) : Type 0 where
  pub were : (e : ℕ) → has_number edges e ≡ is_place (dyndep_at old e) file
  pub below : NeedsArePaths old
  pub needs : (e : ℕ) → has_number edges e ≡ false → needs_of new e ≡ needs_of old e
  pub files : (e : ℕ) → has_number edges e ≡ false → dyndep_at new e ≡ dyndep_at old e
  pub loaded : (e : ℕ) → has_number edges e ≡ true → dyndep_at new e ≡ None
  pub made : (p e : ℕ) → (links_of old).maker p ≡ Some e → (links_of new).maker p ≡ Some e
  pub makers : (p e : ℕ) → (links_of new).maker p ≡ Some e → ((links_of old).maker p ≡ Some e) ⊎ (has_number edges e ≡ true)

-- so it is of the edges and the file of the load that this undoes
abbrev pub HasChangedBy : Before → Graph → Graph → Type 0
HasChangedBy load old new = HasGrownAlone (numbers_in load.edges.items) load.file old new
