-- What a graph becomes by recorded inputs.
use Rattle.std.specs.Prelude.{◌≡◌, ◌≢◌, ◌||◌, ℕ, List}
use Rattle.model.specs.Graph.{has_number}
use Rattle.paths.specs.Numbers.{IsAdded}
use Rattle.graph.specs.declared.graph.Graph.{Graph}
use Rattle.graph.specs.Held.{list_at, StandOnce}
use Rattle.graph.specs.Fronts.{FrontsStay}
use Rattle.graph.specs.Told.{declared_by}

-- the path has a number, and nothing else is changed: no build line names more than before
pub record HasNumbered (old new : Graph) (path : List ℕ) (number : ℕ) : Type 0 where
  pub added : IsAdded old.manifest.paths new.manifest.paths path number
  pub named : new.manifest.named ≡ old.manifest.named
  pub lines : new.manifest.lines ≡ old.manifest.lines
  pub actions : new.manifest.actions ≡ old.manifest.actions
  pub defaults : new.manifest.defaults ≡ old.manifest.defaults
  pub declared : declared_by new ≡ declared_by old
  pub makers : new.makers ≡ old.makers
  pub recorded : new.recorded ≡ old.recorded
  pub users : (p : ℕ) → list_at new.users p ≡ list_at old.users p

-- these inputs are recorded of the edge, each once, beside those that were before; of other edges nothing is changed
pub record HasGained (old new : Graph) (edge : ℕ) (inputs : List ℕ) : Type 0 where
  pub manifest : new.manifest ≡ old.manifest
  pub makers : new.makers ≡ old.makers
  pub gained : (p : ℕ) → has_number (list_at new.recorded edge) p ≡ (has_number (list_at old.recorded edge) p || has_number inputs p)
  pub once : StandOnce (list_at new.recorded edge)
  pub others : (e : ℕ) → e ≢ edge → list_at new.recorded e ≡ list_at old.recorded e
  pub users : FrontsStay old.users new.users
