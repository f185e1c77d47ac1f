-- Whether one of the dyndep files that are to be loaded is there.
use Rattle.std.specs.Prelude.{◌≡◌, ℕ, ◌<◌, Bool, true, false, List, length}
use Rattle.model.specs.Graph.{has_number}
use Rattle.plan.specs.Flags.{has}

-- the flags of these numbers are set, so far as they are below the count
abbrev pub AreMarked : ℕ → List ℕ → List Bool → Type 0
AreMarked count numbers flags = (p : ℕ) → p < count → has_number numbers p ≡ true → has flags p ≡ true

-- none of these paths is there
abbrev pub AreAway : List Bool → List ℕ → Type 0
AreAway there paths = (p : ℕ) → has_number paths p ≡ true → has there p ≡ false

-- the files are marked, and where none may be there none is
pub record IsComing (loads : List ℕ) (there files : List Bool) (any : Bool) : Type 0 where
  pub marked : AreMarked (length there) loads files
  pub none : any ≡ false → AreAway there loads
