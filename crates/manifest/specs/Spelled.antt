-- The paths of build lines, as texts.
use Rattle.std.specs.Prelude.{ℕ, List}

-- the paths of a build line, canonical
pub record EdgePaths : Type 0 where
  pub explicit_outputs : List (List ℕ)
  pub implicit_outputs : List (List ℕ)
  pub explicit_inputs : List (List ℕ)
  pub implicit_inputs : List (List ℕ)
  pub order_only_inputs : List (List ℕ)
  pub validations : List (List ℕ)
