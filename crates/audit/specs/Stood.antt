-- What is known to stand at paths, as a table: the paths, and at the same place of the other list what stands there.
use Rattle.std.specs.Prelude.{ℕ, List}
use Rattle.audit.specs.declared.standing.Stands.{Stands}

pub record Stood : Type 0 where
  pub paths : List (List ℕ)
  pub stands : List Stands
