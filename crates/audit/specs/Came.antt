-- A name that is followed to the first link, as far as it was come.
use Rattle.std.specs.Prelude.{ℕ, Bool, List}
use Rattle.audit.specs.declared.lead.Phase.{Phase}

pub record Came : Type 0 where
  pub folders : List (List ℕ)
  pub next : List ℕ
  pub phase : Phase
  pub own : Bool
  pub last : Bool
