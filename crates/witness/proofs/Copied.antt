-- What the command that copies gives, by what `a` holds.
use Rattle.std.proofs.Common.{◌≡◌, ℕ, Bool, false, List, Option, Some, None}
use Rattle.std.specs.Prelude.{codes, bytes_eq}
use Rattle.model.specs.World.{File}
use Rattle.model.specs.Outcome.{given, ends_well}
use Rattle.model.specs.Records.{Told}
use Rattle.witness.specs.Small.{copy, copies}

abbrev pub gives : Option (List ℕ) → Option (List ℕ)
gives held = given copies copy (λ p. held) (codes "b")

abbrev pub ends : Option (List ℕ) → Bool
ends held = ends_well copies copy (λ p. held)

-- whether a file holds this
abbrev pub is_held : List ℕ → Option (List ℕ) → Bool
is_held text held = elim held [ None ↦ false | Some q ↦ bytes_eq q text ]

abbrev pub is_x : Option (List ℕ) → Bool
is_x held = is_held (codes "x") held

abbrev pub stamp_in : Option File → ℕ
stamp_in None = 0
stamp_in (Some file) = file.stamp

pub no_told : (deps : Told) → None ≡ Some deps → ⊥
no_told deps is = cc
