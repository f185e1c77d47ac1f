-- Parts of putting one record more to what is kept.
use Rattle.std.specs.Prelude.{◌≡◌, ◌<◌, ℕ, if◌then◌else◌, List, [], ◌∷◌, ◌++◌, Option, Some, None, length, slice_get}
use Rattle.model.specs.Graph.{has_number}
use Rattle.log_text.specs.Kept.{Table, joined}

-- at these places stands the value, and elsewhere what stood there
pub record IsFilled (old : List (Option ℕ)) (places : List ℕ) (value : Option ℕ) (new : List (Option ℕ)) : Type 0 where
  pub len : length new ≡ length old
  pub at : (n : ℕ) → n < length old → joined (slice_get new n) ≡ (if has_number places n then value else joined (slice_get old n))

-- the outputs are the old ones and more, and all else stands for the same
pub record IsGrown {T : Type 0} (old new : Table T) : Type 0 where
  pub more : List (List ℕ)
  pub outputs : new.outputs ≡ old.outputs ++ more

-- the number of what is told next
abbrev pub next_place : {T : Type 0} → Table T → Option T → Option ℕ
next_place table None = None
next_place table (Some told) = Some (length table.told)

abbrev pub told_also : {T : Type 0} → Table T → List ℕ → Option T → List (List ℕ × T)
told_also table numbers None = table.told
told_also table numbers (Some told) = table.told ++ (numbers, told) ∷ []

-- this was said of the outputs with these numbers
pub record IsSaid {T : Type 0} (old : Table T) (numbers : List ℕ) (said : Option T) (new : Table T) : Type 0 where
  pub outputs : new.outputs ≡ old.outputs
  pub in_force : IsFilled old.in_force numbers (next_place old said) new.in_force
  pub told : new.told ≡ told_also old numbers said
  pub records : new.records ≡ old.records
