-- Places and faults as the code keeps them.
use Rattle.std.specs.Prelude.{◌≡◌, ℕ, List}
use Rattle.manifest.specs.declared.fault.FaultKind.{FaultKind}
use Rattle.manifest.specs.declared.fault.ReadError.{ReadError}
use Rattle.manifest.specs.declared.fault.ReadError.TheVariants.{Memory, Site, Refused}
use Rattle.manifest.specs.declared.place.Place.{Place as KeptPlace}
use Rattle.manifest.specs.Readings.{Place, fault_at}

abbrev pub place_of : KeptPlace → Place
place_of place = record { file = place.file.now.value; line = place.line }

-- a file of which no line is meant
abbrev pub whole_file : List ℕ → Place
whole_file file = record { file = file; line = 0 }

-- the refusal for this, or want of memory
abbrev pub IsFaultAt : Place → FaultKind → ReadError → Type 0
IsFaultAt place kind Memory = Unit {0}
IsFaultAt place kind (Site fault) = ⊥
IsFaultAt place kind (Refused fault) = fault ≡ fault_at place kind
