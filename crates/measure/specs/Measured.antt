-- What stands at a path, as a site measures it that tells its files.
use Rattle.std.specs.Prelude.{ℕ, List, Option, Some, None, length}
use Rattle.model.specs.World.{World, File, file_at}
use Rattle.model.specs.Calls.{Sees}
use Rattle.measure.specs.declared.measure.Measure.{Measure}

-- it was put there when it was written
abbrev pub measure_of : File → Measure
measure_of file = record { stamp = file.stamp; size = Some (length file.content); placed = file.stamp }

abbrev pub measured_at : Option File → Option Measure
measured_at None = None
measured_at (Some file) = Some (measure_of file)

-- what it holds, and that
abbrev pub read_at : Option File → Option (List ℕ × Measure)
read_at None = None
read_at (Some file) = Some (file.content, measure_of file)

-- in a call between these worlds this was found of the file at the path
abbrev pub SeesMeasure : List ℕ → World → World → Option Measure → Type 0
SeesMeasure path old new found = Sees (λ history. measured_at (file_at history path)) found old.history new.history

-- and so was what it holds, with that
abbrev pub SeesRead : List ℕ → World → World → Option (List ℕ × Measure) → Type 0
SeesRead path old new found = Sees (λ history. read_at (file_at history path)) found old.history new.history
