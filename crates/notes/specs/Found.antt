-- Which notes are found.
use Rattle.std.specs.Prelude.{◌≡◌, ℕ, ◌≤◌, List, ◌∷◌, ◌++◌, Option, Result, IfOk, IfSome}
use Rattle.manifest.specs.declared.fault.FileFault.{FileFault}
use Rattle.manifest.specs.declared.fault.FaultKind.TheVariants.{NotFound}
use Rattle.notes.specs.Nearest.{IsNear}
use Rattle.notes.specs.declared.note.Note.{Note}
use Rattle.notes.specs.declared.note.Note.TheVariants.{ClockWentBack, AnotherNinja, Recorded, NoBuildFile, Nearest}

-- where a note is found, it is such a one
abbrev pub FindsOnly : {F : Type 0} → (Note → Type 0) → Result (Option Note) F → Type 0
FindsOnly IsSuch result = IfOk result (λ found. IfSome found IsSuch)

-- the clock went back, by two seconds at least, as the tick in this folder tells
abbrev pub IsOfClock : List ℕ → Note → Type 0
IsOfClock folder note = (seconds : ℕ) × (2 ≤ seconds) × (note ≡ ClockWentBack (record { folder = folder; seconds = seconds }))

abbrev pub IsOfAnotherNinja : List ℕ → Note → Type 0
IsOfAnotherNinja folder note = note ≡ AnotherNinja (record { folder = folder })

-- the fault is that the main file is not there
abbrev pub IsAbsent : FileFault → List ℕ → Type 0
IsAbsent fault file = (fault.kind ≡ NotFound file) × (fault.line ≡ 0)

abbrev pub IsOfAbsent : FileFault → Note → Type 0
IsOfAbsent fault note = (file : List ℕ) × IsAbsent fault file × (note ≡ NoBuildFile file)

abbrev pub IsOfNearest : List ℕ → Note → Type 0
IsOfNearest target note = (path : List ℕ) × IsNear target path × (note ≡ Nearest path)

-- two of these paths, one right after the other, of which the second was recorded to be read where the first is made
abbrev pub IsOfRecorded : List ℕ → List (List ℕ) → Note → Type 0
IsOfRecorded folder round note =
    (output input : List ℕ) × (before after : List (List ℕ)) × (round ≡ before ++ output ∷ input ∷ after)
    × (note ≡ Recorded (record { output = output; input = input; folder = folder }))
