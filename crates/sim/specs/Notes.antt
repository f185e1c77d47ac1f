-- What is kept of a history: what the paths hold now, and for each write what its path held before.
use Rattle.std.specs.Prelude.{◌≡◌, ℕ, if◌then◌else◌, List, [], ◌∷◌, ◌++◌, take, Option, Some, None, option_map, bytes_eq}
use Rattle.model.specs.declared.event.Moment.{Moment}
use Rattle.model.specs.declared.event.Moment.TheVariants.{Wrote, Happened}
use Rattle.model.specs.World.{File, written}
use Rattle.model.specs.Calls.{content_or_empty}
use Rattle.sim.specs.declared.notes.Before.{Before}
use Rattle.sim.specs.declared.notes.Before.TheVariants.{Held, Beginning}
use Rattle.sim.specs.declared.notes.Last.{Last}
use Rattle.sim.specs.declared.notes.Note.{Note}
use Rattle.sim.specs.declared.notes.Note.TheVariants.{Change, Came}

-- what the last write at each path left; None where it was not written
abbrev pub Lasts : Type 0
Lasts = List ℕ → Option Last

abbrev pub content_in : Option Last → Option (List ℕ)
content_in None = None
content_in (Some last) = last.content

abbrev pub stamp_in : Option Last → ℕ
stamp_in None = 0
stamp_in (Some last) = last.stamp

-- the file that it left
abbrev pub file_in : Option Last → Option File
file_in last = written (content_in last) (stamp_in last)

-- ---- what was before

-- what a path held before a write that left this
abbrev pub held_before : Before → Last → Option Last
held_before (Held before) last = before
held_before (Beginning length stamp) last = Some (record { content = option_map (take length) last.content; stamp = stamp })

abbrev pub reverted : Before → Option Last → Option Last
reverted before None = None
reverted before (Some last) = held_before before last

-- what the paths held before a note
abbrev pub undone : Note → Lasts → Lasts
undone (Change by path before) lasts = λ p. if bytes_eq path p then reverted before (lasts p) else lasts p
undone (Came event) lasts = lasts

-- what they held before all of these
abbrev pub all_undone : List Note → Lasts → Lasts
all_undone [] lasts = lasts
all_undone (note ∷ notes) lasts = undone note (all_undone notes lasts)

-- the path holds again what it held before this, and each other path what it held
abbrev pub IsTakenBack : Before → List ℕ → Lasts → Lasts → Type 0
IsTakenBack before path old new = (p : List ℕ) → new p ≡ (if bytes_eq path p then reverted before (old p) else old p)

-- ---- what is told

-- what a note tells, by what the paths held after it
abbrev pub moment_of : Note → Lasts → Moment
moment_of (Change by path before) lasts = Wrote by path (content_in (lasts path)) (stamp_in (lasts path))
moment_of (Came event) lasts = Happened event

-- what the notes tell, by what the paths hold after the last one
abbrev pub told : List Note → Lasts → List Moment
told [] lasts = []
told (note ∷ notes) lasts = moment_of note (all_undone notes lasts) ∷ told notes lasts

-- ---- what a write does

-- a write has left this, and what stood there before is known
pub record IsWritten (before : Before) (path : List ℕ) (last : Last) (old new : Lasts) : Type 0 where
  pub leaves : (p : List ℕ) → new p ≡ (if bytes_eq path p then Some last else old p)
  pub held : held_before before last ≡ old path

-- what bytes behind the file leave
abbrev pub grown : List ℕ → ℕ → Option Last → Last
grown bytes stamp last = record { content = Some (content_or_empty (file_in last) ++ bytes); stamp = stamp }

-- a write has left what the file at the path held, which may be absent, and these bytes behind it
abbrev pub IsAppended : Before → List ℕ → List ℕ → ℕ → Lasts → Lasts → Type 0
IsAppended before path bytes stamp old new = IsWritten before path (grown bytes stamp (old path)) old new

-- bytes were put behind the file, or there was none and nothing changed
abbrev pub IsGrown : Option Before → List ℕ → ℕ → Last → Last → Type 0
IsGrown None bytes stamp old new = (old.content ≡ None) × (new ≡ old)
IsGrown (Some before) bytes stamp old new = (new ≡ grown bytes stamp (Some old)) × (held_before before new ≡ Some old)

-- the same at a path
abbrev pub IsExtended : Option Before → List ℕ → List ℕ → ℕ → Lasts → Lasts → Type 0
IsExtended None path bytes stamp old new = (content_in (old path) ≡ None) × ((p : List ℕ) → new p ≡ old p)
IsExtended (Some before) path bytes stamp old new = IsAppended before path bytes stamp old new
