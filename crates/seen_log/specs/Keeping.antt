-- What is kept of the log.
use Rattle.std.specs.Prelude.{◌≡◌, ℕ, ◌+◌, List, Option, None, Some, map, length, take, slice_get, bytes_eq}
use Rattle.std.specs.Borrow.{Bor}
use Rattle.indexmap.specs.IndexMap.{get_by}
use Rattle.seen_log.specs.declared.note.Last.{Last}
use Rattle.seen_log.specs.declared.note.Note.{Note}
use Rattle.seen_log.specs.declared.log.Log.{Log}
use Rattle.log_text.specs.Keeping.{KeepsAlso}
use Rattle.seen_log.specs.Record.{noting, IsLineFirst}
use Rattle.seen_log.specs.Log.{IsLog, compaction, greatest_of, noted_in_force, noteds}

-- what is kept for a path tells what is in force, and where that stands
abbrev pub IsLast : List Note → List ℕ → Option Last → Type 0
IsLast records path None = noted_in_force records path ≡ None
IsLast records path (Some last) = (noted_in_force records path ≡ Some last.noted) × (slice_get (noteds records) last.place ≡ Some last.noted)

-- what is kept for a path
abbrev pub last_of : Log → List ℕ → Option Last
last_of log path = get_by (λ k. bytes_eq path k.now) log.last

abbrev pub entry_note : Bor (List ℕ) × Last → Note
entry_note e = noting e.0.now e.1.noted

-- what is kept stands for these records
pub record Keeps (records : List Note) (log : Log) : Type 0 where
  pub last : (path : List ℕ) → IsLast records path (last_of log path)
  pub in_force : map entry_note log.last.entries ≡ compaction records
  pub count : log.records ≡ length records
  pub greatest : log.greatest ≡ greatest_of records

-- the text of what is kept for the first paths, up to this place, got the line of the next one
abbrev pub LogGrows : Log → (place : ℕ) → List ℕ → List ℕ → Type 0
LogGrows log place old new = IsLog old (map entry_note (take place log.last.entries)) → IsLog new (map entry_note (take (place + 1) log.last.entries))

-- the text is the whole log of some records, and what is kept stands for these
abbrev pub KeepsAll : List ℕ → Log → Type 0
KeepsAll text log = (records : List Note) × IsLog text records × Keeps records log

-- the text begins with the line of a record, which was put at the end, and this stands behind it
abbrev pub TakesLine : List ℕ → List ℕ → Log → Log → Type 0
TakesLine text rest old new = (r : Note) × IsLineFirst text r rest × KeepsAlso Keeps r old new
