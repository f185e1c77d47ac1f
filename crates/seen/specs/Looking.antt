-- What is seen of a path in a build.
use Rattle.std.specs.Prelude.{◌≡◌, ◌⊎◌, ℕ, Bool, true, false, if◌then◌else◌, List, Option, Some, None, bytes_eq}
use Rattle.model.specs.Graph.{has}
use Rattle.seen_log.specs.Keeping.{last_of}
use Rattle.seen.specs.declared.answer.Looked.{Looked}
use Rattle.seen.specs.declared.counts.Counts.{Counts}
use Rattle.seen.specs.declared.judging.Judged.{Judged}
use Rattle.measure.specs.declared.measure.Measure.{Measure}
use Rattle.seen.specs.Answered.{counted_by, own_stamp, placed_by}
use Rattle.seen.specs.Beginning.{past_of, started_by}
use Rattle.seen.specs.Judged.{judged, plainly}
use Rattle.seen.specs.Makers.{MakesSame, maker_of}
use Rattle.seen.specs.Own.{is_own}
use Rattle.seen.specs.Starts.{noted_start}

-- how what is found at a path is judged that is none of the program's own
abbrev pub judged_there : Counts → List ℕ → Option Measure → Judged
judged_there k p found = judged (past_of k.notes k.makers k.first_start p) k.number (placed_by (has k.made p) found)

-- what is seen of it
abbrev pub looked_there : Counts → List ℕ → Option Measure → Looked
looked_there k p found = record {
  counts = counted_by (judged_there k p found) (started_by k.starts.items (maker_of k.makers p)) found;
  found = found;
  last = last_of k.notes p;
  how = judged_there k p found;
}

abbrev pub looked_own : Option Measure → Looked
looked_own found = record { counts = own_stamp found; found = found; last = None; how = plainly (own_stamp found) }

-- what is seen of a path where this was found
abbrev pub looked_at : Counts → List ℕ → Option Measure → Looked
looked_at k p found = if is_own k.own p then looked_own found else looked_there k p found

-- before a build has begun, files are as they are there
abbrev pub looked_by : Bool → Counts → List ℕ → Option Measure → Looked
looked_by false k p found = looked_own found
looked_by true k p found = looked_at k p found

-- which edge makes a path may be found in another place, and nothing else is new
pub record KnowsSame (old new : Counts) : Type 0 where
  pub notes : new.notes ≡ old.notes
  pub makers : MakesSame old.makers new.makers
  pub own : new.own ≡ old.own
  pub number : new.number ≡ old.number
  pub made : new.made ≡ old.made
  pub starts : new.starts ≡ old.starts
  pub first_start : new.first_start ≡ old.first_start

-- the path is not that of the notes, and it is one of the program's own or made by no command
abbrev pub MayWrite : Counts → List ℕ → Type 0
MayWrite k p = (bytes_eq k.own.seen p ≡ false) × ((is_own k.own p ≡ true) ⊎ (maker_of k.makers p ≡ None))

-- this start of the edge is noted, and nothing else is new
pub record NotesStart (job : ℕ) (start : Option ℕ) (old new : Counts) : Type 0 where
  pub starts : new.starts.items ≡ noted_start old.starts.items job start
  pub notes : new.notes ≡ old.notes
  pub makers : new.makers ≡ old.makers
  pub own : new.own ≡ old.own
  pub number : new.number ≡ old.number
