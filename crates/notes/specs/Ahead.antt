-- What was reported to be read before the command that makes it had ended. The definitions are this project's own.
use Rattle.std.specs.Prelude.{◌≡◌, ℕ, ◌==◌, nat_lt, ◌&&◌, not, Bool, false, true, List, length, get_or, Option, Some, None, if◌then◌else◌}
use Rattle.std.specs.List.{position_or_len}
use Rattle.model.specs.declared.event.Event.{Event}
use Rattle.model.specs.declared.event.Event.TheVariants.{Start, Finish}
use Rattle.notes.specs.declared.ahead.Reported.{Reported}

-- the job is this one
abbrev pub is_job : ℕ → Option ℕ → Bool
is_job job None = false
is_job job (Some other) = other == job

-- the job whose command ended with the event
abbrev pub ended_by : Event → Option ℕ
ended_by (Start job act stamp) = None
ended_by (Finish job ok) = Some job

-- the job whose command was started with it
abbrev pub started_by : Event → Option ℕ
started_by (Start job act stamp) = Some job
started_by (Finish job ok) = None

-- the command of the job ended with the event, or was started with it
abbrev pub is_of : Bool → ℕ → Event → Bool
is_of ends job event = is_job job (if ends then ended_by event else started_by event)

-- how many events come before the first end of the job, or before its first start; all where there is none
abbrev pub before_first : Bool → ℕ → List Event → ℕ
before_first ends job events = position_or_len (is_of ends job) events

-- both commands were started, and when that of the reader was, the maker's had not ended: it ran, or was started later
abbrev pub is_made_later : List Event → Reported → Bool
is_made_later events report =
    nat_lt (before_first false report.reader events) (length events)
    && (nat_lt (before_first false report.maker events) (length events)
    && not (nat_lt (before_first true report.maker events) (before_first false report.reader events)))

-- for each job how many events come before its first end, or its first start
abbrev pub AreFirsts : Bool → List Event → List ℕ → Type 0
AreFirsts ends events places = (job : ℕ) → get_or places job (length events) ≡ before_first ends job events

-- the place of a job was put down, and no other
abbrev pub IsPut : Option ℕ → ℕ → ℕ → List ℕ → List ℕ → Type 0
IsPut found place none old new = (job : ℕ) → get_or new job none ≡ (if is_job job found then place else get_or old job none)

-- each job has the place that it had
abbrev pub HasSame : ℕ → List ℕ → List ℕ → Type 0
HasSame none old new = (job : ℕ) → get_or new job none ≡ get_or old job none
