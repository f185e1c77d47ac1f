-- What counts when a build begins, by what is known then.
use Rattle.std.specs.Prelude.{ℕ, if◌then◌else◌, is_some, List, Option, Some, None, bytes_eq, slice_get}
use Rattle.std.specs.Option.{option_map}
use Rattle.model.specs.World.{File}
use Rattle.seen_law.specs.Retold.{Telling}
use Rattle.seen_log.specs.declared.log.Log.{Log}
use Rattle.seen_log.specs.declared.note.Noted.{Noted}
use Rattle.seen_log.specs.Keeping.{last_of}
use Rattle.seen.specs.declared.judging.Past.{Past}
use Rattle.seen.specs.declared.makers.Makers.{Makers}
use Rattle.seen.specs.declared.own.Own.{Own}
use Rattle.seen.specs.Judged.{judged}
use Rattle.seen.specs.Makers.{made_in, maker_of}
use Rattle.measure.specs.Measured.{measure_of}
use Rattle.seen.specs.Own.{is_own}

-- ---- by what is known when a build begins

-- what is noted of the path
abbrev pub noted_of : Log → List ℕ → Option Noted
noted_of notes p = option_map (λ last. last.noted) (last_of notes p)

-- what is known of it, in a build whose first start was this
abbrev pub past_of : Log → Makers → (since : Option ℕ) → List ℕ → Past
past_of notes makers since p = record { noted = noted_of notes p; is_output = is_some (maker_of makers p); since = since }

-- the stamp that counts for a file there, or none
abbrev pub counts_at : Log → Makers → Own → (number : ℕ) → List ℕ → File → Option ℕ
counts_at notes makers own number p file =
    if is_own own p then Some file.stamp else (judged (past_of notes makers None p) number (Some (measure_of file))).counts

-- how files are told
abbrev pub telling_of : Log → Makers → Own → (number : ℕ) → Telling
telling_of notes makers own number = record {
  counts = counts_at notes makers own number;
  makes = made_in makers.listed.items makers.listed.items;
  hidden = λ p. bytes_eq own.seen p;
}

-- ---- since then

-- under which stamp the command of this edge was started
abbrev pub joined : Option (Option ℕ) → Option ℕ
joined None = None
joined (Some start) = start

abbrev pub started_by : List (Option ℕ) → Option ℕ → Option ℕ
started_by starts None = None
started_by starts (Some job) = joined (slice_get starts job)
