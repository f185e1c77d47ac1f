-- A build that is killed behind a write of a command, before anything is noted of that; then somebody puts two sources there under an old stamp,
-- one of them where there was none. The notes are true, and all that is supposed is met.
use Rattle.std.specs.Prelude.{ℕ, ◌||◌, Bool, true, List, [], ◌∷◌, ◌++◌, Some, None, bytes_eq}
use Rattle.log_text.specs.declared.form.Version.TheVariants.{Two}
use Rattle.log_text.specs.Form.{lines_text}
use Rattle.log_text.specs.Text.{header}
use Rattle.model.specs.declared.event.Event.TheVariants.{Start}
use Rattle.model.specs.declared.event.Moment.{Moment}
use Rattle.model.specs.declared.event.Moment.TheVariants.{Wrote, Happened}
use Rattle.model.specs.declared.event.Writer.TheVariants.{Command, Program, Someone}
use Rattle.seen_log.specs.declared.note.Kind.TheVariants.{Source}
use Rattle.seen_log.specs.Log.{noted_in_force}
use Rattle.seen_log.specs.Record.{forms}
use Rattle.model.specs.World.{World}
use Rattle.seen_law.specs.Rows.{edited, output, source, was, some_act, makes_output}
use Rattle.seen_true.specs.Counting.{Knowing}
use Rattle.seen_true.specs.Between.{ComesBehind, KnowsBehind}
use Rattle.seen_true.specs.Going.{Entered, NotesStand}
use Rattle.seen_true.specs.Notes.{Course, NotesAreTrue, Sighting, notes_of, real}
use Rattle.seen_true.specs.Small.{is_log, log, own, reads}

-- the file of the notes
abbrev pub seen : List ℕ
seen = 46 ∷ []

abbrev pub is_mine : List ℕ → Bool
is_mine p = is_log p || bytes_eq seen p

-- where no source is
abbrev pub gone : List ℕ
gone = 103 ∷ []

-- one source was found when the build began, and the other was not, and that was noted
abbrev pub found : List Sighting
found =
    record { path = source; file = Some (record { content = was; stamp = 5 }); kind = Source; number = 0 }
    ∷ record { path = gone; file = None; kind = Source; number = 0 } ∷ []

abbrev pub text : List ℕ
text = header (forms Two) ++ lines_text (forms Two) (notes_of found)

-- nothing was noted before; a record of the output, which was started under 6, stood in the log
abbrev pub knew : Knowing
knew = record { noted = λ p. None; is_output = λ p. bytes_eq p output; is_own = is_mine; number = 7; makes = makes_output; seen = seen }

abbrev pub before : List Moment
before = Wrote Program log (Some was) 4 ∷ Wrote Someone source (Some was) 5 ∷ []

-- the command wrote the output, and was killed
abbrev pub killed : Course
killed = record {
  knows = knew;
  first = before;
  before = before;
  more = Wrote Program seen (Some text) 6 ∷ Happened (Start 1 some_act 7) ∷ Wrote (Command 1) output (Some was) 8 ∷ [];
}

abbrev pub next : Knowing
next = record { noted = noted_in_force (notes_of found); is_output = λ p. bytes_eq p output; is_own = is_mine; number = 8; makes = makes_output; seen = seen }

abbrev pub later : List Moment
later = real killed ++ Wrote Someone source (Some edited) 1 ∷ Wrote Someone gone (Some edited) 1 ∷ []

-- the build began so, as it was asked for, and the site was this when it was killed
abbrev pub began : Entered
began = record { knows = knew; asked = before; first = before; before = before }

abbrev pub exit : World
exit = record {
  history = real killed;
  events = Start 1 some_act 7 ∷ [];
  earlier = [];
  ticked = 7;
  failures = 0;
  failures_at_start = 0;
  wait_refused = None;
  stopped = true;
}

-- the next one read the notes before the last of these writes, and began behind it
abbrev pub next_began : Entered
next_began = record { knows = next; asked = real killed ++ Wrote Someone source (Some edited) 1 ∷ []; first = later; before = [] }

abbrev pub KilledIsMet : Type 0
KilledIsMet =
    NotesAreTrue killed × NotesStand true began exit × KnowsBehind reads own began exit next_began None × ComesBehind reads own began exit next_began
