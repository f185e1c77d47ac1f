-- What a trace tells, line by line. (This project's own reading of what strace 6 writes with the words that `host` starts it with.)
--
-- A line is the number of a process, blanks, and what the process did: a call `NAME(ARGUMENTS) = ANSWER`, which is written once it has
-- ended; or its beginning, where another process comes between, and later its end; or that a signal came; or that the process has ended.
-- Each call tells what it did at its paths; of one that is not known nothing can be told, and then nothing is told of the trace.
use Rattle.std.specs.Prelude.{◌≡◌, ℕ, List, [], ◌∷◌, ◌++◌, ◌&&◌, ◌||◌, not, Bool, true, false, Option, Some, None, option_map, option_and_then, codes, is_some, if◌then◌else◌}
use Rattle.trace.specs.declared.fact.Fact.{Fact}
use Rattle.trace.specs.declared.processes.Known.{Known}
use Rattle.trace.specs.declared.steps.Step.{Step}
use Rattle.trace.specs.declared.lines.Reached.{Reached}
use Rattle.trace.specs.declared.reading.Told.{Told}
use Rattle.trace.specs.declared.reading.Told.TheVariants.{Facts, NotUnderstood}
use Rattle.trace.specs.Marks.{cut, skip_blanks}
use Rattle.trace.specs.Arguments.{is_nothing}
use Rattle.trace.specs.Calls.{begins}
use Rattle.trace.specs.Facts.{call_of}
use Rattle.trace.specs.Processes.{first_forking, is_calling, is_listed, is_none, known_or_new, put, with_child, without}
use Rattle.trace.specs.Steps.{step_of}

abbrev pub nothing_yet : Reached
nothing_yet = record { processes = []; ended = []; facts = [] }

abbrev pub without_blanks : List ℕ × List ℕ → List ℕ × List ℕ
without_blanks parts = (parts.0, skip_blanks parts.1)

-- the number of the process of a line, and what it tells of it
abbrev pub numbered : List ℕ → Option (List ℕ × List ℕ)
numbered line = option_map without_blanks (cut (codes " ") line)

abbrev pub with_step : List ℕ → Step → Known
with_step number step = record { number = number; folder = step.folder; begun = None; shares = step.shares }

-- A process that was started, unless it was seen before, and may have ended since: its lines may stand before the end of the call that
-- started it.
abbrev pub with_started : List (List ℕ) → Known → List Known → List Known
with_started ended child processes = if is_listed child.number ended then processes else with_child child processes

abbrev pub with_children : List (List ℕ) → Option Known → List Known → List Known
with_children ended None processes = processes
with_children ended (Some child) processes = with_started ended child processes

-- which processes have ended is of use as long as a call that starts one has not
abbrev pub settled : Reached → Reached
settled reached = if is_some (first_forking reached.processes) then reached else record reached { ended = [] }

abbrev pub stepped : Reached → List ℕ → Step → Reached
stepped reached number step = record {
  processes = with_children reached.ended step.child (put (with_step number step) reached.processes);
  ended = reached.ended;
  facts = reached.facts ++ step.facts;
}

abbrev pub after_step : Reached → List ℕ → Step → Reached
after_step reached number step = settled (stepped reached number step)

-- a call was made
abbrev pub after_call : Reached → Known → List ℕ → Option Reached
after_call reached known text = option_map (after_step reached known.number) (option_and_then (step_of known) (call_of text))

-- a call has begun of which so much was written
abbrev pub begins_call : Reached → Known → List ℕ → Reached
begins_call reached known front = record reached { processes = put (record known { begun = Some front }) reached.processes }

abbrev pub ends_call : List ℕ → List ℕ × List ℕ → List ℕ
ends_call front parts = front ++ parts.1

abbrev pub whole_by : List ℕ → List ℕ → Option (List ℕ)
whole_by body front = option_map (ends_call front) (cut (codes " resumed>") body)

-- a call whose beginning was written on an earlier line
abbrev pub whole : Option (List ℕ) → List ℕ → Option (List ℕ)
whole begun body = option_and_then (whole_by body) begun

-- a call was made, or nothing more was written of it but its beginning
abbrev pub after_whole : Reached → Known → List ℕ → Option (List ℕ × List ℕ) → Option Reached
after_whole reached known body None = after_call reached known body
after_whole reached known body (Some parts) = if is_nothing parts.1 then Some (begins_call reached known parts.0) else None

abbrev pub after_text : Reached → Known → List ℕ → Option Reached
after_text reached known body =
    if begins (codes "<... ") body then option_and_then (after_call reached known) (whole known.begun body)
    else after_whole reached known body (cut (codes " <unfinished ...>") body)

abbrev pub without_ended : Reached → List ℕ → Reached
without_ended reached number =
    record { processes = without number reached.processes; ended = reached.ended ++ number ∷ []; facts = reached.facts }

-- A process has ended. Where it was in a call that was not written to its end, what that did is open.
abbrev pub after_end : Reached → List ℕ → Option Reached
after_end reached number = if is_calling number reached.processes then None else Some (settled (without_ended reached number))

-- a process has ended, by itself or by a signal, which ends it between two calls as well
abbrev pub is_end : List ℕ → Bool
is_end body = begins (codes "+++ exited with ") body || begins (codes "+++ killed by ") body

abbrev pub after_body : List ℕ → Reached → List ℕ × List ℕ → Option Reached
after_body start reached parts =
    if is_end parts.1 then after_end reached parts.0
    else (if begins (codes "--- ") parts.1 then Some reached
    else after_text reached (known_or_new start parts.0 reached.processes) parts.1)

abbrev pub is_undone : List Fact → Bool
is_undone [] = true
is_undone (fact ∷ facts) = false

-- what is reached by a line, if it is understood
abbrev pub after : List ℕ → Reached → List ℕ → Option Reached
after start reached line = option_and_then (after_body start reached) (numbered line)

-- ---- all lines

-- the lines of a text, each of which is ended by a line feed
abbrev pub lines_from : List ℕ → List ℕ → Option (List (List ℕ))
lines_from [] [] = Some []
lines_from (a ∷ line) [] = None
lines_from line (b ∷ text) =
    if begins (codes "\n") (b ∷ text) then option_map (λ lines. line ∷ lines) (lines_from [] text) else lines_from (line ++ b ∷ []) text

abbrev pub lines_of : List ℕ → Option (List (List ℕ))
lines_of = lines_from []

abbrev pub after_all : List ℕ → Reached → List (List ℕ) → Option Reached
after_all start reached [] = Some reached
after_all start reached (line ∷ lines) = option_and_then (λ next. after_all start next lines) (after start reached line)

abbrev pub after_text_of : List ℕ → Reached → List ℕ → Option Reached
after_text_of start reached text = option_and_then (after_all start reached) (lines_of text)

-- what was done, once each process has ended; a command does something at least, as its shell is run
abbrev pub all_done : Reached → Option (List Fact)
all_done reached = if is_none reached.processes && not (is_undone reached.facts) then Some reached.facts else None

-- what a trace tells of a command that began in this folder, if all of it is understood and nothing is cut off
abbrev pub told : List ℕ → List ℕ → Option (List Fact)
told start trace = option_and_then all_done (after_text_of start nothing_yet trace)

abbrev pub IsTold : List ℕ → List ℕ → Told → Type 0
IsTold start trace (Facts facts) = told start trace ≡ Some facts
IsTold start trace NotUnderstood = told start trace ≡ None
