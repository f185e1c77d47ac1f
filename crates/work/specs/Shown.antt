-- What is shown of a command when it starts and when it ends, and what is held back meanwhile (manual, "The `console` pool" and
-- "Environment variables": NINJA_STATUS; the rest is this project's own).
use Rattle.std.specs.Prelude.{◌≡◌, ℕ, suc, ◌+◌, ◌-◌, ◌^◌, ◌==◌, ◌&&◌, min, max, Bool, true, false, if◌then◌else◌, List, [], ◌++◌, length, Option, Some, None, bytes_eq, is_some, map, Vec, Result, OnOk, IfOk, IsOk}
use Rattle.std.specs.Borrow.{Bor}
use Rattle.std.specs.declared.alloc.Global.{Global}
use Rattle.model.specs.declared.graph.Edge.{Edge}
use Rattle.model.specs.Graph.{console, outputs}
use Rattle.status.specs.declared.counts.Counts.{Counts}
use Rattle.status.specs.declared.part.Part.{Part}
use Rattle.status.specs.Line.{line_text, said_of}
use Rattle.status.specs.Ending.{DepfileFault, Failure, ending_text}
use Rattle.status.specs.Screen.{held}
use Rattle.work.specs.declared.display.Progress.{Progress}
use Rattle.model.specs.World.{World}
use Rattle.model.specs.declared.event.Finished.{Finished}
use Rattle.graph.specs.declared.graph.Graph.{Graph}
use Rattle.work.specs.EdgeIn.{edge_in}

-- the command has the terminal to itself
abbrev pub is_console : Edge → Bool
is_console edge = elim edge.pool as (λ pool. Bool) [ None ↦ false | Some name ↦ bytes_eq name console ]

-- ---- counts

-- a count goes no further than a number of the machine
abbrev pub counted : ℕ → ℕ
counted n = min n (2 ^ 64 - 1)

-- a verdict adds a command that was not due, and takes away one that was due and is clean
abbrev pub unstarted_after : Bool → Bool → ℕ → ℕ
unstarted_after true true unstarted = unstarted
unstarted_after true false unstarted = unstarted - 1
unstarted_after false true unstarted = counted (unstarted + 1)
unstarted_after false false unstarted = unstarted

-- one more command runs
abbrev pub with_one_more : Progress → Progress
with_one_more progress = record { running = counted (suc progress.running); well = progress.well; failed = progress.failed }

-- the counts that a line shows: each command that was started runs or has ended, and there is one at least
pub record AreCounts (progress : Progress) (unstarted : ℕ) (counts : Counts) : Type 0 where
  pub started : counts.started ≡ counted (progress.running + (progress.well + progress.failed))
  pub total : counts.total ≡ max 1 (counted (counts.started + unstarted))
  pub running : counts.running ≡ progress.running
  pub finished : counts.finished ≡ counted (progress.well + progress.failed)

-- ---- texts

-- what a line says of the command of an edge
abbrev pub said_by : Bool → Edge → List ℕ
said_by verbose edge = said_of verbose edge.description edge.act.command

-- the line of a command, with its newline
abbrev pub command_line : List Part → Bool → Counts → Edge → List ℕ
command_line pattern verbose counts edge = line_text pattern counts (said_by verbose edge)

-- why it failed, where it did, and what is wrong with its depfile, where that is why
abbrev pub failure_of : Edge → Bool → Option DepfileFault → Option Failure
failure_of edge true depfile = None
failure_of edge false depfile = Some (record { outputs = outputs edge; command = edge.act.command; depfile = depfile })

-- what is told of what a command printed: of one with the terminal, nothing
abbrev pub printed_by : Edge → List ℕ → List ℕ
printed_by edge printed = if is_console edge then [] else printed

-- why it failed, where it did, and what is told of what it printed
abbrev pub ending_of : Edge → Bool → Option DepfileFault → List ℕ → List ℕ
ending_of edge ok depfile printed = ending_text (record { failure = failure_of edge ok depfile; output = printed_by edge printed })

-- that is put behind a text,
abbrev pub PutsEnd : Graph → ℕ → Finished → Option DepfileFault → Vec ℕ Global → Vec ℕ Global → Type 0
PutsEnd graph e finished depfile old new = new.items ≡ old.items ++ ending_of (edge_in graph e) finished.ok depfile finished.output

-- and so it is that a command failed which has these outputs
abbrev pub PutsFailure : List (Bor (List ℕ)) → List ℕ → Option DepfileFault → List ℕ → Vec ℕ Global → Vec ℕ Global → Type 0
PutsFailure outputs command depfile printed old new =
    new.items ≡ old.items ++ ending_text (record { failure = Some (record { outputs = map (λ output. output.now) outputs; command = command; depfile = depfile }); output = printed })

-- what is shown of a command that has ended and printed this: of one with the terminal no line, and nothing that it printed
abbrev pub end_text : List Part → Bool → Counts → Edge → Bool → Option DepfileFault → List ℕ → List ℕ
end_text pattern verbose counts edge ok depfile printed =
    if is_console edge then ending_text (record { failure = failure_of edge ok depfile; output = [] })
    else command_line pattern verbose counts edge ++ ending_text (record { failure = failure_of edge ok depfile; output = printed })

-- ---- what a display keeps

pub record Showing : Type 0 where
  pub pattern : List Part
  -- lines show commands in place of descriptions
  pub verbose : Bool
  -- what is held back while a command has the terminal; None while each text is shown at once
  pub held : Option (List ℕ)
  -- how many commands are still to be started
  pub unstarted : ℕ

-- nothing was shown yet
abbrev pub nothing_shown : List Part → Bool → ℕ → Showing
nothing_shown pattern verbose unstarted = record { pattern = pattern; verbose = verbose; held = None; unstarted = unstarted }

-- the line of a command under the pattern of a display
abbrev pub shown_line : Showing → Counts → Edge → List ℕ
shown_line showing counts edge = command_line showing.pattern showing.verbose counts edge

-- this is what is shown of a command that has ended so
abbrev pub IsTextOfEnd : Showing → Counts → Graph → ℕ → Finished → Option DepfileFault → Vec ℕ Global → Type 0
IsTextOfEnd showing counts graph e finished depfile text = text.items ≡ end_text showing.pattern showing.verbose counts (edge_in graph e) finished.ok depfile finished.output

abbrev pub with_unstarted : Showing → ℕ → Showing
with_unstarted old unstarted = record { pattern = old.pattern; verbose = old.verbose; held = old.held; unstarted = unstarted }

abbrev pub with_held : Showing → Option (List ℕ) → Showing
with_held old texts = record { pattern = old.pattern; verbose = old.verbose; held = texts; unstarted = old.unstarted }

-- what is shown now of a text that is handed in
abbrev pub shown_now : Option (List ℕ) → List ℕ → List ℕ
shown_now None text = text
shown_now (Some texts) text = []

-- what is held back where a text was handed in: it stands behind the others, or was shown
abbrev pub behind : Option (List ℕ) → List ℕ → Option (List ℕ)
behind None text = None
behind (Some texts) text = Some (texts ++ text)

-- a command is about to be started
abbrev pub counted_off : Showing → Showing
counted_off old = with_unstarted old (old.unstarted - 1)

-- a command with the terminal is about to be started: its line is shown, and all behind it is held back
pub record TakesTerminal (progress : Progress) (edge : Edge) (old new : Showing) : Type 0 where
  pub counts : Counts
  pub are : AreCounts (with_one_more progress) (old.unstarted - 1) counts
  pub after : new ≡ with_held (counted_off old) (Some (held (behind old.held (command_line old.pattern old.verbose counts edge))))

-- so it is of a command that gets it,
abbrev pub StartsAtTerminal : {T E : Type 0} → Graph → ℕ → Progress → Showing → Showing → Result T E → Type 0
StartsAtTerminal graph e progress old new result = is_console (edge_in graph e) ≡ true → OnOk result (TakesTerminal progress (edge_in graph e) old new)

-- and of another one nothing is shown, and the call is well
abbrev pub StartsUnshown : {S T E : Type 0} → (S → World) → S → S → Graph → ℕ → Showing → Showing → Result T E → Type 0
StartsUnshown world was now graph e old new result = is_console (edge_in graph e) ≡ false → IsOk result × (new ≡ counted_off old) × (world now ≡ world was)

-- nothing is held back any more
abbrev pub released : Showing → Showing
released old = with_held old None

-- what is shown when a command ends that has this text: of one with the terminal, behind all that was held back
abbrev pub shown_at_end : Edge → Option (List ℕ) → List ℕ → List ℕ
shown_at_end edge texts text = if is_console edge then held texts ++ text else shown_now texts text

-- what is held back then: behind one with the terminal, nothing
abbrev pub held_at_end : Edge → Option (List ℕ) → List ℕ → Option (List ℕ)
held_at_end edge texts text = if is_console edge then None else behind texts text

-- a command that printed this has ended
pub record Ends (progress : Progress) (edge : Edge) (ok : Bool) (depfile : Option DepfileFault) (printed : List ℕ) (old new : Showing) (shown : List ℕ) : Type 0 where
  pub counts : Counts
  pub are : AreCounts progress old.unstarted counts
  pub now : shown ≡ shown_at_end edge old.held (end_text old.pattern old.verbose counts edge ok depfile printed)
  pub after : new ≡ with_held old (held_at_end edge old.held (end_text old.pattern old.verbose counts edge ok depfile printed))

-- Nothing is shown when a command ends: it is held back; of one with the terminal, that it ended well and nothing was held back.
abbrev pub ends_silently : Edge → Bool → Option (List ℕ) → Bool
ends_silently edge ok texts = if is_console edge then ok && (length (held texts) == 0) else is_some texts

-- the command of the edge has ended so, and this is what to show now,
abbrev pub ShowsEnd : {E : Type 0} → Progress → Graph → ℕ → Finished → Option DepfileFault → Showing → Showing → Result (Vec ℕ Global) E → Type 0
ShowsEnd progress graph e finished depfile old new result = IfOk result (λ shown. Ends progress (edge_in graph e) finished.ok depfile finished.output old new shown.items)

-- which is nothing where nothing is shown
abbrev pub EndsInSilence : Graph → ℕ → Finished → Showing → Vec ℕ Global → Type 0
EndsInSilence graph e finished old shown = ends_silently (edge_in graph e) finished.ok old.held ≡ true → shown.items ≡ []
