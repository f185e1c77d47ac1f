-- How what is found at a path counts, by what is noted of it. All is this project's own.
use Rattle.std.specs.Prelude.{ℕ, ◌+◌, ◌-◌, ◌^◌, ◌==◌, ◌&&◌, ◌||◌, not, max, min, Bool, true, false, if◌then◌else◌, Option, Some, None, is_some}
use Rattle.seen_log.specs.declared.note.Kind.{Kind}
use Rattle.seen_log.specs.declared.note.Kind.TheVariants.{Source, Made, Turned}
use Rattle.seen_log.specs.declared.note.Noted.{Noted}
use Rattle.seen_log.specs.Log.{counts_of}
use Rattle.seen_true.specs.Counting.{is_as_noted, is_turned}
use Rattle.seen_true.specs.Laws.{is_late}
use Rattle.seen.specs.declared.judging.Judged.{Judged}
use Rattle.seen.specs.declared.judging.Past.{Past}
use Rattle.measure.specs.declared.measure.Measure.{Measure}

-- as what a source is noted that is another than the noted one
abbrev pub turned : Kind → Kind
turned Source = Source
turned Made = Turned
turned Turned = Turned

-- this counts, and nothing is to be noted
abbrev pub plainly : Option ℕ → Judged
plainly counts = record { counts = counts; number = None; kind = Source }

-- this counts, and it is to be noted as the number of what is of this kind
abbrev pub under : ℕ → Kind → Judged
under number kind = record { counts = Some number; number = Some number; kind = kind }

-- what is as noted counts as before, but as absent where a command makes what somebody else wrote
abbrev pub judged_same : Noted → (is_output : Bool) → Judged
judged_same noted is_output = if is_output && is_turned noted.kind then plainly None else plainly (Some (counts_of noted))

-- what is as noted counts so; any other file counts as absent where a command makes it, and else as written when it was put there, but
-- no earlier than the number of the build
abbrev pub judged_noted : Noted → (is_output : Bool) → (number stamp size placed : ℕ) → Judged
judged_noted noted is_output number stamp size placed =
    if is_as_noted noted stamp size then judged_same noted is_output
    else (if is_output then plainly None else under (max number placed) (turned noted.kind))

-- what was never noted has its own stamp, and is noted so. A source that was put there after the first start in this build counts as written
-- then.
abbrev pub judged_new : (is_output : Bool) → (since : Option ℕ) → (stamp placed : ℕ) → Judged
judged_new is_output since stamp placed =
    if is_late since placed && not is_output then under placed Source
    else record { counts = Some stamp; number = Some 0; kind = if is_output then Made else Source }

-- a file of this stamp and this size counts so, where this is noted of it
abbrev pub judged_file : Option Noted → Past → (number stamp size placed : ℕ) → Judged
judged_file None past number stamp size placed = judged_new past.is_output past.since stamp placed
judged_file (Some noted) past number stamp size placed = judged_noted noted past.is_output number stamp size placed

-- a folder has its own stamp, and is never noted
abbrev pub judged_sized : Past → (number stamp placed : ℕ) → Option ℕ → Judged
judged_sized past number stamp placed None = plainly (Some stamp)
judged_sized past number stamp placed (Some size) = judged_file past.noted past number stamp size placed

-- What is absent does not count. Of a path that was never noted, and that no command makes, that is to be noted.
abbrev pub judged_away : (is_noted is_output : Bool) → Judged
judged_away is_noted is_output = if is_noted || is_output then plainly None else record { counts = None; number = Some 0; kind = Source }

-- how what is found at a path of this past counts, in a build of this number
abbrev pub judged : Past → (number : ℕ) → Option Measure → Judged
judged past number None = judged_away (is_some past.noted) past.is_output
judged past number (Some found) = judged_sized past number found.stamp found.placed found.size

-- ---- what a command left

-- the number under which a file of this stamp is noted that counts under that one: 0 where that is its own
abbrev pub number_told : (counts stamp : ℕ) → ℕ
number_told counts stamp = if counts == stamp then 0 else counts

-- that of what its command left, as it is told; none where it does not count
abbrev pub left_number : (counts : Option ℕ) → (stamp : ℕ) → Option ℕ
left_number None stamp = None
left_number (Some counts) stamp = Some (number_told counts stamp)

-- what is absent counts so, of which something is noted
abbrev pub already_away : Option Noted → Option Judged
already_away None = None
already_away (Some noted) = Some (plainly None)

-- how what was found counts where nothing else is asked: it is noted and absent, a folder, or as noted, and nothing that somebody wrote where a
-- command had made the path
abbrev pub already_sized : Option Noted → (stamp : ℕ) → Option ℕ → Option Judged
already_sized noted stamp None = Some (plainly (Some stamp))
already_sized None stamp (Some size) = None
already_sized (Some noted) stamp (Some size) = if is_as_noted noted stamp size && not (is_turned noted.kind) then Some (plainly (Some (counts_of noted))) else None

abbrev pub already : Option Noted → Option Measure → Option Judged
already noted None = already_away noted
already noted (Some found) = already_sized noted found.stamp found.size

-- ---- the number of a build

-- one past both, as far as a stamp goes
abbrev pub next_number : (start greatest : ℕ) → ℕ
next_number start greatest = min (max start greatest + 1) (2 ^ 64 - 1)
