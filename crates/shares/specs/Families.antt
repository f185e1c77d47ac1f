-- Which process started which, as far as a trace was read.
--
-- A process lives from the first line that has its number, or that tells that one was started with it, to the line that tells its end, or,
-- where that comes first, to the one that tells its start. So a number may be another's later. Where a line may be of two processes, or
-- two were told to have started one, those that it concerns are mixed: what they did cannot be told.
use Rattle.std.specs.Prelude.{ℕ, ◌+◌, ◌==◌, ◌||◌, Bool, true, false, List, [], ◌∷◌, ◌++◌, Option, Some, None, length, nat_le, option_map, set, if◌then◌else◌}
use Rattle.shares.specs.declared.families.Families.{Families}
use Rattle.shares.specs.declared.processes.Origin.{Origin}
use Rattle.shares.specs.declared.processes.Origin.TheVariants.{Untold, Command, Child}
use Rattle.shares.specs.declared.processes.Process.{Process}
use Rattle.shares.specs.Lines.{child_of, is_end, is_left_out, leaves_numbers, numbered}
use Rattle.shares.specs.Numbers.{place_of, without}
use Rattle.shares.specs.Processes.{is_told, process_at, process_of}

abbrev pub nothing_yet : Families
nothing_yet = record { numbers = []; processes = []; commands = []; is_clear = true }

-- one process more, with this number
abbrev pub with_process : List ℕ → Origin → Families → Families
with_process number origin families = record families {
  numbers = families.numbers ++ record { number = number; place = length families.processes } ∷ [];
  processes = families.processes ++ process_of origin ∷ [];
}

-- the process in this place is another
abbrev pub with_changed : ℕ → (Process → Process) → Families → Families
with_changed place change families = record families { processes = set families.processes place (change (process_at place families.processes)) }

abbrev pub is_mixed_now : Process → Process
is_mixed_now process = record process { is_mixed = true }

abbrev pub mixed : ℕ → Families → Families
mixed place families = with_changed place is_mixed_now families

-- nobody has this number
abbrev pub freed : List ℕ → Families → Families
freed number families = record families { numbers = without number families.numbers }

-- ---- there is a line of the process with this number

abbrev pub after_seen : List ℕ → Option ℕ → Families → Families
after_seen number None families = with_process number Untold families
after_seen number (Some place) families = if (process_at place families.processes).has_ended then mixed place families else families

abbrev pub after_number : Families → List ℕ → Families
after_number families number = after_seen number (place_of number families.numbers) families

abbrev pub place_or_new : Option ℕ → Families → ℕ
place_or_new None families = length families.processes
place_or_new (Some place) families = place

-- the place of its process
abbrev pub place_in : Families → List ℕ → ℕ
place_in families number = place_or_new (place_of number families.numbers) families

-- ---- what it tells

abbrev pub one_line_more : Process → Process
one_line_more process = record process { lines = process.lines + 1 }

-- it counts, if a share may have it
abbrev pub with_line : ℕ → List ℕ → Families → Families
with_line place body families = if is_left_out body then families else with_changed place one_line_more families

abbrev pub is_mixed_by : ℕ → List ℕ → Families → Families
is_mixed_by place body families = if leaves_numbers body then mixed place families else families

abbrev pub has_ended_now : Process → Process
has_ended_now process = record process { has_ended = true }

-- The process has ended. Where it was told who started it, its number is free then.
abbrev pub after_end : ℕ → List ℕ → Families → Families
after_end place number families =
    if is_told (process_at place families.processes) then freed number (with_changed place has_ended_now families)
    else with_changed place has_ended_now families

-- the origin of a process that this one starts
abbrev pub told_by : ℕ → Families → Origin
told_by by families = if by == 0 then Command (length families.commands) else Child by

abbrev pub from_one : Origin → Process → Process
from_one origin process = record process { origin = origin }

-- A process was started whose lines were seen before. Where that was told before, or the one that started it was not seen before it, both
-- are mixed.
abbrev pub after_child : ℕ → ℕ → List ℕ → Origin → Families → Families
after_child by place number origin families =
    if is_told (process_at place families.processes) || nat_le place by then mixed by (mixed place families)
    else (if (process_at place families.processes).has_ended then freed number (with_changed place (from_one origin) families)
    else with_changed place (from_one origin) families)

abbrev pub after_child_at : ℕ → List ℕ → Origin → Option ℕ → Families → Families
after_child_at by number origin None families = with_process number origin families
after_child_at by number origin (Some place) families = after_child by place number origin families

-- one command more, where the first process of all started it
abbrev pub with_command : ℕ → List ℕ → Families → Families
with_command by number families = if by == 0 then record families { commands = families.commands ++ number ∷ [] } else families

abbrev pub after_start : ℕ → List ℕ → Families → Families
after_start by number families =
    with_command by number (after_child_at by number (told_by by families) (place_of number families.numbers) families)

abbrev pub after_answer : ℕ → Option (List ℕ) → Families → Families
after_answer by None families = families
after_answer by (Some child) families = after_start by child families

abbrev pub after_told : ℕ → List ℕ → List ℕ → Families → Families
after_told place number body families =
    if is_end body then after_end place number families else after_answer place (child_of body) families

abbrev pub after_body : ℕ → List ℕ → List ℕ → Families → Families
after_body place number body families = after_told place number body (is_mixed_by place body (with_line place body families))

-- ---- a line

abbrev pub after_parts : Families → Option (List ℕ × List ℕ) → Families
after_parts families None = record families { is_clear = false }
after_parts families (Some parts) = after_body (place_in families parts.0) parts.0 parts.1 (after_number families parts.0)

-- what is known behind it
abbrev pub after : Families → List ℕ → Families
after families line = after_parts families (numbered line)

abbrev pub place_by : Families → Option (List ℕ × List ℕ) → Option ℕ
place_by families None = None
place_by families (Some parts) = if is_left_out parts.1 then None else Some (place_in families parts.0)

-- the place of its process, if a share may have it
abbrev pub place_of_line : Families → List ℕ → Option ℕ
place_of_line families line = place_by families (numbered line)

-- what is known behind several lines
abbrev pub after_all : Families → List (List ℕ) → Families
after_all families [] = families
after_all families (line ∷ lines) = after_all (after families line) lines
