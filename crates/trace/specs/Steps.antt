-- What a call did, and what is known of its process then.
use Rattle.std.specs.Prelude.{ℕ, ◌&&◌, ◌||◌, not, Bool, false, List, [], ◌∷◌, Option, Some, None, option_and_then, codes, if◌then◌else◌}
use Rattle.trace.specs.declared.fact.Deed.TheVariants.{Connected}
use Rattle.trace.specs.declared.facts.Paths.{Paths}
use Rattle.trace.specs.declared.processes.Known.{Known}
use Rattle.trace.specs.declared.steps.Step.{Step}
use Rattle.trace.specs.Marks.{has}
use Rattle.trace.specs.Arguments.{descriptor, first_argument}
use Rattle.trace.specs.Calls.{begins, begins_one, connects, ending_of, goes, is_missing, is_open, is_void, is_well, opens, passes}
use Rattle.trace.specs.Facts.{Seen, fact, facts_of, paths_of}
use Rattle.trace.specs.Processes.{fresh}

-- nothing was done
abbrev pub still : Known → Step
still known = record { folder = known.folder; shares = known.shares; child = None; facts = [] }

-- the process that a call started, whose number it answered; it is where its parent is
abbrev pub child_of_call : Known → Seen → Known
child_of_call known call = fresh call.answer known.folder (has (codes "CLONE_FS") call.arguments)

abbrev pub started : Known → Seen → Step
started known call =
    if is_well (ending_of call.answer) then record (still known) {
      child = Some (child_of_call known call);
      shares = known.shares || has (codes "CLONE_FS") call.arguments;
    }
    else still known

-- a server was asked, unless there is none
abbrev pub connected : Known → Seen → Step
connected known call =
    if not (is_missing (ending_of call.answer)) then record (still known) { facts = fact false Connected (codes "/") ∷ [] } else still known

-- the process has gone to another folder
abbrev pub has_gone : Seen → Bool
has_gone call = goes call.row.does && is_well (ending_of call.answer)

-- the folder of the process after a call by which it goes nowhere: the one that the kernel has for it, where the trace tells that
abbrev pub folder_told : Known → Seen → Option (List ℕ)
folder_told known call =
    if begins (codes "AT_FDCWD<") call.arguments then descriptor (first_argument call.arguments).0 else known.folder

abbrev pub folder_after : Known → Seen → Paths → Option (List ℕ)
folder_after known call paths = if has_gone call then Some paths.path else folder_told known call

-- what was done at these paths; where several processes share their folder, it is open where the others are once one has gone
abbrev pub walked_at : Known → Seen → Paths → Option Step
walked_at known call paths =
    if has_gone call && known.shares then None
    else Some (record { folder = folder_after known call paths; shares = known.shares; child = None; facts = facts_of call paths })

-- it gives a file another path in a way that is not told here: two files each other's, or with something left behind
abbrev pub swaps : Seen → Bool
swaps call = has (codes "RENAME_EXCHANGE") call.arguments || has (codes "RENAME_WHITEOUT") call.arguments

-- it takes a name that begins at the root from a folder that is no root to others
abbrev pub has_own_root : Seen → Bool
has_own_root call = has (codes "RESOLVE_IN_ROOT") call.arguments

-- it opens a file, and what for is not written
abbrev pub is_blind : Seen → Bool
is_blind call = opens call.row.does && not (has (codes "O_") call.arguments)

-- What a call of a process did. None where that cannot be told: its process ended in it, or it names no path that can be read.
abbrev pub step_of : Known → Seen → Option Step
step_of known call =
    if passes call.row.does || is_void (ending_of call.answer) then Some (still known)
    else (if ((is_open (ending_of call.answer) || swaps call) || has_own_root call) || is_blind call then None
    else (if begins_one call.row.does then Some (started known call)
    else (if connects call.row.does then Some (connected known call)
    else option_and_then (walked_at known call) (paths_of call known.folder))))
