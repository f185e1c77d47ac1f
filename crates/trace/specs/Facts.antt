-- What a call did at its paths.
use Rattle.std.specs.Prelude.{ℕ, ◌&&◌, ◌||◌, not, Bool, false, List, [], ◌∷◌, ◌++◌, Option, Some, None, option_map, option_and_then, bytes_eq, codes, if◌then◌else◌}
use Rattle.std.specs.Str.{is_utf8}
use Rattle.trace.specs.declared.calls.Row.{Row}
use Rattle.trace.specs.declared.calls.Does.{Does}
use Rattle.trace.specs.declared.calls.Does.TheVariants as doing
use Rattle.trace.specs.declared.calls.Form.{Form}
use Rattle.trace.specs.declared.ending.End.{End}
use Rattle.trace.specs.declared.ending.End.TheVariants as ending
use Rattle.trace.specs.declared.fact.Deed.{Deed}
use Rattle.trace.specs.declared.fact.Deed.TheVariants.{Read, Wrote, Into, Stamped, Linked, Moved, Led, Emptied, Removed, Left, Listed, Asked, Missed, Sought, Folder, Made}
use Rattle.trace.specs.declared.fact.Fact.{Fact}
use Rattle.trace.specs.declared.facts.Paths.{Paths}
use Rattle.trace.specs.declared.parts.Call.{Call}
use Rattle.trace.specs.Marks.{cut, has}
use Rattle.trace.specs.Arguments.{behind, descriptor, first_argument, is_rooted, path_at, quoted}
use Rattle.trace.specs.Calls.{begins, ending_of, follows_links, has_two, is_of_folders, leads, links, row_named, runs}

-- ---- a call as it is written

-- a call of which it is known what it does, with its arguments and its answer
pub record Seen : Type 0 where
  pub row : Row
  pub arguments : List ℕ
  pub answer : List ℕ

abbrev pub call_seen : Call → Seen
call_seen call = record { row = call.row; arguments = call.arguments.now; answer = call.answer.now }

-- what is known of the call with this name, if that is a text
abbrev pub row_of : List ℕ → Option Row
row_of name = if is_utf8 name then row_named name else None

-- the arguments stand in front of the first parenthesis that closes
abbrev pub with_arguments : Row → List ℕ → List ℕ × List ℕ → Seen
with_arguments row answer parts = record { row = row; arguments = parts.0; answer = answer }

-- the answer stands behind the first sign of equality with blanks around it
abbrev pub with_answer : Row → List ℕ × List ℕ → Option Seen
with_answer row parts = option_map (with_arguments row parts.1) (cut (codes ")") parts.0)

abbrev pub with_row : List ℕ → Row → Option Seen
with_row text row = option_and_then (with_answer row) (cut (codes " = ") text)

abbrev pub with_name : List ℕ × List ℕ → Option Seen
with_name parts = option_and_then (with_row parts.1) (row_of parts.0)

-- the call `NAME(ARGUMENTS) = ANSWER` that is written so, if it is known
abbrev pub call_of : List ℕ → Option Seen
call_of text = option_and_then with_name (cut (codes "(") text)

-- ---- the paths that it names

abbrev pub one_path : List ℕ → Paths
one_path path = record { path = path; other = [] }

abbrev pub two_paths : List ℕ → List ℕ → Paths
two_paths path other = record { path = path; other = other }

abbrev pub second_path : Form → Option (List ℕ) → List ℕ → List ℕ → Option Paths
second_path form folder arguments path = option_map (two_paths path) (path_at form folder (behind form arguments))

-- the arguments from which paths are taken
abbrev pub arguments_for : Does → List ℕ → List ℕ
arguments_for does arguments = if leads does then (first_argument arguments).1 else arguments

-- a link, and where it leads as it is written
abbrev pub with_target : List ℕ → List ℕ → Option Paths
with_target arguments path = option_map (two_paths path) (quoted (first_argument arguments).0)

abbrev pub with_path : Seen → Option (List ℕ) → List ℕ → List ℕ → Option Paths
with_path call folder arguments path =
    if leads call.row.does then with_target call.arguments path
    else (if has_two call.row.does then second_path call.row.form folder arguments path else Some (one_path path))

abbrev pub paths_from : Seen → Option (List ℕ) → List ℕ → Option Paths
paths_from call folder arguments = option_and_then (with_path call folder arguments) (path_at call.row.form folder arguments)

-- the paths that a call names, of a process that is in this folder
abbrev pub paths_of : Seen → Option (List ℕ) → Option Paths
paths_of call folder = paths_from call folder (arguments_for call.row.does call.arguments)

-- ---- what was done there

-- the path goes up behind a name
abbrev pub goes_up : List ℕ → Bool
goes_up path = has (codes "/..") path

-- the call says that what stands at the path itself is meant, or that nothing may stand there
abbrev pub stays : List ℕ → Bool
stays arguments =
    has (codes "AT_SYMLINK_NOFOLLOW") arguments
    || (has (codes "O_NOFOLLOW") arguments || (has (codes "O_CREAT") arguments && has (codes "O_EXCL") arguments))

-- what a link leads to that stands at the path is meant
abbrev pub follows : Seen → Bool
follows call =
    (follows_links call.row.does && not (stays call.arguments))
    || (links call.row.does && has (codes "AT_SYMLINK_FOLLOW") call.arguments)

abbrev pub told : Bool → Deed → List ℕ → Option (List ℕ) → Fact
told follows deed path real =
    record { deed = deed; path = path; real = real; other = None; up = goes_up path; follows = follows }

abbrev pub fact : Bool → Deed → List ℕ → Fact
fact follows deed path = told follows deed path None

-- the second path was given to the file that has the first one, or had it before
abbrev pub placed : Deed → Paths → Fact
placed deed paths =
    record { deed = deed; path = paths.other; real = None; other = Some paths.path; up = goes_up paths.other; follows = false }

-- a link was made at the path, which leads to the other one as that is written
abbrev pub led : Paths → Fact
led paths =
    record { deed = Led; path = paths.path; real = None; other = Some paths.other; up = goes_up paths.path; follows = false }

-- what a look saw, and what a removal removed
abbrev pub looked : List ℕ → Deed
looked arguments = if has (codes "S_IFDIR") arguments then Folder else Asked

abbrev pub removed : List ℕ → Deed
removed arguments = if has (codes "AT_REMOVEDIR") arguments then Folder else Removed

-- by these flags a file is empty once it is opened
abbrev pub empties : List ℕ → Bool
empties arguments = has (codes "O_TRUNC") arguments || (has (codes "O_CREAT") arguments && has (codes "O_EXCL") arguments)

-- these flags are those of `touch`, which writes nothing
abbrev pub only_stamps : List ℕ → Bool
only_stamps arguments = has (codes "O_NOCTTY") arguments && has (codes "O_NONBLOCK") arguments

-- what is written by these flags may depend on what the file holds: it is put behind that, or may be read by who writes it
abbrev pub goes_on : List ℕ → Bool
goes_on arguments = has (codes "O_RDWR") arguments || (has (codes "O_WRONLY") arguments && has (codes "O_APPEND") arguments)

-- one that is read and written: where the call makes the file if none is there, what it reads is what it wrote, unless an earlier one stood there
abbrev pub read_and_written : List ℕ → Deed × Option Deed
read_and_written arguments = if has (codes "O_CREAT") arguments then (Into, Some Read) else (Read, Some Into)

-- What a file is opened for by these flags. Where it is not emptied, what is written there is written into what it held, or behind that.
unfoldable pub deeds : List ℕ → Deed × Option Deed
deeds arguments =
    if has (codes "O_DIRECTORY") arguments || has (codes "O_TMPFILE") arguments then (Folder, None)
    else (if has (codes "O_PATH") arguments then (Asked, None)
    else (if empties arguments then (Wrote, None)
    else (if goes_on arguments then read_and_written arguments
    else (if not (has (codes "O_WRONLY") arguments) then (Read, None)
    else (if only_stamps arguments then (Stamped, None) else (Into, None))))))

-- what was done by the path of a call that answered a descriptor, or none
abbrev pub answered : Seen → Deed → List ℕ → Fact
answered call deed path = told (follows call) deed path (descriptor call.answer)

abbrev pub at_second : Seen → Option Deed → List ℕ → List Fact
at_second call None path = []
at_second call (Some deed) path = answered call deed path ∷ []

abbrev pub opened : Seen → List ℕ → List Fact
opened call path = answered call (deeds call.arguments).0 path ∷ at_second call (deeds call.arguments).1 path

-- behind other facts, that a file or a folder was given another path
abbrev pub with_moved : List Fact → Paths → List Fact
with_moved facts paths =
    ((facts ++ fact false Read paths.path ∷ []) ++ fact false Left paths.path ∷ []) ++ placed Moved paths ∷ []

-- and that a file was given one more path
abbrev pub with_linked : List Fact → Seen → Paths → List Fact
with_linked facts call paths = (facts ++ fact (follows call) Read paths.path ∷ []) ++ placed Linked paths ∷ []

-- An open file was emptied, where its new length says so. Of another length nothing more is told: what it was opened for says that it is written.
abbrev pub emptied : List ℕ → List ℕ → List Fact
emptied arguments path = if bytes_eq (first_argument arguments).1 (codes "0") then fact false Emptied path ∷ [] else []

-- what a call did that ended well
abbrev pub done_by : Does → Seen → Paths → List Fact
done_by doing.Looks call paths = fact (follows call) (looked call.arguments) paths.path ∷ []
done_by doing.Peeks call paths = fact (follows call) (looked call.arguments) paths.path ∷ []
done_by doing.Opens call paths = opened call paths.path
done_by doing.Creates call paths = answered call Wrote paths.path ∷ []
done_by doing.Runs call paths = fact (follows call) Read paths.path ∷ []
done_by doing.Goes call paths = fact (follows call) Folder paths.path ∷ []
done_by doing.Lists call paths = fact (follows call) Listed paths.path ∷ []
done_by doing.Folders call paths = fact (follows call) Made paths.path ∷ []
done_by doing.Clears call paths = fact (follows call) Folder paths.path ∷ []
done_by doing.Removes call paths = fact (follows call) (removed call.arguments) paths.path ∷ []
done_by doing.Moves call paths = fact false Read paths.path ∷ fact false Left paths.path ∷ placed Moved paths ∷ []
done_by doing.Links call paths = fact (follows call) Read paths.path ∷ placed Linked paths ∷ []
done_by doing.Leads call paths = led paths ∷ []
done_by doing.Cuts call paths = fact (follows call) Into paths.path ∷ []
done_by doing.Empties call paths = emptied call.arguments paths.path
done_by doing.Changes call paths = fact (follows call) Stamped paths.path ∷ []
done_by doing.Marks call paths = fact (follows call) Stamped paths.path ∷ []
done_by doing.Starts call paths = []
done_by doing.Connects call paths = []
done_by doing.Passes call paths = []

abbrev pub done : Seen → Paths → List Fact
done call paths = done_by call.row.does call paths

-- What a call was that found nothing. A file may be there of which two paths were named, or that was to be run: the other path may lack its
-- folder, and what runs it may be missing.
abbrev pub missed_by : Does → Deed
missed_by does = if has_two does || runs does then Sought else Missed

-- a folder was asked for at the path itself, and a file is there
abbrev pub is_no_folder : Seen → Bool
is_no_folder call =
    begins (codes "-1 ENOTDIR ") call.answer
    && (is_of_folders call.row.does || (has (codes "O_DIRECTORY") call.arguments || has (codes "AT_REMOVEDIR") call.arguments))

abbrev pub missed : Seen → Deed
missed call = if is_no_folder call then Asked else missed_by call.row.does

abbrev pub ended_by : End → Seen → Paths → List Fact
ended_by ending.Well call paths = done call paths
ended_by ending.Missing call paths = fact (follows call) (missed call) paths.path ∷ []
ended_by ending.Refused call paths = fact (follows call) Asked paths.path ∷ []
ended_by ending.Void call paths = []
ended_by ending.Open call paths = []

-- What a call did at its paths; what the kernel names otherwise than by a path from the root is no file. One that was refused has asked: that
-- a folder cannot be made says that something is there.
abbrev pub facts_of : Seen → Paths → List Fact
facts_of call paths = if is_rooted paths.path then ended_by (ending_of call.answer) call paths else []
