-- The processes that run, as far as a trace has come.
use Rattle.std.specs.Prelude.{ℕ, ◌&&◌, ◌||◌, not, Bool, true, false, List, [], ◌∷◌, ◌++◌, Option, Some, None, bytes_eq, codes, is_some, if◌then◌else◌}
use Rattle.trace.specs.declared.processes.Known.{Known}
use Rattle.trace.specs.Marks.{has}
use Rattle.trace.specs.Calls.{begins}

abbrev pub is_none : List Known → Bool
is_none [] = true
is_none (known ∷ processes) = false

-- what is known of the process with this number
abbrev pub known_of : List ℕ → List Known → Option Known
known_of number [] = None
known_of number (known ∷ processes) = if bytes_eq known.number number then Some known else known_of number processes

abbrev pub without : List ℕ → List Known → List Known
without number [] = []
without number (known ∷ processes) = if bytes_eq known.number number then processes else known ∷ without number processes

abbrev pub is_calling_so : Option Known → Bool
is_calling_so None = false
is_calling_so (Some known) = is_some known.begun

-- the process with this number is in a call that was not written to its end
abbrev pub is_calling : List ℕ → List Known → Bool
is_calling number processes = is_calling_so (known_of number processes)

abbrev pub put : Known → List Known → List Known
put known processes = without known.number processes ++ known ∷ []

-- the number is one of these
abbrev pub is_listed : List ℕ → List (List ℕ) → Bool
is_listed number [] = false
is_listed number (other ∷ numbers) = if bytes_eq other number then true else is_listed number numbers

-- a process that was started, unless it was seen before
abbrev pub with_child : Known → List Known → List Known
with_child known processes = if is_some (known_of known.number processes) then processes else processes ++ known ∷ []

-- ---- what is known of a process when it is first seen

abbrev pub fresh : List ℕ → Option (List ℕ) → Bool → Known
fresh number folder shares = record { number = number; folder = folder; begun = None; shares = shares }

abbrev pub begins_to_start : List ℕ → Bool
begins_to_start begun = (begins (codes "clone") begun || begins (codes "fork(") begun) || begins (codes "vfork(") begun

abbrev pub begins_to_start_in : Option (List ℕ) → Bool
begins_to_start_in None = false
begins_to_start_in (Some begun) = begins_to_start begun

-- it has begun to start another one
abbrev pub is_forking : Known → Bool
is_forking known = begins_to_start_in known.begun

abbrev pub lends_place_in : Option (List ℕ) → Bool
lends_place_in None = false
lends_place_in (Some begun) = has (codes "CLONE_FS") begun

-- the one that it has begun to start may take it to another folder
abbrev pub lends_place : Known → Bool
lends_place known = lends_place_in known.begun

abbrev pub is_same : Option (List ℕ) → Option (List ℕ) → Bool
is_same None None = true
is_same None (Some b) = false
is_same (Some a) None = false
is_same (Some a) (Some b) = bytes_eq a b

-- a process that this one starts is where one is that the first starts
abbrev pub starts_as : Known → Known → Bool
starts_as first known = is_same known.folder first.folder && (not (lends_place known) || lends_place first)

abbrev pub first_forking : List Known → Option Known
first_forking [] = None
first_forking (known ∷ processes) = if is_forking known then Some known else first_forking processes

abbrev pub all_start_as : Known → List Known → Bool
all_start_as first [] = true
all_start_as first (known ∷ processes) =
    if is_forking known && not (starts_as first known) then false else all_start_as first processes

abbrev pub if_all_start_so : List Known → Option Known → Option Known
if_all_start_so processes None = None
if_all_start_so processes (Some first) = if all_start_as first processes then Some first else None

-- a process that has begun to start another one, where all that have lead to the same
abbrev pub parent_of : List Known → Option Known
parent_of processes = if_all_start_so processes (first_forking processes)

abbrev pub child_of : List ℕ → Option Known → Known
child_of number None = fresh number None false
child_of number (Some parent) = fresh number parent.folder (lends_place parent)

-- What is known of a process that was not seen yet. The first of all is in the folder where the trace begins.
abbrev pub newcomer : List ℕ → List ℕ → List Known → Known
newcomer start number processes =
    if is_none processes then fresh number (Some start) false else child_of number (parent_of processes)

abbrev pub else_new : List ℕ → List ℕ → List Known → Option Known → Known
else_new start number processes (Some known) = known
else_new start number processes None = newcomer start number processes

abbrev pub known_or_new : List ℕ → List ℕ → List Known → Known
known_or_new start number processes = else_new start number processes (known_of number processes)
