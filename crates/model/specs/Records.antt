-- What the logs tell of earlier builds, and the inputs that commands discovered.
use Rattle.std.specs.Prelude.{◌≡◌, ◌⊎◌, ℕ, ◌≤◌, ◌==◌, ◌&&◌, Bool, true, false, if◌then◌else◌, List, [], ◌∷◌, ◌++◌, Option, Some, None, is_some, bytes_eq}
use Rattle.std.specs.List.{AllByRecursion, list_all}
use Rattle.model.specs.declared.act.Act.{Act}
use Rattle.model.specs.declared.graph.Edge.{Edge}
use Rattle.model.specs.declared.record.Record.{Record}
use Rattle.model.specs.declared.record.Record.TheVariants.{Begun, Done}
use Rattle.model.specs.declared.record.DepsRecord.{DepsRecord}
use Rattle.model.specs.World.{View}
use Rattle.model.specs.Graph.{has, outputs, edge_at, StandsTwice}

-- what both logs tell, oldest record first (manual: "Ninja log", "Depfile"; the logs are this project's own)
pub record Store : Type 0 where
  pub records : List Record
  pub deps : List DepsRecord

-- how the texts of the two logs are read; None where a text is damaged
pub record LogFormat : Type 0 where
  pub records : List ℕ → Option (List Record)
  pub deps : List ℕ → Option (List DepsRecord)

-- the program's own files (this project's own)
pub record OwnFiles : Type 0 where
  pub build_log : List ℕ
  pub deps_log : List ℕ
  -- whether a path is a log, the file that a tick touches, or another of the program's own files
  pub files : List ℕ → Bool
  -- one set of paths that holds these and all depfiles and response files, the same for a whole history
  pub set : List ℕ → Bool

-- the names of both logs, of the file that a tick touches, of the file to which a command's output goes without its number, and
-- what stands behind the name of a log while it is replaced
abbrev pub build_log_name : List ℕ
build_log_name = 46 ∷ 110 ∷ 106 ∷ 95 ∷ 108 ∷ 111 ∷ 103 ∷ []

abbrev pub deps_log_name : List ℕ
deps_log_name = 46 ∷ 110 ∷ 106 ∷ 95 ∷ 100 ∷ 101 ∷ 112 ∷ 115 ∷ []

abbrev pub tick_name : List ℕ
tick_name = 46 ∷ 110 ∷ 106 ∷ 95 ∷ 116 ∷ 105 ∷ 99 ∷ 107 ∷ []

abbrev pub output_name : List ℕ
output_name = 46 ∷ 110 ∷ 106 ∷ 95 ∷ 111 ∷ 117 ∷ 116 ∷ 46 ∷ []

abbrev pub new_suffix : List ℕ
new_suffix = 46 ∷ 110 ∷ 101 ∷ 119 ∷ []

-- the path of a name in a folder, which is a canonical path, or empty for the working folder
abbrev pub file_in : List ℕ → List ℕ → List ℕ
file_in [] name = name
file_in (c ∷ []) name = if c == 47 then 47 ∷ name else c ∷ 47 ∷ name
file_in (c ∷ d ∷ folder) name = (c ∷ d ∷ folder) ++ 47 ∷ name

abbrev pub IsDigit : ℕ → Type 0
IsDigit c = (48 ≤ c) × (c ≤ 57)

-- a digit or a full stop
abbrev pub IsInNumbers : ℕ → Type 0
IsInNumbers c = IsDigit c ⊎ (c ≡ 46)

-- The program's own files are those of this folder: .nj_log, .nj_deps and .nj_tick, what a log is replaced by before it gets its
-- name, and the files .nj_out.PROCESS.N of running commands.
pub record IsOwnIn (own : OwnFiles) (folder : List ℕ) : Type 0 where
  pub build_log : own.build_log ≡ file_in folder build_log_name
  pub deps_log : own.deps_log ≡ file_in folder deps_log_name
  pub is_log : own.files (file_in folder build_log_name) ≡ true
  pub is_deps : own.files (file_in folder deps_log_name) ≡ true
  pub tick : own.files (file_in folder tick_name) ≡ true
  pub new_log : own.files (file_in folder build_log_name ++ new_suffix) ≡ true
  pub new_deps : own.files (file_in folder deps_log_name ++ new_suffix) ≡ true
  pub outputs : (numbers : List ℕ) → AllByRecursion IsInNumbers numbers → own.files (file_in folder (output_name ++ numbers)) ≡ true

-- what is read of a log that is absent, damaged, or neither
abbrev pub read_log : {A : Type 0} → (List ℕ → Option (List A)) → Option (List ℕ) → List A
read_log reading None = []
read_log {A} reading (Some content) = elim (reading content) as (λ read. List A) [ None ↦ [] | Some records ↦ records ]

-- what the logs tell in these files: nothing where they are absent or damaged (this project's own)
abbrev pub store_in : LogFormat → OwnFiles → View → Store
store_in format own files = record { records = read_log format.records (files own.build_log); deps = read_log format.deps (files own.deps_log) }

-- ---- records in force

-- what is known of the command that made an output
pub record Made : Type 0 where
  pub act : Act
  pub start : ℕ

abbrev pub in_force_from : List ℕ → Option Made → List Record → Option Made
in_force_from o held [] = held
in_force_from o held (Begun outputs ∷ rs) = in_force_from o (if has outputs o then None else held) rs
in_force_from o held (Done outputs start act ∷ rs) = in_force_from o (if has outputs o then Some (record { act = act; start = start }) else held) rs

-- the record in force for an output: the last one that names it; none where that is a begun one (this project's own)
abbrev pub in_force : List Record → List ℕ → Option Made
in_force records o = in_force_from o None records

-- what is known of what the command that made an output told: the start under which it ran, and the paths that it read
pub record Told : Type 0 where
  pub start : ℕ
  pub paths : List (List ℕ)

abbrev pub deps_from : List ℕ → Option Told → List DepsRecord → Option Told
deps_from o held [] = held
deps_from o held (r ∷ rs) = deps_from o (if has r.outputs o then Some (record { start = r.start; paths = r.paths }) else held) rs

-- what is in force of the deps log for an output: what its last record that names it tells (this project's own)
abbrev pub deps_in_force : List DepsRecord → List ℕ → Option Told
deps_in_force deps o = deps_from o None deps

-- ---- recorded inputs

-- whether two acts are the same: all four texts are
abbrev pub is_same_act : Act → Act → Bool
is_same_act a b =
    bytes_eq a.command b.command && bytes_eq a.depfile b.depfile
    && bytes_eq a.response_path b.response_path && bytes_eq a.response_content b.response_content

abbrev pub is_of_start : ℕ → Option Told → Bool
is_of_start start None = false
is_of_start start (Some deps) = deps.start == start

abbrev pub is_known : Act → Option Made → Option Told → Bool
is_known act None deps = false
is_known act (Some made) deps = is_same_act made.act act && is_of_start made.start deps

abbrev pub paths_in : Option Told → List (List ℕ)
paths_in None = []
paths_in (Some deps) = deps.paths

abbrev pub all_paths_in : List DepsRecord → List (List ℕ) → List (List ℕ)
all_paths_in deps [] = []
all_paths_in deps (o ∷ os) = paths_in (deps_in_force deps o) ++ all_paths_in deps os

-- the inputs that the last run of the edge's command told, where each output has a record of the present act and a deps
-- record of the same start; else none are in use (manual: "Depfile"; when they are in use is this project's own)
abbrev pub recorded_of : Store → Edge → List (List ℕ)
recorded_of store e =
    if list_all (λ o. is_known e.act (in_force store.records o) (deps_in_force store.deps o)) (outputs e) then all_paths_in store.deps (outputs e) else []

-- the recorded inputs in use of each command edge; none of one whose dyndep file is still to be loaded (this project's own)
abbrev pub recorded_inputs : Store → List Edge → ℕ → List (List ℕ)
recorded_inputs store edges i =
    if (edge_at edges i).phony then [] else (if is_some (edge_at edges i).dyndep then [] else recorded_of store (edge_at edges i))

-- ---- what a record of reports lists

-- the list has each of these paths once, and no other
pub record ListsOnce (paths reported : List (List ℕ)) : Type 0 where
  pub same : (p : List ℕ) → has paths p ≡ has reported p
  pub once : (p : List ℕ) → StandsTwice paths p → ⊥
