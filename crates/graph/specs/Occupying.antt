-- Which paths cannot be the depfile or the response file of an edge (this project's own).
use Rattle.std.specs.Prelude.{◌≡◌, ◌≢◌, ◌⊎◌, ℕ, ◌≤◌, ◌||◌, Bool, true, List, [], ◌++◌, take, length, bytes_eq, codes}
use Rattle.model.specs.declared.graph.Edge.{Edge}
use Rattle.model.specs.Graph.{has, edge_at, outputs, inputs}
use Rattle.model.specs.Records.{file_in}
use Rattle.graph.specs.declared.fault.SideFile.{SideFile}
use Rattle.graph.specs.declared.fault.SideFile.TheVariants.{Depfile, Response}

-- the depfile or the response file of the edge; empty where it has none
abbrev pub side_file : Edge → SideFile → List ℕ
side_file e Depfile = e.act.depfile
side_file e Response = e.act.response_path

-- ---- what build lines name

-- what the edge names beside its outputs: its inputs of all three kinds, and its validations
abbrev pub beside_outputs : Edge → List (List ℕ)
beside_outputs e = inputs e ++ e.validations

abbrev pub makes_path : List Edge → ℕ → List ℕ → Bool
makes_path edges i p = has (outputs (edge_at edges i)) p

abbrev pub uses_path : List Edge → ℕ → List ℕ → Bool
uses_path edges i p = has (beside_outputs (edge_at edges i)) p

-- a build line names the path, and not only as an output of edge i
pub record IsNamedBeside (edges : List Edge) (i : ℕ) (p : List ℕ) : Type 0 where
  pub edge : ℕ
  pub names : (uses_path edges edge p ≡ true) ⊎ ((edge ≢ i) × (makes_path edges edge p ≡ true))

-- ---- the program's own files

-- how the paths of the program's own files in this folder begin
abbrev pub own_start : List ℕ → List ℕ
own_start folder = file_in folder (codes ".nj_")

abbrev pub begins : List ℕ → List ℕ → Bool
begins start text = bytes_eq start (take (length start) text)

-- what comes after that: of the logs, of what a log is replaced by, of the file of stamps and of the empty input; the names of
-- what commands print, and of traces, end in anything
abbrev pub is_own_end : List ℕ → Bool
is_own_end end =
    bytes_eq end (codes "log") || (bytes_eq end (codes "deps") || (bytes_eq end (codes "seen")
    || (bytes_eq end (codes "log.new") || (bytes_eq end (codes "deps.new") || (bytes_eq end (codes "seen.new")
    || (bytes_eq end (codes "tick") || (bytes_eq end (codes "in")
    || (begins (codes "out.") end || begins (codes "trace.") end))))))))

-- the path is that of one of them, where these begin so
pub record IsOwnFile (start p : List ℕ) : Type 0 where
  pub end : List ℕ
  pub is : p ≡ start ++ end
  pub own : is_own_end end ≡ true

-- ---- both

-- the path cannot be the depfile or the response file of edge i: it is more than that
abbrev pub IsOccupied : List ℕ → List Edge → ℕ → List ℕ → Type 0
IsOccupied start edges i p = (p ≢ []) × (IsNamedBeside edges i p ⊎ IsOwnFile start p)

-- this file of edge i stands at such a path
abbrev pub IsSideOccupied : List ℕ → List Edge → ℕ → SideFile → Type 0
IsSideOccupied start edges i file = IsOccupied start edges i (side_file (edge_at edges i) file)

-- no depfile and no response file of the first so many edges does
abbrev pub AreFreeUpTo : List ℕ → List Edge → ℕ → Type 0
AreFreeUpTo start edges count = (i : ℕ) (file : SideFile) → i ≤ count → IsSideOccupied start edges i file → ⊥

-- The program's own files in this folder, depfiles and response files are apart where a build line says so: none of the latter is
-- one of the former, and none is named by a build line, but as an output of its own edge.
abbrev pub AreApart : List ℕ → List Edge → Type 0
AreApart folder edges = (i : ℕ) (file : SideFile) → IsSideOccupied (own_start folder) edges i file → ⊥
