-- What a command did, path by path.
use Rattle.std.specs.Prelude.{ℕ, zero, suc, not, Bool, true, false, List, [], ◌∷◌, ◌++◌, Option, Some, if◌then◌else◌, codes, nat_eq, bytes_eq, unwrap_or}
use Rattle.std.specs.List.{starts_with}
use Rattle.lexer.specs.Path.{IsCanonical}
use Rattle.model.specs.Graph.{has}
use Rattle.trace.specs.declared.fact.Deed.{Deed}
use Rattle.trace.specs.declared.fact.Deed.TheVariants.{Connected, Left, Made, Moved, Read}
use Rattle.audit.specs.declared.seen.Uses.{Uses}
use Rattle.audit.specs.declared.used.Use.{Use}
use Rattle.audit.specs.declared.below.Carried.{Carried}
use Rattle.audit.specs.declared.whole.Whole.{Whole}
use Rattle.audit.specs.declared.seen.By.{By}
use Rattle.audit.specs.declared.seen.By.TheVariants.{Name, Kernel, Both}
use Rattle.audit.specs.Below.{below}
use Rattle.audit.specs.Uses.{stands, unused, with_deed}

-- the path of a build, from the root
abbrev pub whole_path : List ℕ → List ℕ → List ℕ
whole_path folder path = if starts_with nat_eq path (codes "/") then path else (folder ++ codes "/") ++ path

-- its canonical form
abbrev pub IsWhole : List ℕ → List ℕ → List ℕ → Type 0
IsWhole folder path found = IsCanonical (whole_path folder path) found

-- ---- path by path

-- the paths at which something was done, in the order in which each comes first, and what was done there in sum
pub record Sums : Type 0 where
  pub paths : List (List ℕ)
  pub uses : List Use

abbrev pub no_sums : Sums
no_sums = record { paths = []; uses = [] }

abbrev pub sums_in : Uses → Sums
sums_in uses = record { paths = uses.paths; uses = uses.uses.items }

-- the use at this path becomes one with this deed more
abbrev pub use_again : List (List ℕ) → List Use → List ℕ → Deed → List Use
use_again [] uses path deed = uses
use_again (other ∷ paths) [] path deed = []
use_again (other ∷ paths) (used ∷ uses) path deed =
    if bytes_eq other path then with_deed used deed ∷ uses else used ∷ use_again paths uses path deed

-- the use in this place becomes one with this deed more
abbrev pub again_at : List Use → ℕ → Deed → List Use
again_at [] place deed = []
again_at (used ∷ uses) zero deed = with_deed used deed ∷ uses
again_at (used ∷ uses) (suc place) deed = used ∷ again_at uses place deed

-- a path at which this was done goes last
abbrev pub put_last : Sums → List ℕ → Use → Sums
put_last sums path used = record { paths = sums.paths ++ path ∷ []; uses = sums.uses ++ used ∷ [] }

-- one thing more was done: at a path at which something was done before, or at another one, which goes last
abbrev pub with_done : Sums → List ℕ → Deed → Sums
with_done sums path deed =
    if has sums.paths path then record { paths = sums.paths; uses = use_again sums.paths sums.uses path deed }
    else put_last sums path (with_deed unused deed)

-- what was done at a path
abbrev pub use_in : List (List ℕ) → List Use → List ℕ → Use
use_in [] uses path = unused
use_in (other ∷ paths) [] path = unused
use_in (other ∷ paths) (used ∷ uses) path = if bytes_eq other path then used else use_in paths uses path

abbrev pub use_at : Sums → List ℕ → Use
use_at sums path = use_in sums.paths sums.uses path

-- ---- what is given another path

-- what was done at the new path of a folder, one that the command made or another one
abbrev pub folder_deed : Use → Deed
folder_deed used = if used.made_folder then Made else Moved

-- what stands below a folder goes along with it: a folder, or a file, if it was seen that one stands there
abbrev pub with_pair_of : Use → Sums → Carried → Sums
with_pair_of used sums pair =
    if used.is_folder then with_done (with_done sums pair.from Left) pair.to (folder_deed used)
    else (if not (stands used) then sums
    else with_done (with_done (with_done sums pair.from Read) pair.from Left) pair.to Moved)

abbrev pub with_pair : Sums → Carried → Sums
with_pair sums pair = with_pair_of (use_at sums pair.from) sums pair

abbrev pub with_pairs : Sums → List Carried → Sums
with_pairs sums [] = sums
with_pairs sums (pair ∷ pairs) = with_pairs (with_pair sums pair) pairs

-- what has the first path was given the second one: where it is a folder, all that was seen below it goes along
abbrev pub with_moved : Sums → List ℕ → List ℕ → Sums
with_moved sums from to =
    if not (use_at sums from).is_folder then with_done sums to Moved
    else with_done (with_pairs sums (below from to sums.paths)) to (folder_deed (use_at sums from))

abbrev pub with_thing_by : Deed → Option (List ℕ) → Sums → List ℕ → Sums
with_thing_by Moved (Some from) sums path = with_moved sums from path
with_thing_by deed other sums path = with_done sums path deed

-- one thing more was done, by this path
abbrev pub with_thing : Sums → List ℕ → Whole → Sums
with_thing sums path whole = with_thing_by whole.deed whole.other sums path

-- the path by which a thing counts: the one that was given, or the one that the kernel has where that is asked for and known
abbrev pub path_by : Whole → Bool → List ℕ
path_by whole false = whole.path
path_by whole true = unwrap_or whole.real whole.path

-- one thing more was done, by the path that is asked for, or by both
abbrev pub with_taken : Sums → Whole → By → Sums
with_taken sums whole Name = with_thing sums (path_by whole false) whole
with_taken sums whole Kernel = with_thing sums (path_by whole true) whole
with_taken sums whole Both = with_thing (with_thing sums (path_by whole false) whole) (path_by whole true) whole

-- these things were done, one after another, each by the path that is asked for, or by both
abbrev pub with_all_done : Sums → List Whole → List By → Sums
with_all_done sums [] bys = sums
with_all_done sums (whole ∷ wholes) [] = sums
with_all_done sums (whole ∷ wholes) (by ∷ bys) = with_all_done (with_taken sums whole by) wholes bys

-- the paths at which nothing was done go last
abbrev pub with_untouched : Sums → List (List ℕ) → Sums
with_untouched sums [] = sums
with_untouched sums (path ∷ paths) =
    with_untouched (if has sums.paths path then sums else put_last sums path unused) paths

-- a server was asked
abbrev pub is_connected : Deed → Bool
is_connected Connected = true
is_connected _ = false
