-- What a graph keeps beside what build files declare, in numbers.
use Rattle.std.specs.Prelude.{◌≡◌, ◌⊎◌, ℕ, suc, ◌==◌, ◌<◌, ◌≤◌, ◌-◌, Bool, true, false, if◌then◌else◌, nat_eq, List, [], ◌∷◌, ◌++◌, length, take, replicate, get_or, slice_set, Option, Some, None}
use Rattle.indexmap.specs.IndexSet.{insert_key}
use Rattle.model.specs.Graph.{has_number}
use Rattle.paths.specs.declared.manifest.Action.{Action}
use Rattle.paths.specs.declared.manifest.Action.TheVariants.{Alias, Command}
use Rattle.paths.specs.declared.manifest.Manifest.{Manifest}
use Rattle.paths.specs.Lists.{line_at, line_outputs, line_inputs}
use Rattle.paths.specs.Commands.{no_action}

-- the list of this place
abbrev pub list_at : List (List ℕ) → ℕ → List ℕ
list_at lists k = get_or lists k []

-- how often the number stands in the list
abbrev pub times : List ℕ → ℕ → ℕ
times [] n = 0
times (m ∷ ms) n = if m == n then suc (times ms n) else times ms n

-- so many lists, of which those behind are empty
abbrev pub more_lists : List (List ℕ) → ℕ → List (List ℕ)
more_lists lists count = lists ++ replicate (count - length lists) []

-- no number stands twice in the list
abbrev pub StandOnce : List ℕ → Type 0
StandOnce numbers = (n : ℕ) → times numbers n ≤ 1

-- the set has the number, too: it is as it was, or the number stands behind
pub record HasPut (old : List ℕ) (n : ℕ) (new : List ℕ) : Type 0 where
  pub set : new ≡ insert_key nat_eq old n
  pub either : ((has_number old n ≡ true) × (new ≡ old)) ⊎ (new ≡ old ++ n ∷ [])

abbrev pub maker_in : List (Option ℕ) → ℕ → Option ℕ
maker_in makers p = get_or makers p None

-- each output has its edge as its maker, which is the only one and makes it once
pub record AreMakers (manifest : Manifest) (makers : List (Option ℕ)) : Type 0 where
  pub fits : length makers ≤ length manifest.paths
  pub made : (p e : ℕ) → maker_in makers p ≡ Some e → has_number (line_outputs (line_at manifest.lines e)) p ≡ true
  pub all : (p e : ℕ) → has_number (line_outputs (line_at manifest.lines e)) p ≡ true → maker_in makers p ≡ Some e
  pub once : (e : ℕ) → StandOnce (line_outputs (line_at manifest.lines e))

abbrev pub dyndep_of : Action → Option ℕ
dyndep_of Alias = None
dyndep_of (Command command) = command.dyndep

-- a dyndep file that an edge names is one of its inputs (manual: "Dynamic Dependencies")
abbrev pub DyndepsAreInputs : Manifest → Type 0
DyndepsAreInputs manifest =
    (e p : ℕ) → dyndep_of (get_or manifest.actions e no_action) ≡ Some p → has_number (line_inputs (line_at manifest.lines e)) p ≡ true

-- the dyndep file that the edge names
abbrev pub dyndep_in : Manifest → ℕ → Option ℕ
dyndep_in manifest e = dyndep_of (get_or manifest.actions e no_action)

-- whether the path is an input of the edge
abbrev pub is_input_in : Manifest → ℕ → ℕ → Bool
is_input_in manifest e p = has_number (line_inputs (line_at manifest.lines e)) p

-- the dyndep file that the edge names is one of its inputs
abbrev pub DyndepIsInput : Manifest → ℕ → Type 0
DyndepIsInput manifest e = (p : ℕ) → dyndep_in manifest e ≡ Some p → is_input_in manifest e p ≡ true

-- the recorded inputs of each edge, each once
pub record AreRecorded (manifest : Manifest) (recorded : List (List ℕ)) : Type 0 where
  pub fits : length recorded ≡ length manifest.lines
  pub within : (e p : ℕ) → has_number (list_at recorded e) p ≡ true → p < length manifest.paths
  pub once : (e : ℕ) → StandOnce (list_at recorded e)

-- for each path the edges that name it as an input or a recorded input, an edge exactly as often as it names the path
pub record AreUsers (manifest : Manifest) (recorded users : List (List ℕ)) : Type 0 where
  pub fits : length users ≡ length manifest.paths
  pub counted : (p e : ℕ) → p < length manifest.paths → times (list_at users p) e ≡ times (line_inputs (line_at manifest.lines e) ++ list_at recorded e) p

-- ---- one edge behind those that name paths

abbrev pub push_at : List (List ℕ) → ℕ → ℕ → List (List ℕ)
push_at users p e = slice_set users p (list_at users p ++ e ∷ [])

abbrev pub pushed : List (List ℕ) → List ℕ → ℕ → List (List ℕ)
pushed users [] e = users
pushed users (p ∷ ps) e = pushed (push_at users p e) ps e

-- the list at this place without its last number
abbrev pub pop_at : List (List ℕ) → ℕ → List (List ℕ)
pop_at lists k = slice_set lists k (take (length (list_at lists k) - 1) (list_at lists k))

-- lists of others than these stay as they were
abbrev pub OthersStay : List ℕ → List (List ℕ) → List (List ℕ) → Type 0
OthersStay edges old new = (e : ℕ) → has_number edges e ≡ false → list_at new e ≡ list_at old e
