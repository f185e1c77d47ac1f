-- What traces are written to.
use Rattle.std.specs.Prelude.{◌≡◌, ◌<◌, ℕ, Bool, true, List, [], ◌∷◌, Option, Some, None, codes, length, nat_eq, slice_get, if◌then◌else◌}
use Rattle.std.specs.List.{starts_with}
use Rattle.std.specs.Option.{option_or}
use Rattle.paths.specs.declared.manifest.Action.{Action}
use Rattle.paths.specs.declared.manifest.Action.TheVariants.{Alias, Command}

-- the path begins as those of files do into which traces are written
abbrev pub begins_so : List ℕ → Bool
begins_so path = starts_with nat_eq path (codes ".nj_trace.")

abbrev pub IsTracePath : List ℕ → Type 0
IsTracePath path = begins_so path ≡ true

-- none of these paths does
abbrev pub AreNoTraces : List (List ℕ) → Type 0
AreNoTraces paths = (place : ℕ) (path : List ℕ) → place < length paths → slice_get paths place ≡ Some path → IsTracePath path → ⊥

-- the first of these two that does
abbrev pub first_of : List ℕ → List ℕ → Option (List ℕ)
first_of one other = if begins_so one then Some one else (if begins_so other then Some other else None)

-- the depfile or the response file of what an edge does, if that is such a path
abbrev pub side_in : Action → Option (List ℕ)
side_in Alias = None
side_in (Command command) = first_of command.act.depfile command.act.response_path

-- the first depfile or response file that is such a path
abbrev pub first_side : List Action → Option (List ℕ)
first_side [] = None
first_side (action ∷ actions) = option_or (side_in action) (first_side actions)
