-- Whose each process is, and how many lines each command has.
use Rattle.std.specs.Prelude.{ℕ, ◌+◌, List, [], ◌∷◌, ◌++◌, Option, Some, None, get_or, replicate, set, if◌then◌else◌}
use Rattle.shares.specs.declared.owners.Owned.{Owned}
use Rattle.shares.specs.declared.processes.Origin.{Origin}
use Rattle.shares.specs.declared.processes.Origin.TheVariants.{Untold, Command, Child}
use Rattle.shares.specs.declared.processes.Process.{Process}
use Rattle.shares.specs.Processes.{is_fine}

abbrev pub nobody : Option ℕ
nobody = None

abbrev pub no_left : Option ℕ
no_left = None

-- whose the process in this place is
abbrev pub owner_at : ℕ → List (Option ℕ) → Option ℕ
owner_at place owners = get_or owners place nobody

abbrev pub owner_by : List (Option ℕ) → Origin → Option ℕ
owner_by owners Untold = None
owner_by owners (Command command) = Some command
owner_by owners (Child place) = owner_at place owners

-- whose a process is: that of the one that started it, unless the first of all did
abbrev pub owner_in : List (Option ℕ) → Process → Option ℕ
owner_in owners process = owner_by owners process.origin

-- how many lines a command has with those of this process; none where not all of these are known
abbrev pub more_left : Process → Option ℕ → Option ℕ
more_left process None = None
more_left process (Some left) = if is_fine process then Some (left + process.lines) else None

abbrev pub counted : Process → Option ℕ → List (Option ℕ) → List (Option ℕ)
counted process None left = left
counted process (Some command) left = set left command (more_left process (get_or left command no_left))

-- one process more
abbrev pub owned_more : Process → Owned → Owned
owned_more process owned = record {
  owners = owned.owners ++ owner_in owned.owners process ∷ [];
  left = counted process (owner_in owned.owners process) owned.left;
}

abbrev pub none_owned : ℕ → Owned
none_owned commands = record { owners = []; left = replicate commands (Some 0) }

-- several more
abbrev pub owned_all : List Process → Owned → Owned
owned_all [] owned = owned
owned_all (process ∷ processes) owned = owned_all processes (owned_more process owned)
