-- The arguments of a call, as a trace writes them.
use Rattle.std.specs.Prelude.{ℕ, ◌&&◌, Bool, true, false, List, [], ◌∷◌, ◌++◌, Option, Some, None, option_map, option_and_then, unwrap_or, codes, nat_eq, if◌then◌else◌}
use Rattle.std.specs.List.{starts_with}
use Rattle.trace.specs.declared.calls.Form.{Form}
use Rattle.trace.specs.declared.calls.Form.TheVariants.{Name, At, Opened}
use Rattle.trace.specs.Marks.{cut, between}
use Rattle.trace.specs.Hex.{unhex}

abbrev pub is_nothing : List ℕ → Bool
is_nothing [] = true
is_nothing (b ∷ text) = false

-- the first argument, and what stands behind the comma
abbrev pub first_argument : List ℕ → List ℕ × List ℕ
first_argument arguments = unwrap_or (cut (codes ", ") arguments) (arguments, [])

-- the text between the quotes, if nothing stands around them
abbrev pub bare : List ℕ × List ℕ × List ℕ → Option (List ℕ)
bare parts = if is_nothing parts.0 && is_nothing parts.2 then unhex parts.1 else None

-- the text that stands in quotes as the whole argument
abbrev pub quoted : List ℕ → Option (List ℕ)
quoted argument = option_and_then bare (between (codes "\"") (codes "\"") argument)

-- the path that the kernel has for a descriptor
abbrev pub descriptor : List ℕ → Option (List ℕ)
descriptor argument = option_and_then (λ parts. unhex parts.1) (between (codes "<") (codes ">") argument)

-- the name in an argument, which is empty where there is none
abbrev pub name_of : List ℕ → Option (List ℕ)
name_of argument = if starts_with nat_eq argument (codes "NULL") then Some [] else quoted argument

-- the path begins at the root
abbrev pub is_rooted : List ℕ → Bool
is_rooted path = starts_with nat_eq path (codes "/")

-- the path of a name in a folder, as they are written
abbrev pub placed : List ℕ → List ℕ → List ℕ
placed folder name = if is_nothing name then folder else (folder ++ codes "/") ++ name

-- the path of a name, where the folder is known in which it stands, or the name begins at the root
abbrev pub resolved : Option (List ℕ) → List ℕ → Option (List ℕ)
resolved folder name = if is_rooted name then Some name else option_map (λ at. placed at name) folder

abbrev pub named : Option (List ℕ) → Option (List ℕ) → Option (List ℕ)
named folder name = option_and_then (resolved folder) name

-- the path that the first arguments name by a form, of a process that is in this folder
abbrev pub path_at : Form → Option (List ℕ) → List ℕ → Option (List ℕ)
path_at Name folder arguments = named folder (quoted (first_argument arguments).0)
path_at At folder arguments =
    named (descriptor (first_argument arguments).0) (name_of (first_argument (first_argument arguments).1).0)
path_at Opened folder arguments = descriptor (first_argument arguments).0

-- what stands behind the arguments by which a form names a path
abbrev pub behind : Form → List ℕ → List ℕ
behind Name arguments = (first_argument arguments).1
behind At arguments = (first_argument (first_argument arguments).1).1
behind Opened arguments = (first_argument arguments).1
