-- What is below a folder that was given another path.
use Rattle.std.specs.Prelude.{ℕ, ◌+◌, ◌==◌, ◌&&◌, Bool, false, List, [], ◌∷◌, ◌++◌, Option, Some, None, if◌then◌else◌, codes, drop, length, nat_eq, slice_get}
use Rattle.std.specs.List.{starts_with}
use Rattle.audit.specs.declared.below.Carried.{Carried}

abbrev pub is_slash : Option ℕ → Bool
is_slash None = false
is_slash (Some byte) = byte == 47

-- the path begins with the folder and a slash
unfoldable pub is_below : List ℕ → List ℕ → Bool
is_below folder path = starts_with nat_eq path folder && is_slash (slice_get path (length folder))

-- what stands behind these, where the path is below the folder
abbrev pub behind : List ℕ → List ℕ → Option (List ℕ)
behind folder path = if is_below folder path then Some (drop (length folder + 1) path) else None

-- the path, and what it is called where its folder is this one
abbrev pub renamed : List ℕ → List ℕ → List ℕ → Carried
renamed to path rest = record { from = path; to = (to ++ codes "/") ++ rest }

abbrev pub one_below : List ℕ → List ℕ → Option (List ℕ) → List Carried
one_below to path None = []
one_below to path (Some rest) = renamed to path rest ∷ []

abbrev pub with_one : List ℕ → List ℕ → List ℕ → List Carried
with_one from to path = one_below to path (behind from path)

-- those of these paths that are below the first folder, with what they are called where that is the second one
abbrev pub below : List ℕ → List ℕ → List (List ℕ) → List Carried
below from to [] = []
below from to (path ∷ paths) = with_one from to path ++ below from to paths
