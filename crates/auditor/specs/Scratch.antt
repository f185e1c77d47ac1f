-- Which files are scratch files: those below a folder for them, but for what is known.
use Rattle.std.specs.Prelude.{◌≡◌, ℕ, ◌&&◌, not, Bool, false, List, ◌++◌, map, Option, Some, None, if◌then◌else◌, codes, nat_eq, bytes_eq}
use Rattle.std.specs.List.{starts_with}
use Rattle.model.specs.Graph.{has}
use Rattle.audit.specs.Seen.{IsWhole}
use Rattle.audit.specs.declared.place.Around.{Around}
use Rattle.auditor.specs.declared.scratch.Scratch.{Scratch}

-- what paths below a folder begin with
abbrev pub front_of : List ℕ → List ℕ
front_of folder = if bytes_eq folder (codes "/") then folder else folder ++ codes "/"

-- the path is below the folder, and not the folder itself
abbrev pub is_below : List ℕ → List ℕ → Bool
is_below folder path = not (bytes_eq path folder) && starts_with nat_eq path (front_of folder)

-- what paths below this folder begin with, where it is below the working one
abbrev pub front_below : List ℕ → List ℕ → Option (List ℕ)
front_below working folder = if is_below working folder then Some (front_of folder) else None

-- the same of a folder that is named from the working one, or from the root
abbrev pub IsFrontIn : List ℕ → List ℕ → Option (List ℕ) → Type 0
IsFrontIn working folder front = (whole : List ℕ) × IsWhole working folder whole × (front ≡ front_below working whole)

-- the path begins with this front, if there is one
abbrev pub is_in : Option (List ℕ) → List ℕ → Bool
is_in None path = false
is_in (Some front) path = starts_with nat_eq path front

abbrev pub is_scratch : Scratch → List ℕ → Bool
is_scratch scratch path = is_in scratch.front path && not (has scratch.known path)

-- of each of these paths it is told whether it is a scratch file, and whether it may have stood there before
abbrev pub scratches_of : List Around → List Bool
scratches_of arounds = map (λ (around : Around). around.scratch) arounds

abbrev pub lefts_of : List Around → List Bool
lefts_of arounds = map (λ (around : Around). around.left) arounds

pub record AreAround (scratch : Scratch) (left : List (List ℕ)) (paths : List (List ℕ)) (arounds : List Around) : Type 0 where
  pub scratches : scratches_of arounds ≡ map (is_scratch scratch) paths
  pub lefts : lefts_of arounds ≡ map (has left) paths
