-- What a build is asked for.
use Rattle.std.specs.Prelude.{◌≡◌, ◌⊎◌, ℕ, if◌then◌else◌, List, [], ◌∷◌, bytes_eq}
use Rattle.std.specs.List.{AllZip}
use Rattle.lexer.specs.Path.{IsCanonical}

-- the canonical path of a text; the empty text, which has none, stands for itself
abbrev pub IsPathOf : List ℕ → List ℕ → Type 0
IsPathOf text path = ((text ≡ []) × (path ≡ [])) ⊎ IsCanonical text path

-- of each target, in order
abbrev pub AreTargets : List (List ℕ) → List (List ℕ) → Type 0
AreTargets texts paths = AllZip IsPathOf texts paths

-- the path `.` of the working folder
abbrev pub dot : List ℕ
dot = 46 ∷ []

-- the folder of the program's own files: the canonical path of `builddir`; the empty path for the working folder, which it is
-- where `builddir` is empty, too
abbrev pub IsFolder : List ℕ → List ℕ → Type 0
IsFolder builddir folder = (path : List ℕ) × IsPathOf builddir path × (folder ≡ (if bytes_eq path dot then [] else path))
