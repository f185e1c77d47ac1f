-- Which scratch files commands left, so that they may have stood there before another one began.
use Rattle.std.specs.Prelude.{ℕ, ◌&&◌, not, Bool, List, [], ◌∷◌, ◌++◌, if◌then◌else◌}
use Rattle.model.specs.Graph.{has}
use Rattle.audit.specs.declared.used.Use.{Use}
use Rattle.auditor.specs.declared.scratch.Scratch.{Scratch}
use Rattle.auditor.specs.Scratch.{is_scratch}

abbrev pub with_path : List (List ℕ) → List ℕ → List (List ℕ)
with_path left path = if has left path then left else left ++ path ∷ []

-- the command of which this was seen at a path wrote a scratch file there, and left it
abbrev pub leaves : Scratch → List ℕ → Use → Bool
leaves scratch path used = is_scratch scratch path && (used.writes && not used.gone)

abbrev pub with_one : Scratch → List (List ℕ) → List ℕ → Use → List (List ℕ)
with_one scratch left path used = if leaves scratch path used then with_path left path else left

-- these beside those that were left before
abbrev pub with_left : Scratch → List (List ℕ) → List (List ℕ) → List Use → List (List ℕ)
with_left scratch left [] uses = left
with_left scratch left (path ∷ paths) [] = left
with_left scratch left (path ∷ paths) (used ∷ uses) = with_left scratch (with_one scratch left path used) paths uses
