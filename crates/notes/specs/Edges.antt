-- Who makes a path, in numbers.
use Rattle.std.specs.Prelude.{◌≡◌, ℕ, ◌<◌, true, false, All, List, length, Option, IfSome}
use Rattle.model.specs.Graph.{has_number}
use Rattle.paths.specs.Lists.{line_at, line_outputs}
use Rattle.paths.specs.declared.manifest.Manifest.{Manifest}

-- the edge makes the path
pub record IsMaker (manifest : Manifest) (path edge : ℕ) : Type 0 where
  pub within : edge < length manifest.lines
  pub makes : has_number (line_outputs (line_at manifest.lines edge)) path ≡ true

-- no edge makes the path
abbrev pub IsUnmade : Manifest → ℕ → Type 0
IsUnmade manifest path = (e : ℕ) → e < length manifest.lines → has_number (line_outputs (line_at manifest.lines e)) path ≡ false

-- for each path one of these edges, or none
abbrev pub AreEdgesOf : Manifest → List (Option ℕ) → Type 0
AreEdgesOf manifest makers = All (λ found. IfSome found (λ edge. edge < length manifest.lines)) makers
