-- Lists that get numbers at their end, and lose them again.
use Rattle.std.specs.Prelude.{◌≡◌, ℕ, ◌+◌, ◌-◌, List, [], ◌∷◌, ◌++◌, length, take, replicate}
use Rattle.paths.specs.Lists.{Extends}
use Rattle.graph.specs.Held.{list_at, times}

-- each list of before is a front of the list now
abbrev pub FrontsStay : List (List ℕ) → List (List ℕ) → Type 0
FrontsStay old new = (p : ℕ) → Extends (list_at old p) (list_at new p)

-- there are more lists, which are empty
abbrev pub HaveEmptyBehind : List (List ℕ) → List (List ℕ) → Type 0
HaveEmptyBehind old new = (count : ℕ) × (new ≡ old ++ replicate count [])

-- each list lost so many numbers at its end, or all where it had fewer
pub record AreCut (count : ℕ → ℕ) (old new : List (List ℕ)) : Type 0 where
  pub fits : length new ≡ length old
  pub each : (p : ℕ) → list_at new p ≡ take (length (list_at old p) - count p) (list_at old p)

-- how often the path is a recorded input of these edges
abbrev pub recorded_times : List (List ℕ) → List ℕ → ℕ → ℕ
recorded_times recorded [] p = 0
recorded_times recorded (e ∷ es) p = times (list_at recorded e) p + recorded_times recorded es p
