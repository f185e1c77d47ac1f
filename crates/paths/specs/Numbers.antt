-- Paths and their numbers.
use Rattle.std.specs.Prelude.{◌≡◌, ℕ, ◌≤◌, ◌^◌, if◌then◌else◌, List, [], ◌∷◌, ◌++◌, map, length, slice_get, Some}
use Rattle.model.specs.Graph.{has}

-- the new list is the old one and, where that lacks the path, the path behind it; the number is the path's place
pub record IsAdded (old new : List (List ℕ)) (path : List ℕ) (number : ℕ) : Type 0 where
  pub grows : new ≡ (if has old path then old else old ++ path ∷ [])
  pub at : slice_get new number ≡ Some path

-- each path of the list stands in it once
abbrev pub HaveOnePlace : List (List ℕ) → Type 0
HaveOnePlace paths = (i j : ℕ) (path : List ℕ) → slice_get paths i ≡ Some path → slice_get paths j ≡ Some path → i ≡ j

-- the numbers stand for these texts, in order
abbrev pub AreNumbersOf : List (List ℕ) → List ℕ → List (List ℕ) → Type 0
AreNumbersOf paths numbers texts = map (slice_get paths) numbers ≡ map Some texts

-- the numbers of a table are below this
abbrev pub IsSmall : List (List ℕ) → Type 0
IsSmall paths = length paths ≤ 2 ^ 32
