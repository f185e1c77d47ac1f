-- `../` in front of a path.
use Rattle.std.specs.Prelude.{ℕ, Bool, List, [], ◌∷◌, ◌==◌, ◌&&◌, cond, Option, None, Some}

abbrev pub is_up : ℕ → ℕ → ℕ → Bool
is_up a b c = a == 46 && (b == 46 && c == 47)

-- what stands behind `../`, if it stands here
abbrev pub behind_parent : List ℕ → Option (List ℕ)
behind_parent [] = None
behind_parent (a ∷ []) = None
behind_parent (a ∷ b ∷ []) = None
behind_parent (a ∷ b ∷ c ∷ bytes) = cond (is_up a b c) (Some bytes) None

-- what stands behind all of them
abbrev pub behind_parents : List ℕ → List ℕ
behind_parents [] = []
behind_parents (a ∷ []) = a ∷ []
behind_parents (a ∷ b ∷ []) = a ∷ b ∷ []
behind_parents (a ∷ b ∷ c ∷ bytes) = cond (is_up a b c) (behind_parents bytes) (a ∷ b ∷ c ∷ bytes)
