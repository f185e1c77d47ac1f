-- The variables that commands get.
use Rattle.std.specs.Prelude.{◌≡◌, ℕ, List, [], ◌∷◌, ◌++◌}
use Rattle.os.specs.Paths.{HasNoNul}

-- texts one after another, each ended by a NUL
abbrev pub ended : List (List ℕ) → List ℕ
ended [] = []
ended (text ∷ texts) = (text ++ 0 ∷ []) ++ ended texts

abbrev pub AreWhole : List (List ℕ) → Type 0
AreWhole [] = Unit {0}
AreWhole (text ∷ texts) = HasNoNul text × AreWhole texts

-- some texts without a NUL, each ended by one
pub record IsBlock (block : List ℕ) : Type 0 where
  pub texts : List (List ℕ)
  pub whole : AreWhole texts
  pub is : block ≡ ended texts
