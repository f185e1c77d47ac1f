-- Which texts stay, and which lines pass. The definitions are this project's own.
use Rattle.std.specs.Prelude.{◌≡◌, ◌≢◌, ◌⊎◌, ℕ, ◌<◌, List, [], ◌∷◌, ◌++◌, codes, length, slice_index}

-- the text is this line with its end, and no other line
pub record IsLine (text line : List ℕ) : Type 0 where
  pub ended : text ≡ line ++ 10 ∷ []
  pub one : (k : ℕ) → k < length line → slice_index line k ≢ 10

-- the word by which a failure begins, as it stands in a text, and in red
abbrev pub failed : List ℕ
failed = codes "FAILED:"

abbrev pub failed_red : List ℕ
failed_red = (27 ∷ codes "[31m") ++ failed ++ 27 ∷ codes "[0m"

-- that word stands once in the text, and in red in the other one, which is the same else
pub record IsRed (text coloured : List ℕ) : Type 0 where
  pub front : List ℕ
  pub rest : List ℕ
  pub was : text ≡ front ++ failed ++ rest
  pub is : coloured ≡ front ++ failed_red ++ rest

-- the same text, or with that word in red at one place
abbrev pub IsColoured : List ℕ → List ℕ → Type 0
IsColoured text coloured = (coloured ≡ text) ⊎ IsRed text coloured
