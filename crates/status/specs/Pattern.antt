-- What the text of a status pattern says (manual, "Environment variables": NINJA_STATUS).
use Rattle.std.specs.Prelude.{◌≡◌, ℕ, List, [], ◌∷◌, ◌++◌}
use Rattle.std.specs.List.{flat_map}
use Rattle.status.specs.declared.part.Placeholder.{Placeholder}
use Rattle.status.specs.declared.part.Placeholder.TheVariants.{Started, Total, Percentage, Running, Unstarted, Finished, Sign}
use Rattle.status.specs.declared.part.Part.{Part}
use Rattle.status.specs.declared.part.Part.TheVariants.{Plain, Shown}

-- the character behind the percent sign: `s`, `t`, `p`, `r`, `u`, `f` and the percent sign
abbrev pub letter : Placeholder → ℕ
letter Started = 115
letter Total = 116
letter Percentage = 112
letter Running = 114
letter Unstarted = 117
letter Finished = 102
letter Sign = 37

-- how a part is written
abbrev pub spelling : Part → List ℕ
spelling (Plain byte) = byte ∷ []
spelling (Shown placeholder) = 37 ∷ letter placeholder ∷ []

-- the parts, written one behind the other
abbrev pub spelled : List Part → List ℕ
spelled parts = flat_map spelling parts

abbrev pub BeginsWithPlaceholder : List ℕ → Type 0
BeginsWithPlaceholder text = (placeholder : Placeholder) × (rest : List ℕ) × (text ≡ spelling (Shown placeholder) ++ rest)

-- a byte stands as it is only where no placeholder begins; so does a percent sign before any other character
abbrev pub NoneIsMissed : List Part → Type 0
NoneIsMissed [] = Unit {0}
NoneIsMissed (Plain byte ∷ parts) = (¬ BeginsWithPlaceholder (byte ∷ spelled parts)) × NoneIsMissed parts
NoneIsMissed (Shown placeholder ∷ parts) = NoneIsMissed parts

-- these are the parts of the pattern of this text
pub record IsPatternOf (text : List ℕ) (parts : List Part) : Type 0 where
  pub written : text ≡ spelled parts
  pub none_is_missed : NoneIsMissed parts

-- a text is read in one way only
abbrev pub OnePattern : Type 0
OnePattern = (text : List ℕ) (one other : List Part) → IsPatternOf text one → IsPatternOf text other → one ≡ other
