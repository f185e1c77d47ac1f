-- What stands in front of each line (manual, "Environment variables": `NINJA_STATUS`; the fields are those of ninja 1.12).
use Rattle.std.specs.Prelude.{◌≡◌, ℕ, List, [], ◌∷◌, flat_map, nat_eq, if◌then◌else◌}
use Rattle.ninja_words.specs.declared.heading.Field.{Field}
use Rattle.ninja_words.specs.declared.heading.Field.TheVariants as f
use Rattle.ninja_words.specs.declared.heading.Part.{Part}
use Rattle.ninja_words.specs.declared.heading.Part.TheVariants.{Plain, Field as Shown}

abbrev pub letter : Field → ℕ
letter f.Started = 115
letter f.Total = 116
letter f.Running = 114
letter f.Unstarted = 117
letter f.Finished = 102
letter f.Percentage = 112
letter f.Rate = 111
letter f.RecentRate = 99
letter f.Elapsed = 101
letter f.ElapsedClock = 119
letter f.Left = 69
letter f.LeftClock = 87
letter f.TimePercentage = 80

-- how a part is written: a percent sign is 37, and two of them stand for one
abbrev pub spelled : Part → List ℕ
spelled (Plain byte) = if nat_eq byte 37 then 37 ∷ 37 ∷ [] else byte ∷ []
spelled (Shown field) = 37 ∷ letter field ∷ []

abbrev pub IsHeadingOf : List ℕ → List Part → Type 0
IsHeadingOf text parts = text ≡ flat_map spelled parts
