-- A status line (manual, "Environment variables": NINJA_STATUS), and the text behind the status (manual, "Rule variables":
-- description).
use Rattle.std.specs.Prelude.{ℕ, ◌+◌, ◌-◌, ◌*◌, ◌/◌, List, [], ◌∷◌, ◌++◌, length, replicate, decimal, Bool, ◌||◌, ◌==◌, if◌then◌else◌}
use Rattle.std.specs.List.{flat_map}
use Rattle.status.specs.declared.counts.Counts.{Counts}
use Rattle.status.specs.declared.part.Placeholder.{Placeholder}
use Rattle.status.specs.declared.part.Placeholder.TheVariants.{Started, Total, Percentage, Running, Unstarted, Finished, Sign}
use Rattle.status.specs.declared.part.Part.{Part}
use Rattle.status.specs.declared.part.Part.TheVariants.{Plain, Shown}

-- how many of a hundred have finished, rounded down
abbrev pub percentage : Counts → ℕ
percentage counts = counts.finished * 100 / counts.total

-- right-aligned in three places, by blanks
abbrev pub in_three_places : List ℕ → List ℕ
in_three_places digits = replicate (3 - length digits) 32 ++ digits

-- what stands in the place of a placeholder
abbrev pub value_of : Counts → Placeholder → List ℕ
value_of counts Started = decimal counts.started
value_of counts Total = decimal counts.total
value_of counts Percentage = in_three_places (decimal (percentage counts)) ++ 37 ∷ []
value_of counts Running = decimal counts.running
value_of counts Unstarted = decimal (counts.total - counts.started)
value_of counts Finished = decimal counts.finished
value_of counts Sign = 37 ∷ []

-- what is shown of a part of a pattern
abbrev pub shown : Counts → Part → List ℕ
shown counts (Plain byte) = byte ∷ []
shown counts (Shown placeholder) = value_of counts placeholder

-- the line, with its newline: the pattern with all values, and the text
abbrev pub line_text : List Part → Counts → List ℕ → List ℕ
line_text pattern counts text = flat_map (shown counts) pattern ++ text ++ 10 ∷ []

-- what a line says of a command: its description, or the command itself where that is empty or commands are asked for
abbrev pub said_of : Bool → List ℕ → List ℕ → List ℕ
said_of verbose description command = if verbose || length description == 0 then command else description
