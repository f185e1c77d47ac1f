use Rattle.std.proofs.Common.{List, ◌++◌, length}
use Rattle.status.specs.declared.part.Part.{Part}
use Rattle.status.specs.Pattern.{IsPatternOf}
use Rattle.status.proofs.pattern.Pattern.parse.Given as goal

-- with the parts of what is left, the parts are those of the text
abbrev pub invariant-parts : goal.invariant-parts
invariant-parts l = (more : List Part) → IsPatternOf l.rest more → IsPatternOf l.initial.rest (l.parts.items ++ more)

abbrev pub decreases-parts : goal.decreases-parts
decreases-parts l = length l.rest
