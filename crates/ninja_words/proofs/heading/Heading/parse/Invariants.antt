use Rattle.std.proofs.Common.{◌≡◌, ◌++◌, flat_map, length}
use Rattle.ninja_words.specs.Heading.{spelled}
use Rattle.ninja_words.proofs.heading.Heading.parse.Given as goal

abbrev pub invariant-parts : goal.invariant-parts
invariant-parts l = l.text ≡ flat_map spelled l.parts.items ++ l.rest

abbrev pub decreases-parts : goal.decreases-parts
decreases-parts l = length l.rest
