use Rattle.std.proofs.Common.{◌≡◌, ◌++◌, length}
use Rattle.log_text.specs.Line.{field_text}
use Rattle.log_text.proofs.field.push_field.Given as goal

-- what is written, and what is left to write
abbrev pub invariant-escapes : goal.invariant-escapes
invariant-escapes l = l.line.items ++ field_text l.rest ≡ l.initial.line.items ++ field_text l.text

abbrev pub decreases-escapes : goal.decreases-escapes
decreases-escapes l = length l.rest
