use Rattle.std.proofs.Common.{length}
use Rattle.text.specs.Marks.{Lacks}
use Rattle.log_text.proofs.Escapes.{IsRead}
use Rattle.log_text.proofs.field.unescaped_of.Given as goal

abbrev pub invariant-escapes : goal.invariant-escapes
invariant-escapes l = record { read : IsRead l.field l.text.items l.rest; tab : Lacks 9 l.rest; line_feed : Lacks 10 l.rest }

abbrev pub decreases-escapes : goal.decreases-escapes
decreases-escapes l = length l.rest
