use Rattle.std.proofs.Common.{length}
use Rattle.std.specs.Prelude.{IsTrue}
use Rattle.text.specs.Marks.{Lacks}
use Rattle.log_text.proofs.Lines.{IsParted}
use Rattle.log_text.proofs.line.take_fields.Given as goal

abbrev pub invariant-parts : goal.invariant-parts
invariant-parts l = record { parted : IsParted l.initial.rest l.fields.items l.rest; line_feed : Lacks 10 l.rest; plain : IsTrue l.plain → Lacks 92 l.rest }

abbrev pub decreases-parts : goal.decreases-parts
decreases-parts l = length l.rest
