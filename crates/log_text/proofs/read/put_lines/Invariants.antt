use Rattle.std.proofs.Common.{length, List}
use Rattle.log_text.specs.Keeping.{KeepsMore}
use Rattle.log_text.proofs.Reading.{AreRead}
use Rattle.log_text.proofs.read.put_lines.Given as goal

abbrev pub invariant-lines : goal.invariant-lines
invariant-lines g l = (records : List g.row.L-Record.Denot) × AreRead (g.L.Records.forms l.version) l.lines records l.rest × KeepsMore g.L.Records.Keeps records l.initial.log l.log

abbrev pub decreases-lines : goal.decreases-lines
decreases-lines g l = length l.rest
