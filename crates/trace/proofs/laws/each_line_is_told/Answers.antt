use Rattle.trace.proofs.Keeping.{each_line}
use Rattle.trace.proofs.laws.each_line_is_told.Goals as goal

pub returns : goal.returns
returns c = each_line
