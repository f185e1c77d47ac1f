use Rattle.std.proofs.Common.{[]}
use Rattle.ninja_asked.proofs.written.no_notes.Goals as goal

pub returns : goal.returns
returns c = ([], c.new.ensures)
