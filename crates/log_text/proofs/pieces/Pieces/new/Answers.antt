use Rattle.std.proofs.Common.{[], sym, subst}
use Rattle.text.specs.Marks.{Lacks}
use Rattle.log_text.proofs.pieces.Pieces.new.Goals as goal

pub returns : goal.returns
returns g c = record { lines = []; parts = sym c.new-2.ensures.items; lacks = subst (Lacks 10) (sym c.new-2.ensures.items) tt; told = c.new.ensures }
