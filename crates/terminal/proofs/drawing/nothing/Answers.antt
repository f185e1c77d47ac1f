use Rattle.terminal.proofs.Pieces.{nothing}
use Rattle.terminal.proofs.drawing.nothing.Goals as goal

pub returns : goal.returns
returns c = λ rows. nothing rows _ c.new.ensures.items
