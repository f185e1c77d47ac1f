use Rattle.terminal.proofs.Pieces.{drawn}
use Rattle.terminal.proofs.drawing.shown.Goals as goal

pub returns : goal.returns
returns c = drawn _ _ _ _ c.in_ok-bytes.ensures
