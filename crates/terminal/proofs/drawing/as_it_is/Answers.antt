use Rattle.terminal.proofs.Pieces.{as_it_is}
use Rattle.terminal.proofs.drawing.as_it_is.Goals as goal

pub returns : goal.returns
returns c = as_it_is _ _ c.in_ok-bytes.ensures.items
