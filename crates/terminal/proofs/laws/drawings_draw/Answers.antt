use Rattle.terminal.proofs.Pieces.{draws}
use Rattle.terminal.proofs.laws.drawings_draw.Goals as goal

pub returns : goal.returns
returns c = draws
