use Rattle.graph.proofs.Keeping.{cone_stays}
use Rattle.graph.proofs.placed.cones_stay.Goals as goal

pub returns : goal.returns
returns c = cone_stays
