use Rattle.std.proofs.Common.{sym, ap}
use Rattle.stand_in.specs.Moves.{outcome_in}
use Rattle.stand_in.proofs.build.told_old.Goals as goal

pub returns-in-Ok : goal.returns-in-Ok
returns-in-Ok c = ap outcome_in (sym c.in-Ok.is)

pub returns-in-Err : goal.returns-in-Err
returns-in-Err c = ap outcome_in (sym c.in-Err.is)
