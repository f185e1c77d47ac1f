use Rattle.host.specs.World.{world_of}
use Rattle.nj_run.specs.Looked.{StartsNothing}
use Rattle.nj_run.proofs.anew.graph_of.Given as goal

abbrev pub invariant-loop-place : goal.invariant-loop-place
invariant-loop-place g l = StartsNothing (world_of l.fn.host) (world_of l.host)
