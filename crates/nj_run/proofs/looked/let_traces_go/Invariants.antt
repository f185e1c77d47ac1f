use Rattle.host.specs.World.{world_of}
use Rattle.nj_run.specs.Looked.{StartsNothing}
use Rattle.nj_run.proofs.looked.let_traces_go.Given as goal

abbrev pub invariant-loop-end : goal.invariant-loop-end
invariant-loop-end g l = StartsNothing (world_of l.fn.host) (world_of l.host)
