use Rattle.sim.specs.World.{world_of}
use Rattle.meanwhile.specs.Files.{OnlyFiles}
use Rattle.meanwhile.proofs.busy.erase_often.Given as goal

abbrev pub invariant-loop : goal.invariant-loop
invariant-loop l = OnlyFiles (world_of l.fn.site) (world_of l.site)
