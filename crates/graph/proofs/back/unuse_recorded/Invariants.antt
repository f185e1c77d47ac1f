use Rattle.std.proofs.Common.{take}
use Rattle.graph.specs.Fronts.{AreCut, recorded_times}
use Rattle.graph.specs.LoadedEdges.{numbers_in}
use Rattle.graph.proofs.back.unuse_recorded.Given as goal

abbrev pub invariant-loop-loaded : goal.invariant-loop-loaded
invariant-loop-loaded l = AreCut (recorded_times l.recorded (numbers_in (take l.loaded-index l.edges))) l.fn.users l.users
