use Rattle.std.proofs.Common.{◌<◌, length, take}
use Rattle.std.specs.List.{AllByRecursion}
use Rattle.paths.specs.Told.{texts_at}
use Rattle.graph.specs.Linked.{AreMakersOf}
use Rattle.graph.specs.Told.{declared_by}
use Rattle.graph.proofs.graph.Graph.makers_of.Given as goal

abbrev pub invariant-loop-target : goal.invariant-loop-target
invariant-loop-target l = record {
  within : AllByRecursion (λ e. e < length l.self.manifest.lines) l.edges.items;
  makers : AreMakersOf (declared_by l.self).edges (texts_at l.self.manifest.paths (take l.target-index l.targets)) l.edges.items;
}
