use Rattle.std.proofs.Common.{◌≡◌, ◌<◌, true, take, length}
use Rattle.std.specs.List.{AllByRecursion}
use Rattle.model.specs.Graph.{is_named}
use Rattle.paths.specs.Told.{texts_at}
use Rattle.graph.specs.Told.{declared_by}
use Rattle.graph.proofs.graph.Graph.numbers_of.Given as goal

abbrev pub invariant-loop-place : goal.invariant-loop-place
invariant-loop-place l = record {
  within : AllByRecursion (λ p. p < length l.self.manifest.paths) l.numbers.items;
  texts : texts_at l.self.manifest.paths l.numbers.items ≡ take l.place l.asked;
  named : AllByRecursion (λ p. is_named (declared_by l.self).edges p ≡ true) (take l.place l.asked);
}
