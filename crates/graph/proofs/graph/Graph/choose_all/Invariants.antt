use Rattle.std.proofs.Common.{◌≡◌, map}
use Rattle.paths.specs.Told.{text_at}
use Rattle.graph.specs.Chosen.{chosen_edges, choice_in}
use Rattle.graph.specs.Told.{declared_by}
use Rattle.graph.specs.Extended.{addition_of}
use Rattle.graph.specs.Statements.{owners_of, AreChoices, IsBadBelow}
use Rattle.graph.proofs.graph.Graph.choose_all.Given as goal

abbrev pub invariant-loop-place : goal.invariant-loop-place
invariant-loop-place l = record {
  edges : chosen_edges l.chosen ≡ chosen_edges l.initial.chosen;
  choices : AreChoices (owners_of (declared_by l.self).edges (text_at l.self.manifest.paths l.file) (map addition_of l.additions)) l.place (choice_in l.chosen);
  bad : IsBadBelow (owners_of (declared_by l.self).edges (text_at l.self.manifest.paths l.file) (map addition_of l.additions)) l.place l.unfit;
}
