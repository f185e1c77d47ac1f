use Rattle.std.proofs.Common.{◌≡◌, take}
use Rattle.graph.specs.LoadedEdges.{numbers_in}
use Rattle.judge.specs.Answers.{KnowsOthers}
use Rattle.judge.proofs.answers.Answers.forget.Given as goal

abbrev pub invariant-loop-loaded : goal.invariant-loop-loaded
invariant-loop-loaded l = record {
  known : KnowsOthers (numbers_in (take l.loaded-index l.edges)) l.fn.self l.self;
  dues : l.self.dues ≡ l.fn.self.dues;
}
