use Rattle.std.proofs.Common.{List}
use Rattle.model.specs.declared.graph.Edge.{Edge}
use Rattle.model.specs.Phases.{Phase}
use Rattle.graph.specs.Told.{declared_by}
use Rattle.work.specs.Answered.{AreAnswersOf}
use Rattle.work.specs.Course.{Course}
use Rattle.work.specs.Standing.{BeginsAt, GoesWell, files_left}
use Rattle.work.proofs.state.Work.run_and_load.Given as goal

abbrev pub invariant-run : goal.invariant-run
invariant-run g l = record {
  known : AreAnswersOf l.self;
  well : GoesWell (g.S.Texts.world l.fn.site) (g.S.Texts.world l.site);
  begins : (course : Course) (edges : List Edge) (phases : List Phase) → BeginsAt g.S.Texts.tells course edges phases l.fn.self.graph l.fn.self (g.S.Texts.world l.fn.site)
      → (many : List Edge) × (more : List Phase) × BeginsAt g.S.Texts.tells course many more l.self.graph l.self (g.S.Texts.world l.site);
}

abbrev pub decreases-run : goal.decreases-run
decreases-run g l = files_left (declared_by l.self.graph).edges
