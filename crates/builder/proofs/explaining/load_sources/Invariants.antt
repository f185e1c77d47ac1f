use Rattle.std.proofs.Common.{◌≡◌, false, List}
use Rattle.model.specs.declared.graph.Edge.{Edge}
use Rattle.model.specs.Calls.{OnlyLooks}
use Rattle.model.specs.Phases.{Phase}
use Rattle.graph.specs.Told.{declared_by}
use Rattle.work.specs.Answered.{AreAnswersOf}
use Rattle.work.specs.Course.{Course}
use Rattle.work.specs.Standing.{BeginsAt, files_left}
use Rattle.builder.proofs.explaining.load_sources.Given as goal

abbrev pub invariant-sources : goal.invariant-sources
invariant-sources g l = record {
  known : AreAnswersOf l.state;
  looks : OnlyLooks g.S.Texts.tells (g.S.Texts.world l.fn.site) (g.S.Texts.world l.site);
  running : (g.S.Texts.world l.site).stopped ≡ false;
  begins : (course : Course) (edges : List Edge) (phases : List Phase) → BeginsAt g.S.Texts.tells course edges phases l.fn.state.graph l.fn.state (g.S.Texts.world l.fn.site)
      → (many : List Edge) × (more : List Phase) × BeginsAt g.S.Texts.tells course many more l.state.graph l.state (g.S.Texts.world l.site);
}

abbrev pub decreases-sources : goal.decreases-sources
decreases-sources g l = files_left (declared_by l.state.graph).edges
