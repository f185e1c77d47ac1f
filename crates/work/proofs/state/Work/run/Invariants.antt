use Rattle.std.proofs.Common.{◌≡◌}
use Rattle.theory.specs.Seen.{Unrefused, StartsUnrefused}
use Rattle.judge.specs.Lasting.{AreMarked}
use Rattle.judge.specs.Summed.{AreSums}
use Rattle.work.specs.Answered.{AreAnswersOf}
use Rattle.work.specs.After.{ComesAfter, LooksUnlessMore}
use Rattle.work.specs.Going.{GoesOn, work_left}
use Rattle.work.proofs.state.Work.run.Given as goal

abbrev pub invariant-run : goal.invariant-run
invariant-run g l = record {
  unrefused : Unrefused (g.S.Texts.world l.fn.site) (g.S.Texts.world l.site);
  starts : StartsUnrefused (g.S.Texts.world l.fn.site) (g.S.Texts.world l.site);
  graph : l.self.graph ≡ l.fn.self.graph;
  known : AreAnswersOf l.self;
  summed : AreSums l.self.graph l.self.plan.changed.items l.self.looks.seen.items l.self.looks.sums;
  marked : AreMarked l.self.graph l.self.plan.changed.items l.self.looks.seen.items l.self.looks.sums;
  grows : ComesAfter g.S.Texts.tells (g.S.Texts.world l.fn.site) (g.S.Texts.world l.site);
  looked : LooksUnlessMore g.S.Texts.tells l.fn.self.graph (g.S.Texts.world l.fn.site) (g.S.Texts.world l.site) l.fn.self.looks l.self.looks;
  on : GoesOn g.S.Texts.tells g.S.Texts.world l.fn.site l.site l.fn.self.graph l.fn.self l.self;
}

abbrev pub decreases-run : goal.decreases-run
decreases-run g l = work_left l.self.plan.standings.items
