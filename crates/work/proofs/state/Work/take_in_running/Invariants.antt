use Rattle.std.proofs.Common.{◌≡◌, false}
use Rattle.theory.specs.Seen.{Unrefused, StartsUnrefused}
use Rattle.work.specs.After.{ComesAfter, LooksUnlessMore}
use Rattle.work.specs.Going.{StandsOn, work_left}
use Rattle.work.proofs.state.Work.take_in_running.Given as goal

abbrev pub invariant-run : goal.invariant-run
invariant-run g l = record {
  unrefused : Unrefused (g.S.Texts.world l.fn.site) (g.S.Texts.world l.site);
  starts : StartsUnrefused (g.S.Texts.world l.fn.site) (g.S.Texts.world l.site);
  grows : ComesAfter g.S.Texts.tells (g.S.Texts.world l.fn.site) (g.S.Texts.world l.site);
  graph : l.self.graph ≡ l.fn.self.graph;
  looked : LooksUnlessMore g.S.Texts.tells l.fn.self.graph (g.S.Texts.world l.fn.site) (g.S.Texts.world l.site) l.fn.self.looks l.self.looks;
  on : StandsOn g.S.Texts.tells false l.fn.self.graph (g.S.Texts.world l.fn.site) (g.S.Texts.world l.site) l.fn.self l.self;
}

abbrev pub decreases-run : goal.decreases-run
decreases-run g l = work_left l.self.plan.standings.items
