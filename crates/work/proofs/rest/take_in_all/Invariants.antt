use Rattle.std.proofs.Common.{◌≡◌, ℕ, List, Option}
use Rattle.model.specs.Schedule.{Step as Done}
use Rattle.theory.specs.Seen.{Unrefused}
use Rattle.theory.specs.Ledger.{IsCutOff}
use Rattle.work.specs.After.{ComesAfter}
use Rattle.work.specs.Course.{Course}
use Rattle.work.specs.Cutting.{SoManyRun}
use Rattle.work.proofs.rest.take_in_all.Given as goal

abbrev pub invariant-rest : goal.invariant-rest
invariant-rest g l = record {
  many : SoManyRun l.left (g.S.Texts.world l.site).events;
  unrefused : Unrefused (g.S.Texts.world l.fn.site) (g.S.Texts.world l.site);
  grows : ComesAfter g.S.Texts.tells (g.S.Texts.world l.fn.site) (g.S.Texts.world l.site);
  at_start : (g.S.Texts.world l.site).failures_at_start ≡ (g.S.Texts.world l.fn.site).failures_at_start;
  rest : (course : Course) (steps : List Done) (met : Option ℕ) → IsCutOff g.S.Texts.tells course.behaviour course.format course.own course.asked course.store course.phases steps met course.entry (g.S.Texts.world l.fn.site)
      → IsCutOff g.S.Texts.tells course.behaviour course.format course.own course.asked course.store course.phases steps met course.entry (g.S.Texts.world l.site);
}

abbrev pub decreases-rest : goal.decreases-rest
decreases-rest g l = l.left
