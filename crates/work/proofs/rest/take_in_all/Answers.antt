use Rattle.std.proofs.Common.{Some, ◌∙◌, ap}
use Rattle.theory.proofs.SiteCalls.{unrefused_call, unrefused_then}
use Rattle.theory.proofs.Ledger.{cut_looks, cut_finishes}
use Rattle.work.proofs.Counting.{some_of_many, many_less}
use Rattle.work.proofs.Cutting.{some_still}
use Rattle.work.proofs.Results.{on_err}
use Rattle.work.proofs.After.{after_then, after_finish, after_looks}
use Rattle.work.proofs.rest.take_in_all.Goals as goal

pub wait_any-requires : goal.wait_any-requires
wait_any-requires g c = some_of_many c.rest.left (g.S.Texts.world c.rest.site).events c.rest.invariant.many c.rest-test.true

pub returns-in_err-wait_any-clause-runs : goal.returns-in_err-wait_any-clause-runs
returns-in_err-wait_any-clause-runs g c = on_err c.from_residual.result
    (some_still g.S.Texts.tells (g.S.Texts.world c.rest.site) (g.S.Texts.world c.wait_any.new.self)
    (some_of_many c.rest.left (g.S.Texts.world c.rest.site).events c.rest.invariant.many c.rest-test.true) c.in_err-wait_any.ensures.err)

pub returns-in_err-wait_any-clause-noted : goal.returns-in_err-wait_any-clause-noted
returns-in_err-wait_any-clause-noted g c = on_err c.from_residual.result (c.in_err-wait_any.ensures.waits c.rest.invariant.unrefused.goes_on ∙ ap Some c.rest.invariant.unrefused.failures)

pub returns-in_err-wait_any-clause-rest : goal.returns-in_err-wait_any-clause-rest
returns-in_err-wait_any-clause-rest g c course steps met cut =
    cut_looks g.S.Texts.tells course.behaviour course.format course.own course.asked course.store course.entry course.phases steps met (g.S.Texts.world c.rest.site) (g.S.Texts.world c.wait_any.new.self) c.in_err-wait_any.ensures.err
    (c.rest.invariant.rest course steps met cut)

pub rest-preserved : goal.rest-preserved
rest-preserved g c = record {
  many = many_less g.S.Texts.tells c.rest.left (g.S.Texts.world c.rest.site) (g.S.Texts.world c.wait_any.new.self) c.in_ok-wait_any.field-0.job c.in_ok-wait_any.field-0.ok c.rest.invariant.many c.in_ok-wait_any.ensures.finishes;
  unrefused = unrefused_then (g.S.Texts.world c.args.site.now) (g.S.Texts.world c.rest.site) (g.S.Texts.world c.wait_any.new.self) c.rest.invariant.unrefused (unrefused_call (g.S.Texts.world c.rest.site) (g.S.Texts.world c.wait_any.new.self) _ c.in_ok-wait_any.ensures.cause);
  grows = after_then g.S.Texts.tells (g.S.Texts.world c.args.site.now) (g.S.Texts.world c.rest.site) (g.S.Texts.world c.wait_any.new.self) c.rest.invariant.grows (after_finish g.S.Texts.tells c.in_ok-wait_any.field-0.job c.in_ok-wait_any.field-0.ok (g.S.Texts.world c.rest.site) (g.S.Texts.world c.wait_any.new.self) c.in_ok-wait_any.ensures.finishes);
  at_start = c.in_ok-wait_any.ensures.finishes.at_start ∙ c.rest.invariant.at_start;
  rest = λ course steps met cut.
      cut_finishes g.S.Texts.tells course.behaviour course.format course.own course.asked course.store course.entry course.phases steps met (g.S.Texts.world c.rest.site) (g.S.Texts.world c.wait_any.new.self) c.in_ok-wait_any.field-0.job c.in_ok-wait_any.field-0.ok c.in_ok-wait_any.ensures.finishes
      (c.rest.invariant.rest course steps met cut);
}

pub returns-in_err-wait_any-clause-grows : goal.returns-in_err-wait_any-clause-grows
returns-in_err-wait_any-clause-grows g c = after_then g.S.Texts.tells (g.S.Texts.world c.args.site.now) (g.S.Texts.world c.rest.site) (g.S.Texts.world c.wait_any.new.self) c.rest.invariant.grows (after_looks g.S.Texts.tells (g.S.Texts.world c.rest.site) (g.S.Texts.world c.wait_any.new.self) c.in_err-wait_any.ensures.err)
