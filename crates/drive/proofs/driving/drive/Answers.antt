use Rattle.std.proofs.Common.{◌≡◌, inl, List, [], refl, sym, subst, length, take, take_all, drop, vec_capacity, ◌+◌, arith}
use Rattle.model.specs.declared.moves.Move.{Move}
use Rattle.builder.specs.Build.{limits_of}
use Rattle.work.specs.declared.report.Report.{Report}
use Rattle.drive.specs.Driven.{StopsShort}
use Rattle.drive.specs.Moves.{AreDone}
use Rattle.drive.proofs.Loop.{done_at_first, carried_on, idle_again, all_done, short_at, take_more, split_at, room_at_first, room_for_one, room_behind}
use Rattle.drive.proofs.Visited.{on_err}
use Rattle.drive.proofs.driving.drive.Goals as goal

pub returns-in_err-reports-clause-cut : goal.returns-in_err-reports-clause-cut
returns-in_err-reports-clause-cut g c = on_err c.from_residual.result (inl refl)

pub loop-step-init : goal.loop-step-init
loop-step-init g c = (
  subst (λ (reports : List Report). AreDone g.S.Texts.tells g.S.Site.outcome c.args.options.now.file (limits_of c.args.options.now) [] _ reports (g.S.Texts.world c.args.site.now) (g.S.Texts.world c.args.site.now))
      (sym c.in_ok-reports.ensures.items)
      (done_at_first g.S.Texts.tells g.S.Site.outcome c.args.options.now.file (limits_of c.args.options.now) (g.S.Texts.world c.args.site.now) c.requires),
  room_at_first c.args.moves.now c.in_ok-reports.reports.items c.count_builds.result (vec_capacity c.in_ok-reports.reports) c.in_ok-reports.ensures.items c.count_builds.ensures c.in_ok-reports.ensures.exact,
)

pub carry_out-requires-clause-idle : goal.carry_out-requires-clause-idle
carry_out-requires-clause-idle g c = idle_again g.S.Texts.tells g.S.Site.outcome c.args.options.now.file (limits_of c.args.options.now) c.loop-step.again (g.S.Texts.world c.loop-step.site) (g.S.Texts.world c.start_again.new.site)
    c.start_again.ensures c.loop-step.invariant.0.ended

pub carry_out-requires-clause-room : goal.carry_out-requires-clause-room
carry_out-requires-clause-room g c = room_for_one c.args.moves.now c.loop-step.step-index c.step-item.result (length c.loop-step.reports.items) (vec_capacity c.loop-step.reports) c.loop-step-test.true c.step-item.is c.loop-step.invariant.1

pub returns-in_err-again-clause-cut : goal.returns-in_err-again-clause-cut
returns-in_err-again-clause-cut g c = on_err c.from_residual-in_err-again.result
    (subst (λ (ms : List Move). StopsShort g.S.Texts.tells g.S.Site.outcome c.args.options.now.file (limits_of c.args.options.now) ms (g.S.Texts.world c.args.site.now) (g.S.Texts.world c.carry_out.new.site))
    (split_at c.args.moves.now c.loop-step.step-index c.step-item.result c.loop-step-test.true c.step-item.is)
    (short_at g.S.Texts.tells g.S.Site.outcome c.args.options.now.file (limits_of c.args.options.now) (take c.loop-step.step-index c.args.moves.now) (drop (c.loop-step.step-index + 1) c.args.moves.now)
    c.loop-step.again c.loop-step.reports.items (g.S.Texts.world c.args.site.now) (g.S.Texts.world c.loop-step.site) (g.S.Texts.world c.start_again.new.site) (g.S.Texts.world c.carry_out.new.site)
    c.step-item.result c.loop-step.invariant.0 c.start_again.ensures c.in_err-again.ensures.cut c.in_err-again.ensures.unrefused))

pub loop-step-preserved : goal.loop-step-preserved
loop-step-preserved g c = (
  subst (λ (ms : List Move). AreDone g.S.Texts.tells g.S.Site.outcome c.args.options.now.file (limits_of c.args.options.now) ms c.in_ok-again.again c.carry_out.new.reports.items (g.S.Texts.world c.args.site.now) (g.S.Texts.world c.carry_out.new.site))
      (take_more c.args.moves.now c.loop-step.step-index c.step-item.result c.loop-step-test.true c.step-item.is)
      (carried_on g.S.Texts.tells g.S.Site.outcome c.args.options.now.file (limits_of c.args.options.now) (take c.loop-step.step-index c.args.moves.now)
      c.loop-step.again c.loop-step.reports.items c.carry_out.new.reports.items (g.S.Texts.world c.args.site.now) (g.S.Texts.world c.loop-step.site) (g.S.Texts.world c.start_again.new.site) (g.S.Texts.world c.carry_out.new.site)
      c.step-item.result c.in_ok-again.again c.loop-step.invariant.0 c.start_again.ensures c.in_ok-again.ensures.carried),
  room_behind g.S.Texts.tells g.S.Site.outcome c.args.options.now.file (limits_of c.args.options.now) c.args.moves.now c.loop-step.step-index c.step-item.result c.in_ok-again.again
      c.loop-step.reports.items c.carry_out.new.reports.items (g.S.Texts.world c.start_again.new.site) (g.S.Texts.world c.carry_out.new.site) (vec_capacity c.loop-step.reports) (vec_capacity c.carry_out.new.reports)
      c.loop-step-test.true c.step-item.is c.loop-step.invariant.1 c.in_ok-again.ensures.grows c.in_ok-again.ensures.carried,
)

pub returns-clause-driven : goal.returns-clause-driven
returns-clause-driven g c = all_done g.S.Texts.tells g.S.Site.outcome c.args.options.now.file (limits_of c.args.options.now) c.args.moves.now c.loop-step.again c.loop-step.reports.items
    (g.S.Texts.world c.args.site.now) (g.S.Texts.world c.loop-step.site)
    (subst (λ (ms : List Move). AreDone g.S.Texts.tells g.S.Site.outcome c.args.options.now.file (limits_of c.args.options.now) ms c.loop-step.again c.loop-step.reports.items (g.S.Texts.world c.args.site.now) (g.S.Texts.world c.loop-step.site))
    all c.loop-step.invariant.0)
  where
    all : take c.loop-step.step-index c.args.moves.now ≡ c.args.moves.now
    all = take_all c.loop-step.step-index c.args.moves.now (let past = c.loop-step-test.false in omega (arith, past))
