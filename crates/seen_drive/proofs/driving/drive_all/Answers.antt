use Rattle.std.proofs.Common.{◌+◌, Bool, false, List, [], drop, subst, sym, take, vec_capacity}
use Rattle.model.specs.declared.moves.Move.{Move}
use Rattle.work.specs.declared.report.Report.{Report}
use Rattle.seen_drive.specs.Moves.{AreDone, IsCarried}
use Rattle.seen_drive.specs.Visits.{StopsShort}
use Rattle.seen_drive.proofs.Going.{goes_on}
use Rattle.seen_drive.proofs.Loop.{done_at_first, room_at_first, room_behind, short_at, split_at, take_more}
use Rattle.seen_drive.proofs.Visited.{at_err, at_ok}
use Rattle.seen_drive.proofs.driving.drive_all.Goals as goal

pub loop-step-init : goal.loop-step-init
loop-step-init g c =
    let first = g.S.Texts.world c.args.site in (
      subst (λ (reports : List Report). AreDone g.S.Texts.tells c.args.options.now [] false reports first first) (sym c.requires.none)
          (done_at_first g.S.Texts.tells c.args.options.now first c.requires.idle),
      room_at_first c.args.moves.now c.args.reports.items (vec_capacity c.args.reports) c.requires.none c.requires.room,
    )

pub returns-in-Err-clause-cut : goal.returns-in-Err-clause-cut
returns-in-Err-clause-cut g c =
    let first = g.S.Texts.world c.args.site in
    let now = g.S.Texts.world c.loop-step.site in
    let mid = g.S.Texts.world c.start_again.new.site in
    let new = g.S.Texts.world c.carry_out-carried.result.1 in
    subst (λ (ms : List Move). StopsShort g.S.Texts.tells c.args.options.now ms first new)
    (split_at c.args.moves.now c.loop-step.step-index c.step-item.result c.loop-step-test.true c.step-item.is)
    (short_at g.S.Texts.tells c.args.options.now (take c.loop-step.step-index c.args.moves.now) (drop (c.loop-step.step-index + 1) c.args.moves.now)
    c.loop-step.again c.loop-step.reports.items first now mid new c.step-item.result c.loop-step.invariant.0 c.start_again.ensures
    (at_err c.carry_out-carried.result.0 c.in-Err.fault c.in-Err.is c.carry_out-carried.ensures.cut)
    (at_err c.carry_out-carried.result.0 c.in-Err.fault c.in-Err.is c.carry_out-carried.ensures.unrefused))

pub loop-step-preserved : goal.loop-step-preserved
loop-step-preserved g c =
    let first = g.S.Texts.world c.args.site in
    let now = g.S.Texts.world c.loop-step.site in
    let mid = g.S.Texts.world c.start_again.new.site in
    let new = g.S.Texts.world c.carry_out-carried.result.1 in
    let before = c.loop-step.reports.items in
    let after = c.carry_out-carried.new.reports.items in
    let carried = at_ok (λ (again : Bool). IsCarried g.S.Texts.tells c.args.options.now c.step-item.result again before after mid new)
    c.carry_out-carried.result.0 c.in-Ok.asks c.in-Ok.is c.carry_out-carried.ensures.carried in (
      subst (λ (ms : List Move). AreDone g.S.Texts.tells c.args.options.now ms c.in-Ok.asks after first new)
          (take_more c.args.moves.now c.loop-step.step-index c.step-item.result c.loop-step-test.true c.step-item.is)
          (goes_on g.S.Texts.tells c.args.options.now (take c.loop-step.step-index c.args.moves.now) c.loop-step.again before after first now mid new c.step-item.result c.in-Ok.asks c.loop-step.invariant.0 carried c.start_again.ensures),
      room_behind g.S.Texts.tells c.args.options.now c.args.moves.now c.loop-step.step-index c.step-item.result c.in-Ok.asks
          before after mid new (vec_capacity c.loop-step.reports) (vec_capacity c.carry_out-carried.new.reports)
          c.loop-step-test.true c.step-item.is c.loop-step.invariant.1 c.carry_out-carried.ensures.grows carried,
    )
