use Rattle.notes.specs.Ahead.{is_made_later}
use Rattle.notes.proofs.Placing.{kept_on}
use Rattle.notes.proofs.ahead.made_later_by.Goals as goal

pub loop-report-preserved : goal.loop-report-preserved
loop-report-preserved c =
    kept_on (is_made_later c.args.events.now) c.args.reports.now c.loop-report.found.items c.push_if.new.found.items c.loop-report.report-index _ c.is_made_later-is_one.result
    c.loop-report-test.true c.is_made_later-is_one.ensures c.loop-report.invariant c.in_ok-push_if.ensures
