use Rattle.std.proofs.Common.{arith}
use Rattle.work.proofs.CommandCounts.{counts, counts_no_other, counts_nothing}
use Rattle.work.proofs.commands.unstarted_commands.Goals as goal
use Rattle.work.proofs.commands.unstarted_commands.Goals.{then-is_due+then-is_unstarted, else-is_due, else-is_due-via-then-is_due+else-is_unstarted, else-is_due-via-else-is_due}

pub loop-place-preserved : goal.loop-place-preserved
loop-place-preserved c =
    let standings = c.args.plan.now.standings.items in
    let due = c.args.due.now in
    let place = c.loop-place.place in
    let low = c.loop-place-test.true in
    let was = c.loop-place.invariant.count in
    record {
      count = elim c.if-is_due.branch [
        | then-is_due+then-is_unstarted w ↦ counts standings due place c.loop-place.count c.if-is_due.count w.edge.result low was w.edge.ensures w.standing.result w.standing.ensures w.is_unstarted.result w.is_unstarted.ensures w.if-is_due.true w.if-is_unstarted.true w.count-is
        | else-is_due w ↦ elim w.else-is_due.branch [
          | else-is_due-via-then-is_due+else-is_unstarted v ↦ counts_no_other standings due place c.loop-place.count c.if-is_due.count v.edge.result low was v.edge.ensures v.standing.result v.standing.ensures v.is_unstarted.result v.is_unstarted.ensures v.if-is_unstarted.false w.count-is
          | else-is_due-via-else-is_due v ↦ counts_nothing standings due place c.loop-place.count c.if-is_due.count low was v.if-is_due.false w.count-is
        ]
      ];
      least = elim c.if-is_due.branch [
        | then-is_due+then-is_unstarted w ↦ omega (arith, w.count-is, c.loop-place.invariant.least)
        | else-is_due w ↦ omega (arith, w.count-is, c.loop-place.invariant.least)
      ];
    }
