use Rattle.std.proofs.Common.{ap}
use Rattle.status.proofs.Rows.{spaced}
use Rattle.status.proofs.endings.push_spaced.Goals as goal

pub returns : goal.returns
returns c =
    let all = spaced c.args.shown.now.items c.in-Some.first.now c.in-Some.others.now c.loop-text.text-index c.loop-text-test.false in
    rw (c.loop-text.invariant, c.in_ok-extend_from_slice.ensures.items, c.as_bytes.ensures.value, c.in-Some.ensures.cases.0) all
