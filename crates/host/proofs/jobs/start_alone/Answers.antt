use Rattle.std.proofs.Common.{arith}
use Rattle.host.proofs.Listed.{one_more}
use Rattle.host.proofs.jobs.start_alone.Goals as goal

pub returns : goal.returns
returns c =
    let one = one_more c.reserve.new.items.items c.push_reserved.new.items.items _ c.push_reserved.ensures.items in
    omega (arith, one, c.push_reserved.new.items.ok.0)
