use Rattle.std.proofs.Common.{arith}
use Rattle.audit.proofs.Summed.{again_past, again_there}
use Rattle.audit.proofs.seen.Uses.again.Goals as goal

pub returns-then-place-len-clause-uses : goal.returns-then-place-len-clause-uses
returns-then-place-len-clause-uses c =
    again_there c.args.self.now.uses.items c.args.place c.args.deed c.index.result.now c.with.result (omega (arith, c.if-place-len.true, c.len.ensures)) c.index.ensures c.with.ensures

pub returns-else-place-len-clause-uses : goal.returns-else-place-len-clause-uses
returns-else-place-len-clause-uses c =
    again_past c.args.self.now.uses.items c.args.place c.args.deed (omega (arith, c.if-place-len.false, c.len.ensures))
