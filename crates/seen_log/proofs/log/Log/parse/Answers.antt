use Rattle.std.proofs.Common.{inr}
use Rattle.seen_log.proofs.log.Log.parse.Goals as goal

pub returns-then-branch : goal.returns-then-branch
returns-then-branch c =
    let kept = c.in_ok-take_all.ensures c.if-branch.true in
    (kept.0, inr kept.1, kept.2)
