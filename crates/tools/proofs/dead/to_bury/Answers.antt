use Rattle.tools.proofs.Burying.{buried}
use Rattle.tools.proofs.Putting.{if_ok_then}
use Rattle.tools.proofs.dead.to_bury.Goals as goal

pub returns : goal.returns
returns c =
    if_ok_then c.bury_made.result c.bury_made.ensures
    (λ found made rs ds known. buried c.args.declared.now.graph c.args.records.now _ found rs ds known c.in_ok-listed.ensures (made rs known.known.keeps))
