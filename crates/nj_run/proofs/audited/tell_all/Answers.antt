use Rattle.std.proofs.Common.{is_some}
use Rattle.nj_run.proofs.Judging.{tells_audit}
use Rattle.nj_run.proofs.audited.tell_all.Goals as goal

pub returns : goal.returns
returns g c =
    tells_audit c.args.audited.now.report (is_some c.as_ref.result) c.in_ok-status.status c.in_ok-keeps.keeps c.status_after.result _ _ _ _ _
    c.in_ok-status.ensures.status c.status_after.ensures c.in_ok-status.ensures.out c.in_ok-status.ensures.err c.in_ok-keeps.ensures
