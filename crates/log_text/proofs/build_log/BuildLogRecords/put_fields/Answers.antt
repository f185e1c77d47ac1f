use Rattle.std.proofs.Common.{sym, subst, map}
use Rattle.log_text.specs.Kept.{AreDistinct, IsTableOf}
use Rattle.log_text.specs.BuildLog.{saying}
use Rattle.log_text.proofs.InForce.{keeps_more, said_outputs}
use Rattle.log_text.proofs.build_log.BuildLogRecords.put_fields.Goals as goal

pub put-requires : goal.put-requires
put-requires c =
    let found = rw c.in-Some.is at c.in_ok-outputs.ensures.found in
    subst AreDistinct (said_outputs found.0 (c.in-Some.outputs.now, c.in-Some.said) found.3) found.2.once

pub returns-clause-put : goal.returns-clause-put
returns-clause-put c = λ yes.
    let found = rw c.in-Some.is at c.in_ok-outputs.ensures.found in
    (found.0, found.1, found.2, λ records keeps. keeps_more records found.0 (c.in-Some.outputs.now, c.in-Some.said) c.put.new.self found.3 (c.in_ok-put.ensures.ok (map saying records) (subst (IsTableOf (map saying records)) (sym c.self.view_is) keeps)))
