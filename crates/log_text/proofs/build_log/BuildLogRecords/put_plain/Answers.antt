use Rattle.std.proofs.Common.{sym, subst}
use Rattle.log_text.specs.BuildLog.{Keeps}
use Rattle.log_text.proofs.build_log.BuildLogRecords.put_plain.Goals as goal

pub returns-clause-put : goal.returns-clause-put
returns-clause-put c = λ yes.
    let is = c.in_ok-is_put.ensures.put yes in
    (is.0, is.1, is.2, λ records keeps. is.3 records (subst (Keeps records) (sym c.self.view_is) keeps))

pub returns-clause-none : goal.returns-clause-none
returns-clause-none c = λ no records keeps. c.in_ok-is_put.ensures.none no records (subst (Keeps records) (sym c.self.view_is) keeps)
