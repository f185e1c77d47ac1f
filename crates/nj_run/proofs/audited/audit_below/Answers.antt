use Rattle.std.proofs.Common.{rules}
use Rattle.nj_run.specs.Ends.{NoTracer}
use Rattle.nj_run.proofs.Ends.{audited, within_one}
use Rattle.nj_run.proofs.audited.audit_below.Goals as goal

-- no folder, or no memory, before it began
pub returns-in_err-audited-clause-comes : goal.returns-in_err-audited-clause-comes
returns-in_err-audited-clause-comes g c = record { ending = NoTracer; may = (c.requires.plain, c.requires.audits); tells = search rules }

pub returns-clause-range : goal.returns-clause-range
returns-clause-range g c = within_one c.in_ok-audited.audited.report _ _ _ _ c.tell_all.result c.tell_all.ensures

pub returns-clause-comes : goal.returns-clause-comes
returns-clause-comes g c =
    audited c.args.asked.now _ _ _ _ _ _ _ c.in_ok-audited.audited.report c.tell_all.result c.requires.plain c.requires.audits c.in_ok-audited.ensures c.tell_all.ensures
