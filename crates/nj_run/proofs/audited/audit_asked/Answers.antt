use Rattle.std.proofs.Common.{rules, subst, sym}
use Rattle.nj_run.specs.Ends.{NoTracer}
use Rattle.nj_run.specs.Traces.{IsTracePath}
use Rattle.nj_run.proofs.Ends.{audited, named_over, untraced, within_one}
use Rattle.nj_run.proofs.Optional.{some_so}
use Rattle.nj_run.proofs.audited.audit_asked.Goals as goal

pub returns-in_default-clause-comes : goal.returns-in_default-clause-comes
returns-in_default-clause-comes g c = untraced c.args.asked.now _ _ _ _ _ c.untraced.result c.requires.plain c.requires.audits c.untraced.ensures.status c.untraced.ensures.told

-- no memory
pub returns-in_err-named-clause-comes : goal.returns-in_err-named-clause-comes
returns-in_err-named-clause-comes g c = record { ending = NoTracer; may = (c.requires.plain, c.requires.audits); tells = search rules }

pub returns-in-Some-named-clause-comes : goal.returns-in-Some-named-clause-comes
returns-in-Some-named-clause-comes g c =
    let is = subst IsTracePath (sym c.as_str.ensures) (some_so IsTracePath c.in_ok-named.named c.in-Some-named.path c.in-Some-named.is c.in_ok-named.ensures) in
    named_over c.args.asked.now _ _ _ _ _ _ c.as_str.result.now c.traced_over.result c.requires.plain c.requires.audits is c.traced_over.ensures.status c.traced_over.ensures.told

-- no folder, or no memory, before it began
pub returns-in_err-audited-clause-comes : goal.returns-in_err-audited-clause-comes
returns-in_err-audited-clause-comes g c = record { ending = NoTracer; may = (c.requires.plain, c.requires.audits); tells = search rules }

pub returns-clause-range : goal.returns-clause-range
returns-clause-range g c = within_one c.in_ok-audited.audited.report _ _ _ _ c.tell_all.result c.tell_all.ensures

pub returns-clause-comes : goal.returns-clause-comes
returns-clause-comes g c =
    audited c.args.asked.now _ _ _ _ _ _ _ c.in_ok-audited.audited.report c.tell_all.result c.requires.plain c.requires.audits c.in_ok-audited.ensures c.tell_all.ensures
