use Rattle.std.proofs.Common.{sym, ◌∙◌}
use Rattle.manifest.proofs.BuildReads.{rule_phony, rule_found, rule_missing}
use Rattle.manifest.proofs.kept.Declared.rule.Goals as goal

pub returns-then-eq : goal.returns-then-eq
returns-then-eq c state is = rule_phony _ state c.args.name.now (sym c.eq.ensures ∙ c.if-eq.true)

pub returns-in_ok-clone-in-Some : goal.returns-in_ok-clone-in-Some
returns-in_ok-clone-in-Some c state is =
    rule_found _ state c.args.name.now c.in-Some.rule.now.value c.in_ok-clone-in-Some.field-0.value (sym c.eq.ensures ∙ c.if-eq.false) (c.in-Some.ensures state.past is.scopes)
    c.in_ok-clone-in-Some.ensures.cases

pub returns-in_ok-from_str-in-None : goal.returns-in_ok-from_str-in-None
returns-in_ok-from_str-in-None c state is =
    rule_missing _ state c.args.name.now _ c.fault.result (sym c.eq.ensures ∙ c.if-eq.false) (c.in-None.ensures state.past is.scopes) c.in_ok-from_str-in-None.ensures c.fault.ensures
