use Rattle.std.proofs.Common.{sym, ◌∙◌}
use Rattle.manifest.specs.Blocks.{RuleLine}
use Rattle.manifest.proofs.RuleLemmas.{no_line, rule_bound, rule_unexpected}
use Rattle.manifest.proofs.rules.read_line.Goals as goal

pub returns-in_default-clause-ok : goal.returns-in_default-clause-ok
returns-in_default-clause-ok c = λ before is. (before, is, no_line (RuleLine _) _ before c.in_default.ensures)

pub returns-then-not-is_rule_variable-clause-err : goal.returns-then-not-is_rule_variable-clause-err
returns-then-not-is_rule_variable-clause-err c =
    rule_unexpected c.args.place.now c.at_line.result _ c.in-Some.line.name.now c.in-Some.line.value.now.pieces _ c.in_ok-from_str.field-0 _ c.in-Some.ensures (sym c.is_rule_variable.ensures ∙ c.if-not-is_rule_variable.true)
    c.at_line.ensures.file c.at_line.ensures.line c.in_ok-from_str.ensures c.fault.ensures

pub returns-clause-ok : goal.returns-clause-ok
returns-clause-ok c =
    rule_bound _ _ c.in-Some.line.name.now c.in-Some.line.value.now.pieces _ c.in_ok-template.template c.args.rule.now c.bind.new.self c.in-Some.ensures c.in_ok-template.ensures
    (sym c.is_rule_variable.ensures ∙ c.if-not-is_rule_variable.false) c.in_ok-bind.ensures.ok
