use Rattle.std.proofs.Common.{map, ap, ◌∙◌}
use Rattle.std.specs.Map.Iter.{deref}
use Rattle.std.proofs.lemmas.Result.{err_from_is_err_and}
use Rattle.paths.specs.Lists.{line_at}
use Rattle.manifest.proofs.EdgeAll.{rule_is, no_rule, alias_made, shows, values_fault, command_made}
use Rattle.manifest.proofs.kept.ReadEdge.action.Goals as goal

pub returns-in_default-clause-edge : goal.returns-in_default-clause-edge
returns-in_default-clause-edge c = λ past said build of are is for.
    alias_made past said build c.args.table.now (line_at c.args.lines.now c.args.edge) for (no_rule build c.args.self.now.rule is.rule c.in_default.is)

pub returns-in_err-values-clause-edge : goal.returns-in_err-values-clause-edge
returns-in_err-values-clause-edge c = λ past said build of are is for.
    let line = line_at c.args.lines.now c.args.edge in
    let some = rule_is build c.args.self.now.rule c.in-Some.rule c.deref.result.now is.rule c.in-Some.is c.deref.ensures in
    let plain = shows past said build c.args.table.now line for c.deref.result.now some (record { inputs = c.as_slice.result; outputs = c.as_slice-2.result })
    (ap (map deref) c.as_slice.ensures ∙ c.in_ok-shown.ensures.inputs) (ap (map deref) c.as_slice-2.ensures ∙ c.in_ok-shown.ensures.outputs) in
    let failed = err_from_is_err_and c.from_residual-in_err-values.result c.from_residual-in_err-values.ensures.1 in
    rw (failed.1, failed.2) (values_fault past said build c.args.table.now line for c.deref.result.now some _ (c.in_err-values.ensures past said build of are is plain))

pub returns-clause-edge : goal.returns-clause-edge
returns-clause-edge c = λ past said build of are is for.
    let line = line_at c.args.lines.now c.args.edge in
    let some = rule_is build c.args.self.now.rule c.in-Some.rule c.deref.result.now is.rule c.in-Some.is c.deref.ensures in
    let plain = shows past said build c.args.table.now line for c.deref.result.now some (record { inputs = c.as_slice.result; outputs = c.as_slice-2.result })
    (ap (map deref) c.as_slice.ensures ∙ c.in_ok-shown.ensures.inputs) (ap (map deref) c.as_slice-2.ensures ∙ c.in_ok-shown.ensures.outputs) in
    command_made past said build c.args.table.now line for c.deref.result.now some c.command_of.new.table c.in_ok-values.values c.in_ok-command_of.field-0 c.in_ok-command_of.ensures.grows
    (c.in_ok-values.ensures past said build of are is plain) (c.in_ok-command_of.ensures.command line)
