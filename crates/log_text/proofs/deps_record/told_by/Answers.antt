use Rattle.std.proofs.Common.{sym, ◌∙◌}
use Rattle.std.proofs.lemmas.Bool.{eqb-false}
use Rattle.log_text.proofs.HeadFields.{if_none, no_paths, not_told}
use Rattle.log_text.proofs.deps_record.told_by.Goals as goal

pub returns-in_err-paths-clause-none : goal.returns-in_err-paths-clause-none
returns-in_err-paths-clause-none c =
    if_none c.from_residual-in_err-paths.result (no_paths c.args.fields.now c.in_ok-start.start.now c.in_ok-start.rest.now c.in_ok-start.ensures.cases.0 c.in_err-paths.ensures.none)

pub returns-then-not-is_empty-clause-none : goal.returns-then-not-is_empty-clause-none
returns-then-not-is_empty-clause-none c =
    let found = c.in_ok-paths.ensures.found in
    not_told c.args.fields.now c.in_ok-start.start.now c.in_ok-start.rest.now c.in_ok-paths.paths.now c.in_ok-paths.after.now c.in_ok-start-2.start c.in_ok-start.ensures.cases.0 (sym c.as_str.ensures ∙ c.in_ok-start-2.ensures.found) found.0 found.1 (eqb-false _ 0 (sym c.is_empty.ensures ∙ c.if-not-is_empty.true))
