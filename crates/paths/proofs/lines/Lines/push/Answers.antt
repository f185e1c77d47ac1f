use Rattle.std.proofs.Common.{◌∙◌, ap, subst, sym, map, Result, Ok, Err}
use Rattle.std.specs.Prelude.{OnErr}
use Rattle.paths.specs.Lists.{line_of, AreLaidOut}
use Rattle.paths.proofs.Flat.{left_lines, pushed_lines}
use Rattle.paths.proofs.Apart.{pushed_rows, left_laid}
use Rattle.paths.proofs.lines.Lines.push.Goals as goal

on_err : {T E : Type 0} {P : Type 0} (r : Result T E) → P → OnErr r P
on_err (Ok x) p = tt
on_err (Err e) p = p

pub returns-in_err-row-clause-err : goal.returns-in_err-row-clause-err
returns-in_err-row-clause-err c =
    on_err c.from_residual.result (left_lines c.self.inside.numbers.items c.append_line.new.numbers.items c.self.inside.rows.items c.args.self.now c.self.view_is c.self.invariant.lie c.in_err-row.ensures.err)

pub invariant_of-self-in_err-push : goal.invariant_of-self-in_err-push
invariant_of-self-in_err-push c =
    subst (AreLaidOut _) (sym c.in_err-push.ensures.items)
    (left_laid c.self.inside.numbers.items c.append_line.new.numbers.items c.self.inside.rows.items c.self.invariant c.in_ok-row.ensures.ok.extends)

pub returns-in_err-push-clause-err : goal.returns-in_err-push-clause-err
returns-in_err-push-clause-err c =
    on_err c.from_residual-in_err-push.result
    (ap (map (line_of c.append_line.new.numbers.items)) c.in_err-push.ensures.items
    ∙ left_lines c.self.inside.numbers.items c.append_line.new.numbers.items c.self.inside.rows.items c.args.self.now c.self.view_is c.self.invariant.lie c.in_ok-row.ensures.ok.extends)

pub invariant_of-self-2 : goal.invariant_of-self-2
invariant_of-self-2 c =
    pushed_rows c.self.inside.numbers.items c.append_line.new.numbers.items c.self.inside.rows.items c.push.new.self.items c.in_ok-row.row c.args.line.now c.self.invariant c.in_ok-row.ensures.ok c.in_ok-push.ensures.items

pub returns-clause-ok : goal.returns-clause-ok
returns-clause-ok c =
    pushed_lines c.self.inside.numbers.items c.append_line.new.numbers.items c.self.inside.rows.items c.push.new.self.items c.in_ok-row.row c.args.self.now c.args.line.now c.self.view_is c.self.invariant.lie
    c.in_ok-row.ensures.ok c.in_ok-push.ensures.items
