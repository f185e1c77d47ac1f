use Rattle.std.proofs.Common.{◌∙◌, ap, sym, subst, Result, Ok, Err}
use Rattle.std.specs.Prelude.{OnErr}
use Rattle.std.proofs.Math.ListN.{set}
use Rattle.paths.specs.declared.line.Line.{Line}
use Rattle.paths.specs.Lists.{line_at, grown_line, IsAppended}
use Rattle.paths.proofs.Flat.{left_lines, row_found}
use Rattle.paths.proofs.Growing.{grown_rows, grown_lines}
use Rattle.paths.proofs.lines.Lines.grow.Goals as goal

on_err : {T E : Type 0} {P : Type 0} (r : Result T E) → P → OnErr r P
on_err (Ok x) p = tt
on_err (Err e) p = p

pub returns-in_err-grown-clause-err : goal.returns-in_err-grown-clause-err
returns-in_err-grown-clause-err c =
    on_err c.from_residual.result (left_lines c.self.inside.numbers.items c.append_row.new.numbers.items c.self.inside.rows.items c.args.self.now c.self.view_is c.self.invariant.lie c.in_err-grown.ensures.err)

pub invariant_of-self-2 : goal.invariant_of-self-2
invariant_of-self-2 c =
    grown_rows c.self.inside.numbers.items c.append_row.new.numbers.items c.self.inside.rows.items c.index-2.result c.in_ok-grown.grown _ c.self.invariant c.in_ok-grown.ensures.ok

pub returns-clause-ok : goal.returns-clause-ok
returns-clause-ok c =
    let old = c.self.inside.numbers.items in
    let new = c.append_row.new.numbers.items in
    let rows = c.self.inside.rows.items in
    let lines = c.args.self.now in
    let outputs = c.args.outputs.now in
    let inputs = c.args.inputs.now in
    let found = row_found old rows lines c.args.edge c.index.result c.index-row.result.now c.self.view_is c.self.invariant.lie c.index.ensures.place c.requires c.index-row.ensures in
    let line = grown_line (line_at lines c.args.edge) outputs inputs in
    let added : IsAppended old new line c.in_ok-grown.grown =
    subst (λ (l : Line). IsAppended old new (grown_line l outputs inputs) c.in_ok-grown.grown) (sym found.is) c.in_ok-grown.ensures.ok in
    grown_lines old new rows c.index-2.result c.in_ok-grown.grown lines line c.self.view_is c.self.invariant.lie added
    ∙ ap (λ n. set lines n line) c.index-2.ensures.place
