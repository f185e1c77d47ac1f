use Rattle.std.proofs.Common.{◌∙◌, ap, ℕ, List}
use Rattle.paths.specs.Lists.{line_at, between}
use Rattle.paths.proofs.Flat.{row_found, paths_are}
use Rattle.paths.proofs.lines.Lines.paths.Goals as goal

pub returns : goal.returns
returns c =
    ap (λ (l : List ℕ). between l c.index-row.result.now.start c.index-row.result.now.validations) c.deref.ensures.value
    ∙ paths_are c.self.inside.numbers.items (line_at c.args.self.now c.args.edge) c.index-row.result.now
    (row_found c.self.inside.numbers.items c.self.inside.rows.items c.args.self.now c.args.edge c.index.result c.index-row.result.now c.self.view_is c.self.invariant.lie c.index.ensures.place c.requires c.index-row.ensures)
