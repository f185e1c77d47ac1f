use Rattle.std.proofs.Common.{ℕ, List, length, sym, subst, ap, ◌∙◌}
use Rattle.paths.specs.Lists.{line_at}
use Rattle.paths.specs.Told.{texts_at}
use Rattle.manifest.specs.InNumbers.{AreBelow}
use Rattle.manifest.proofs.Added.{lists_of}
use Rattle.manifest.proofs.edges.shown_of.Goals as goal

pub texts-requires : goal.texts-requires
texts-requires c =
    subst (λ (numbers : List ℕ). AreBelow (length c.args.table.now) numbers) (sym c.explicit_inputs.ensures) (lists_of (length c.args.table.now) (line_at c.args.lines.now c.args.edge) c.requires.within).explicit_inputs

pub texts-requires-2 : goal.texts-requires-2
texts-requires-2 c =
    subst (λ (numbers : List ℕ). AreBelow (length c.args.table.now) numbers) (sym c.explicit_outputs.ensures) (lists_of (length c.args.table.now) (line_at c.args.lines.now c.args.edge) c.requires.within).explicit_outputs

pub returns : goal.returns
returns c = record {
  inputs = c.in_ok-inputs.ensures ∙ ap (texts_at c.args.table.now) c.explicit_inputs.ensures;
  outputs = c.in_ok-outputs.ensures ∙ ap (texts_at c.args.table.now) c.explicit_outputs.ensures;
}
