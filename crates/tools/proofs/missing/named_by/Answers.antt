use Rattle.tools.proofs.NamedAbove.{marks_both}
use Rattle.tools.proofs.missing.named_by.Goals as goal

pub returns : goal.returns
returns c =
    marks_both c.args.graph.now c.args.paths.now c.args.edges.now c.paths.result c.in_ok-named.named.items c.mark.new.marks.items c.mark_inputs.new.marks.items (c.in_ok-named.ensures.items_if_clones_equal (λ y h. h)) c.paths.ensures
    c.mark.ensures.count c.mark.ensures.marks c.mark_inputs.ensures.count c.mark_inputs.ensures.marks
