use Rattle.std.proofs.Common.{ℕ, List, subst}
use Rattle.tools.specs.Above.{MarksAlso}
use Rattle.tools.proofs.Lacking.{marks_needed}
use Rattle.tools.proofs.missing.needed.Goals as goal

pub returns : goal.returns
returns c =
    let start = c.in_ok-marks.marks.items in
    let new = c.mark_edges.new.marks.items in
    marks_needed c.args.graph.now c.args.output c.edges.result c.as_slice.result.now c.in_ok-edges.edges.items start new c.as_slice.ensures (c.in_ok-marks.ensures.items_if_clones_equal (λ y h. h)) c.edges.ensures c.in_ok-edges.ensures
    c.mark_edges.ensures.count (subst (λ (l : List ℕ). MarksAlso start new l) c.as_slice-2.ensures.value c.mark_edges.ensures.marks)
