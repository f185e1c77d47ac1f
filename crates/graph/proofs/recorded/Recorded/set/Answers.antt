use Rattle.std.proofs.Common.{◌∙◌, ℕ, List, ap, arith}
use Rattle.std.proofs.Math.ListN.{set}
use Rattle.graph.proofs.Spaces.{span_set}
use Rattle.graph.proofs.recorded.Recorded.set.Goals as goal

pub returns-clause-ok : goal.returns-clause-ok
returns-clause-ok c =
    let old = c.self.inside.numbers in
    let new = c.extend_from_slice.new.self in
    span_set old.items c.args.inputs.now new.items c.self.inside.spans.items c.index.result c.len-start.result c.len.result c.self.invariant c.in_ok-extend_from_slice.ensures.items
    (c.len-start.ensures ∙ omega (arith, old.ok.0)) (c.len.ensures ∙ omega (arith, new.ok.0))
    ∙ (ap (λ (l : List (List ℕ)). set l c.index.result c.args.inputs.now) c.self.view_is ∙ ap (λ (n : ℕ). set c.args.self.now n c.args.inputs.now) c.index.ensures.place)
