use Rattle.std.proofs.Common.{◌∙◌, ℕ, List, [], ap}
use Rattle.std.proofs.Math.ListN.{set}
use Rattle.graph.proofs.Spaces.{span_gone}
use Rattle.graph.proofs.recorded.Recorded.forget_one.Goals as goal

pub returns : goal.returns
returns c =
    span_gone c.self.inside.numbers.items c.self.inside.spans.items c.index.result
    ∙ (ap (λ (l : List (List ℕ)). set l c.index.result []) c.self.view_is ∙ ap (λ (n : ℕ). set c.args.self.now n []) c.index.ensures.place)
