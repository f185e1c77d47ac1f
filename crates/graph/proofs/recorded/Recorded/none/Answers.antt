use Rattle.std.proofs.Common.{◌∙◌, ap, map}
use Rattle.graph.specs.Spans.{span_of}
use Rattle.graph.proofs.Spaces.{map_replicate, no_span}
use Rattle.graph.proofs.recorded.Recorded.none.Goals as goal

pub returns : goal.returns
returns c = ap (map (span_of _)) (c.in_ok-vec.ensures.items_if_clones_equal (λ y h. h)) ∙ map_replicate (span_of _) c.args.edges no_span
