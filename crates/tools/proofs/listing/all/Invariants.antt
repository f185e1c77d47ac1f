use Rattle.std.proofs.Common.{◌≡◌, map, string_bytes}
use Rattle.std.specs.List.{flat_map, range_with_len}
use Rattle.graph.specs.Links.{links_of}
use Rattle.tools.specs.Answers.{lines, with_rule}
use Rattle.tools.proofs.listing.all.Given as goal

abbrev pub invariant-loop-place : goal.invariant-loop-place
invariant-loop-place l = string_bytes l.told ≡ lines (flat_map (λ e. map (with_rule l.declared e) ((links_of l.declared.graph).outputs e)) (range_with_len 0 l.place))
