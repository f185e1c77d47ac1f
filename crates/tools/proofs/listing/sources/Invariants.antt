use Rattle.std.proofs.Common.{◌≡◌, filter, is_none, map, string_bytes}
use Rattle.std.specs.List.{flat_map, range_with_len}
use Rattle.graph.specs.Links.{links_of}
use Rattle.tools.specs.Answers.{lines, path_text}
use Rattle.tools.proofs.listing.sources.Given as goal

abbrev pub invariant-loop-place : goal.invariant-loop-place
invariant-loop-place l =
    string_bytes l.told ≡ lines (map (path_text l.declared) (filter (λ p. is_none ((links_of l.declared.graph).maker p)) (flat_map (λ e. (links_of l.declared.graph).inputs e) (range_with_len 0 l.place))))
