use Rattle.std.proofs.Common.{◌≡◌, filter}
use Rattle.std.specs.List.{range_with_len}
use Rattle.model.specs.Graph.{has_number}
use Rattle.graph.specs.Links.{links_of}
use Rattle.tools.proofs.asked_paths.validated_by.Given as goal

abbrev pub invariant-loop-place : goal.invariant-loop-place
invariant-loop-place l = l.edges.items ≡ filter (λ e. has_number ((links_of l.declared.graph).validations e) l.path) (range_with_len 0 l.place)
