use Rattle.std.proofs.Common.{◌≡◌, map}
use Rattle.std.specs.List.{flat_map, range_with_len}
use Rattle.std.specs.Map.Iter.{deref}
use Rattle.tools.specs.Answers.{outputs_of_rule}
use Rattle.tools.proofs.listing.of_rule.Given as goal

abbrev pub invariant-loop-place : goal.invariant-loop-place
invariant-loop-place l = map deref l.paths.items ≡ flat_map (outputs_of_rule l.declared l.rule) (range_with_len 0 l.place)
