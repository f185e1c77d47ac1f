use Rattle.std.proofs.Common.{◌≡◌, map, take, string_bytes}
use Rattle.std.specs.List.{flat_map}
use Rattle.tools.specs.Answers.{quoted_inputs}
use Rattle.tools.proofs.named_inputs.all_inputs.Given as goal

abbrev pub invariant-loop-edge : goal.invariant-loop-edge
invariant-loop-edge l = map string_bytes l.words.items ≡ flat_map (quoted_inputs l.declared) (take l.edge-index l.edges)
