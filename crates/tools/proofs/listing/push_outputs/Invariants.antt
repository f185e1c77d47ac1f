use Rattle.std.proofs.Common.{map, take, string_bytes}
use Rattle.graph.specs.Links.{links_of}
use Rattle.tools.specs.Answers.{Puts, with_rule}
use Rattle.tools.proofs.listing.push_outputs.Given as goal

abbrev pub invariant-loop-output : goal.invariant-loop-output
invariant-loop-output l = Puts (string_bytes l.initial.told) (string_bytes l.told) (map (with_rule l.declared l.edge) (take l.output-index ((links_of l.declared.graph).outputs l.edge)))
