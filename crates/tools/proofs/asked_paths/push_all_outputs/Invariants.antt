use Rattle.std.proofs.Common.{take, string_bytes}
use Rattle.tools.specs.Answers.{Puts, outputs_of}
use Rattle.tools.proofs.asked_paths.push_all_outputs.Given as goal

abbrev pub invariant-loop-edge : goal.invariant-loop-edge
invariant-loop-edge l = Puts (string_bytes l.initial.told) (string_bytes l.told) (outputs_of l.declared (take l.edge-index l.edges))
