use Rattle.std.proofs.Common.{take, string_bytes}
use Rattle.tools.specs.Answers.{Puts, marked}
use Rattle.tools.proofs.asked_paths.push_paths.Given as goal

abbrev pub invariant-loop-path : goal.invariant-loop-path
invariant-loop-path l = Puts (string_bytes l.initial.told) (string_bytes l.told) (marked l.declared l.mark (take l.path-index l.paths))
