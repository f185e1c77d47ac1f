use Rattle.std.proofs.Common.{◌≡◌, ◌++◌, map, take, string_bytes}
use Rattle.lexer.specs.Quote.{quoted}
use Rattle.tools.specs.Answers.{path_text}
use Rattle.tools.proofs.named_inputs.push_quoted.Given as goal

abbrev pub invariant-loop-path : goal.invariant-loop-path
invariant-loop-path l = map string_bytes l.texts.items ≡ map string_bytes l.initial.texts.items ++ map (λ p. quoted (path_text l.declared p)) (take l.path-index l.paths)
