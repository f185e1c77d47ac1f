use Rattle.std.proofs.Common.{◌≡◌, true, drop}
use Rattle.lexer.proofs.Plain.{plain_from}
use Rattle.lexer.proofs.path.are_few_plain.Given as goal

abbrev pub invariant-loop-byte : goal.invariant-loop-byte
invariant-loop-byte l = plain_from l.begins (drop l.byte-index l.parts) ≡ plain_from true l.parts
