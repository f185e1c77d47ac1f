use Rattle.std.proofs.Common.{◌≡◌, ◌++◌, map, drop, string_bytes}
use Rattle.lexer.specs.Said.{fragment_of}
use Rattle.dyndep.specs.Dyndep.{text_of}
use Rattle.dyndep.proofs.values.text_of.Given as goal

abbrev pub invariant-loop-piece : goal.invariant-loop-piece
invariant-loop-piece l = string_bytes l.text ++ text_of (map fragment_of (drop l.piece-index l.piece-items)) ≡ text_of (map fragment_of l.piece-items)
