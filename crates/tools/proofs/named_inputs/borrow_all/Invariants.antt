use Rattle.std.proofs.Common.{◌≡◌, map, take, string_bytes}
use Rattle.std.specs.Map.Iter.{deref}
use Rattle.tools.proofs.named_inputs.borrow_all.Given as goal

abbrev pub invariant-loop-word : goal.invariant-loop-word
invariant-loop-word l = map deref l.texts.items ≡ map string_bytes (take l.word-index l.words)
