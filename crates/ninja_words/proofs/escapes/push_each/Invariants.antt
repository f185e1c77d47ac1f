use Rattle.std.proofs.Common.{◌≡◌, ◌++◌, drop}
use Rattle.ninja_words.specs.Escapes.{behind_all, left}
use Rattle.ninja_words.proofs.escapes.push_each.Given as goal

-- what is still to come does the rest
abbrev pub invariant-loop-byte : goal.invariant-loop-byte
invariant-loop-byte l =
    (l.text.items ++ left l.come (drop l.byte-index l.printed) ≡ l.initial.text.items ++ left l.fn.escape l.printed)
    × (behind_all l.come (drop l.byte-index l.printed) ≡ behind_all l.fn.escape l.printed)
