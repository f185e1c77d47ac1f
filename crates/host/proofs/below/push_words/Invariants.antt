use Rattle.std.proofs.Common.{◌≡◌, ◌++◌, drop, map}
use Rattle.host.specs.Environment.{AreWhole, ended}
use Rattle.host.proofs.below.push_words.Given as goal

abbrev pub invariant-loop-word : goal.invariant-loop-word
invariant-loop-word g l =
    (l.all.items ++ ended (map g.S.AsStr.text (drop l.word-index l.words)) ≡ l.initial.all.items ++ ended (map g.S.AsStr.text l.words))
    × (AreWhole (map g.S.AsStr.text (drop l.word-index l.words)) → AreWhole (map g.S.AsStr.text l.words))
