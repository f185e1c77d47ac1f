use Rattle.std.proofs.Common.{◌≡◌, map, take}
use Rattle.nj_run.proofs.program.copies.Given as goal

abbrev pub invariant-loop-word : goal.invariant-loop-word
invariant-loop-word l = l.texts.items ≡ map (λ word. word.now) (take l.word-index l.words)
