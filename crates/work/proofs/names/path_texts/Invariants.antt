use Rattle.std.proofs.Common.{◌≡◌, take}
use Rattle.paths.specs.Told.{texts_at}
use Rattle.work.proofs.names.path_texts.Given as goal

abbrev pub invariant-loop-number : goal.invariant-loop-number
invariant-loop-number l = l.texts ≡ texts_at l.manifest.paths (take l.number-index l.numbers)
