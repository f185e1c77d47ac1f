use Rattle.std.proofs.Common.{◌≡◌, map, take}
use Rattle.std.specs.Map.Iter.{deref}
use Rattle.paths.specs.Told.{texts_at}
use Rattle.manifest.proofs.edges.texts.Given as goal

abbrev pub invariant-loop-number : goal.invariant-loop-number
invariant-loop-number l = map deref l.texts.items ≡ texts_at l.table (take l.number-index l.numbers)
