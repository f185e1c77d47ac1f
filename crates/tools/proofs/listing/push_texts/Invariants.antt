use Rattle.std.proofs.Common.{◌≡◌, ◌++◌, map, take}
use Rattle.std.specs.Map.Iter.{deref}
use Rattle.paths.specs.Told.{texts_at}
use Rattle.tools.proofs.listing.push_texts.Given as goal

abbrev pub invariant-loop-number : goal.invariant-loop-number
invariant-loop-number l = map deref l.paths.items ≡ map deref l.initial.paths.items ++ texts_at l.graph.manifest.paths (take l.number-index l.numbers)
