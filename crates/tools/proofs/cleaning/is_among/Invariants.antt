use Rattle.std.proofs.Common.{◌≡◌, false, map, take}
use Rattle.std.specs.Map.Iter.{deref}
use Rattle.model.specs.Graph.{has}
use Rattle.tools.proofs.cleaning.is_among.Given as goal

abbrev pub invariant-loop-one : goal.invariant-loop-one
invariant-loop-one l = has (map deref (take l.one-index l.texts)) l.text ≡ false
