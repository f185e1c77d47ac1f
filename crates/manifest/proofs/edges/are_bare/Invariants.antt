use Rattle.std.proofs.Common.{◌≡◌, map, take}
use Rattle.std.specs.Map.Iter.{deref}
use Rattle.lexer.specs.Quote.{quoted}
use Rattle.manifest.proofs.edges.are_bare.Given as goal

abbrev pub invariant-loop-path : goal.invariant-loop-path
invariant-loop-path l = map quoted (map deref (take l.path-index l.paths)) ≡ map deref (take l.path-index l.paths)
