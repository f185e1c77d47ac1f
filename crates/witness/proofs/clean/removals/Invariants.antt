use Rattle.std.proofs.Common.{◌≡◌, ◌++◌, drop, map, None}
use Rattle.witness.proofs.clean.removals.Given as goal

abbrev pub invariant-loop-path : goal.invariant-loop-path
invariant-loop-path l = l.contents.items ++ map (λ path. (path.now, None)) (drop l.path-index l.made) ≡ map (λ path. (path.now, None)) l.made
