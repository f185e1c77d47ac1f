use Rattle.std.proofs.Common.{◌≡◌, Some, drop, map}
use Rattle.model.specs.World.{view_of}
use Rattle.sim.specs.Toy.{joined, contents}
use Rattle.sim.proofs.toy.join.Given as goal

-- what is gathered, and what is left
abbrev pub invariant-loop-path : goal.invariant-loop-path
invariant-loop-path l = contents (view_of l.history) (map (λ path. path.now) l.paths) ≡ joined (Some l.bytes.items) (contents (view_of l.history) (map (λ path. path.now) (drop l.path-index l.paths)))
