use Rattle.std.proofs.Common.{◌≡◌, ◌++◌, codes, drop, map}
use Rattle.std.specs.List.{filter_map}
use Rattle.sim.specs.Toy.{behind}
use Rattle.sim.proofs.toy.used_in.Given as goal

-- what is named so far, and what is left
abbrev pub invariant-loop-line : goal.invariant-loop-line
invariant-loop-line l =
    map (λ path. path.now) l.paths.items ++ filter_map (behind (codes "use ")) (map (λ line. line.now) (drop l.line-index l.lines)) ≡ filter_map (behind (codes "use ")) (map (λ line. line.now) l.lines)
