use Rattle.std.proofs.Common.{◌≡◌, ◌++◌, ◌∷◌, drop, map}
use Rattle.std.specs.List.{flat_map}
use Rattle.sim.proofs.toy.append_others.Given as goal

-- what stands so far, and what is left
abbrev pub invariant-loop-path : goal.invariant-loop-path
invariant-loop-path l = l.text.items ++ flat_map (λ path. 32 ∷ path) (map (λ path. path.now) (drop l.path-index l.paths)) ≡ l.initial.text.items ++ flat_map (λ path. 32 ∷ path) (map (λ path. path.now) l.paths)
