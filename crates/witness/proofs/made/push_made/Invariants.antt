use Rattle.std.proofs.Common.{◌≡◌, ◌++◌, drop, map, filter, is_some}
use Rattle.witness.specs.Made.{command_of}
use Rattle.witness.proofs.made.push_made.Given as goal

abbrev pub invariant-loop-path : goal.invariant-loop-path
invariant-loop-path l =
    map (λ path. path.now) l.made.items ++ filter (λ path. is_some (command_of l.edges path)) (drop l.path-index l.outputs)
    ≡ map (λ path. path.now) l.initial.made.items ++ filter (λ path. is_some (command_of l.edges path)) l.outputs
