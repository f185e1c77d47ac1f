use Rattle.std.proofs.Common.{◌≡◌, ◌++◌, drop, map, filter, is_some}
use Rattle.model.specs.Graph.{all_outputs}
use Rattle.witness.specs.Made.{command_of}
use Rattle.witness.proofs.made.made_paths.Given as goal

abbrev pub invariant-loop-edge : goal.invariant-loop-edge
invariant-loop-edge l =
    map (λ path. path.now) l.made.items ++ filter (λ path. is_some (command_of l.edges path)) (all_outputs (drop l.edge-index l.edges))
    ≡ filter (λ path. is_some (command_of l.edges path)) (all_outputs l.edges)
