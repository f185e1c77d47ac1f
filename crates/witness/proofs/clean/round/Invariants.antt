use Rattle.std.proofs.Common.{◌≡◌, ◌++◌, drop, map}
use Rattle.model.specs.World.{view_of}
use Rattle.witness.specs.Made.{behaviour, command_of, given_by}
use Rattle.witness.proofs.clean.round.Given as goal

abbrev pub invariant-loop-path : goal.invariant-loop-path
invariant-loop-path g l =
    l.contents.items ++ map (λ path. (path.now, given_by (behaviour g.C.Commands.outcome g.D.Depfiles.inputs) (view_of l.files) path.now (command_of l.edges path.now))) (drop l.path-index l.made)
    ≡ map (λ path. (path.now, given_by (behaviour g.C.Commands.outcome g.D.Depfiles.inputs) (view_of l.files) path.now (command_of l.edges path.now))) l.made
