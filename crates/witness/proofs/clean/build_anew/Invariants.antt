use Rattle.std.proofs.Common.{◌≡◌, ℕ, List}
use Rattle.model.specs.World.{view_of}
use Rattle.model.specs.Clean.{rounds, sources_of}
use Rattle.witness.specs.Made.{behaviour}
use Rattle.witness.proofs.clean.build_anew.Given as goal

abbrev pub invariant-loop : goal.invariant-loop
invariant-loop g l =
    (p : List ℕ) → view_of l.files p ≡ rounds (behaviour g.C.Commands.outcome g.D.Depfiles.inputs) l.edges (sources_of l.edges (view_of l.fn.files)) l.index p
