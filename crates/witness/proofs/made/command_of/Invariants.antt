use Rattle.std.proofs.Common.{◌≡◌, drop}
use Rattle.witness.specs.Made.{command_of}
use Rattle.witness.proofs.made.command_of.Given as goal

abbrev pub invariant-loop-edge : goal.invariant-loop-edge
invariant-loop-edge l = command_of (drop l.edge-index l.edges) l.path ≡ command_of l.edges l.path
