use Rattle.std.proofs.Common.{take}
use Rattle.builder.specs.Explained.{AreSaid}
use Rattle.builder.proofs.explaining.explanations.Given as goal

abbrev pub invariant-loop-command : goal.invariant-loop-command
invariant-loop-command l = AreSaid l.graph (take l.command-index l.told) l.all.items
