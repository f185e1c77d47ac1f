use Rattle.std.proofs.Common.{take}
use Rattle.graph.proofs.Naming.{AreNamersOf}
use Rattle.graph.proofs.graph.Graph.namers.Given as goal

abbrev pub invariant-loop-user : goal.invariant-loop-user
invariant-loop-user l = AreNamersOf l.self l.file (take l.user-index l.user-items) l.chosen.items
