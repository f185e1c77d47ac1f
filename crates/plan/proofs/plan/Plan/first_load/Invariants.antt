use Rattle.std.proofs.Common.{take}
use Rattle.plan.specs.Loads.{NoneIsThere}
use Rattle.plan.proofs.plan.Plan.first_load.Given as goal

abbrev pub invariant-loop-file : goal.invariant-loop-file
invariant-loop-file l = NoneIsThere l.self.there.items (take l.file-index l.self.loads.items)
