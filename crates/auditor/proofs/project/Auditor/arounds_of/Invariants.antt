use Rattle.std.proofs.Common.{take}
use Rattle.audit.specs.Seen.{sums_in}
use Rattle.auditor.specs.Scratch.{AreAround}
use Rattle.auditor.proofs.project.Auditor.arounds_of.Given as goal

abbrev pub invariant-loop-place : goal.invariant-loop-place
invariant-loop-place l = AreAround l.self.scratch l.left (take l.place (sums_in l.uses).paths) l.arounds.items
