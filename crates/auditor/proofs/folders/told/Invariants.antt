use Rattle.auditor.specs.Things.{AreFolders}
use Rattle.auditor.proofs.folders.told.Given as goal

abbrev pub invariant-loop-place : goal.invariant-loop-place
invariant-loop-place l = AreFolders l.wholes
