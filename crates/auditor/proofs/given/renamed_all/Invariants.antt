use Rattle.std.proofs.Common.{take}
use Rattle.std.specs.List.{AllZip}
use Rattle.auditor.specs.Things.{IsGiven}
use Rattle.auditor.proofs.given.renamed_all.Given as goal

abbrev pub invariant-loop-whole : goal.invariant-loop-whole
invariant-loop-whole l = AllZip IsGiven (take l.whole-index l.wholes) l.renamed
