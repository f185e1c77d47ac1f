use Rattle.std.proofs.Common.{◌≡◌, length, take}
use Rattle.std.specs.List.{AllZip}
use Rattle.auditor.specs.Links.{CountsThrough}
use Rattle.auditor.proofs.project.Auditor.bys_of.Given as goal

abbrev pub invariant-loop-whole : goal.invariant-loop-whole
invariant-loop-whole l = (length l.bys.items ≡ l.whole-index) × AllZip CountsThrough (take l.whole-index l.wholes) l.bys.items
