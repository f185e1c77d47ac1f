use Rattle.std.proofs.Common.{[]}
use Rattle.tools.specs.Clean.{AddsJust}
use Rattle.tools.proofs.Cleans.{IsOtherBelow}
use Rattle.tools.proofs.cleaning.all_others.Given as goal

abbrev pub invariant-loop-place : goal.invariant-loop-place
invariant-loop-place l = AddsJust [] l.others (IsOtherBelow l.paths l.file l.place)
