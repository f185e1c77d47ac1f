use Rattle.std.proofs.Common.{◌≡◌, drop}
use Rattle.audit.specs.Seen.{no_sums, sums_in, with_all_done}
use Rattle.audit.proofs.seen.uses_of.Given as goal

abbrev pub invariant-loop-place : goal.invariant-loop-place
invariant-loop-place l = with_all_done no_sums l.wholes l.bys ≡ with_all_done (sums_in l.uses) (drop l.place l.wholes) (drop l.place l.bys)
