use Rattle.std.proofs.Common.{◌≡◌, drop}
use Rattle.audit.specs.Seen.{sums_in, with_untouched}
use Rattle.audit.proofs.seen.Uses.add_untouched.Given as goal

abbrev pub invariant-loop-place : goal.invariant-loop-place
invariant-loop-place l = with_untouched (sums_in l.initial.self) l.paths ≡ with_untouched (sums_in l.self) (drop l.place l.paths)
