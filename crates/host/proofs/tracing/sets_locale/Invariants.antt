use Rattle.std.proofs.Common.{◌≡◌, length}
use Rattle.host.specs.Traced.{sets_locale, sets_within}
use Rattle.host.proofs.tracing.sets_locale.Given as goal

abbrev pub invariant-loop-byte : goal.invariant-loop-byte
invariant-loop-byte l = sets_locale l.fn.variables ≡ sets_within l.rest

abbrev pub decreases-loop-byte : goal.decreases-loop-byte
decreases-loop-byte l = length l.rest
