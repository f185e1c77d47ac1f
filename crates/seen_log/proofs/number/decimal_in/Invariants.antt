use Rattle.std.proofs.Common.{length}
use Rattle.seen_log.proofs.Digits.{IsReadTo}
use Rattle.seen_log.proofs.number.decimal_in.Given as goal

abbrev pub invariant-digits : goal.invariant-digits
invariant-digits l = IsReadTo l.bytes l.number l.rest

abbrev pub decreases-digits : goal.decreases-digits
decreases-digits l = length l.rest
