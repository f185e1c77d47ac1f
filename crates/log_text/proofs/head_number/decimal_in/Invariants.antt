use Rattle.std.proofs.Common.{length}
use Rattle.log_text.proofs.Digits.{IsReadTo}
use Rattle.log_text.proofs.head_number.decimal_in.Given as goal

abbrev pub invariant-digits : goal.invariant-digits
invariant-digits l = IsReadTo l.bytes l.number l.rest

abbrev pub decreases-digits : goal.decreases-digits
decreases-digits l = length l.rest
