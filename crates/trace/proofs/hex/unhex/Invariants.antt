use Rattle.std.proofs.Common.{◌≡◌, ◌++◌, length}
use Rattle.std.specs.Prelude.{option_map}
use Rattle.trace.specs.Hex.{unhex}
use Rattle.trace.proofs.hex.unhex.Given as goal

abbrev pub invariant-bytes : goal.invariant-bytes
invariant-bytes l = unhex l.text ≡ option_map (λ more. l.bytes.items ++ more) (unhex l.rest)

abbrev pub decreases-bytes : goal.decreases-bytes
decreases-bytes l = length l.rest
