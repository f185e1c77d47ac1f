use Rattle.std.proofs.Common.{◌≡◌, drop, map}
use Rattle.std.specs.Fmt.{signed_decimal}
use Rattle.nj_run.proofs.shared.are_all.Given as goal

abbrev pub invariant-loop-number : goal.invariant-loop-number
invariant-loop-number l = l.left ≡ map signed_decimal (drop l.number-index l.numbers) → l.initial.left ≡ map signed_decimal l.numbers
