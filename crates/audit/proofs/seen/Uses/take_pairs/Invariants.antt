use Rattle.std.proofs.Common.{◌≡◌, drop}
use Rattle.audit.specs.Seen.{sums_in, with_pairs}
use Rattle.audit.proofs.seen.Uses.take_pairs.Given as goal

abbrev pub invariant-loop-pair : goal.invariant-loop-pair
invariant-loop-pair l = with_pairs (sums_in l.initial.self) l.pairs ≡ with_pairs (sums_in l.self) (drop l.pair-index l.pairs)
