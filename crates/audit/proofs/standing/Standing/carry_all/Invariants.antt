use Rattle.std.proofs.Common.{◌≡◌, drop}
use Rattle.audit.specs.Standing.{with_pairs}
use Rattle.audit.proofs.standing.Standing.carry_all.Given as goal

abbrev pub invariant-loop-pair : goal.invariant-loop-pair
invariant-loop-pair l = with_pairs l.initial.self l.pairs ≡ with_pairs l.self (drop l.pair-index l.pairs)
