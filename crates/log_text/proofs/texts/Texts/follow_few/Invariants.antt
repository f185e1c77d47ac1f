use Rattle.std.proofs.Common.{◌≤◌, ◌-◌, length}
use Rattle.log_text.specs.Taken.{AreTakenFrom}
use Rattle.log_text.proofs.texts.Texts.follow_few.Given as goal

abbrev pub invariant-loop-rest : goal.invariant-loop-rest
invariant-loop-rest l = record {
  taken : AreTakenFrom l.self l.bytes (length l.numbers.items) l.numbers.items l.rest;
  most : length l.numbers.items ≤ l.count;
}

abbrev pub decreases-loop-rest : goal.decreases-loop-rest
decreases-loop-rest l = l.count - length l.numbers.items
