use Rattle.std.proofs.Common.{◌≡◌}
use Rattle.log_text.specs.Taken.{AreTakenBehind}
use Rattle.log_text.proofs.kept.Kept.follow_more.Given as goal

abbrev pub invariant-loop : goal.invariant-loop
invariant-loop g l = record {
  outputs : l.self-inside.outputs ≡ l.initial.self-inside.outputs;
  in_force : l.self-inside.in_force ≡ l.initial.self-inside.in_force;
  told : l.self-inside.told ≡ l.initial.self-inside.told;
  records : l.self-inside.records ≡ l.initial.self-inside.records;
  taken : AreTakenBehind l.self-inside.outputs l.initial.numbers.items l.bytes l.counter l.numbers.items l.rest;
}
