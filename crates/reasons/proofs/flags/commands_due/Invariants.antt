use Rattle.std.proofs.Common.{◌≡◌, length}
use Rattle.reasons.specs.Why.{AreCommands}
use Rattle.reasons.proofs.flags.commands_due.Given as goal

abbrev pub invariant-loop-place : goal.invariant-loop-place
invariant-loop-place l = record {
  fits : length l.flags.items ≡ l.place;
  flags : AreCommands l.graph l.due l.place l.flags.items;
}
