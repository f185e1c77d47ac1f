use Rattle.std.proofs.Common.{◌≡◌, ◌≤◌, take}
use Rattle.work.specs.Commands.{count_unstarted}
use Rattle.work.proofs.commands.unstarted_commands.Given as goal

abbrev pub invariant-loop-place : goal.invariant-loop-place
invariant-loop-place l = record {
  count : l.count ≡ count_unstarted l.plan.standings.items (take l.place l.due);
  least : l.count ≤ l.place;
}
