use Rattle.std.proofs.Common.{◌≡◌, drop}
use Rattle.nj_run.specs.Traces.{first_side}
use Rattle.nj_run.proofs.traces.first_side.Given as goal

abbrev pub invariant-loop-action : goal.invariant-loop-action
invariant-loop-action l = first_side l.actions ≡ first_side (drop l.action-index l.actions)
