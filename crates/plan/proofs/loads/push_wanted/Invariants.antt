use Rattle.plan.proofs.Loaded.{HavePushedBy}
use Rattle.plan.proofs.loads.push_wanted.Given as goal

abbrev pub invariant-loop-place : goal.invariant-loop-place
invariant-loop-place l = HavePushedBy l.graph l.made l.fn.wanted l.wanted l.fn.loads.items l.loads.items l.place
