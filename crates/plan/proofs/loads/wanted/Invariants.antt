use Rattle.plan.proofs.Loaded.{AreWantedBy}
use Rattle.plan.proofs.loads.wanted.Given as goal

abbrev pub invariant-loop-place : goal.invariant-loop-place
invariant-loop-place l = AreWantedBy l.graph l.standings l.wanted.items l.place
