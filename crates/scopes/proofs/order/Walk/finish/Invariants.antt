use Rattle.std.proofs.Common.{◌≡◌}
use Rattle.scopes.specs.Walk.{IsWalk, work}
use Rattle.scopes.proofs.order.Walk.finish.Given as goal

abbrev pub invariant-walk : goal.invariant-walk
invariant-walk l = record {
  walk : IsWalk l.self;
  at : l.self.at.now ≡ l.fn.self.at.now;
  asked : l.self.asked.now ≡ l.fn.self.asked.now;
}

abbrev pub decreases-walk : goal.decreases-walk
decreases-walk l = work l.self
