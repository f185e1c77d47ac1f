use Rattle.std.proofs.Common.{◌≡◌, take}
use Rattle.plan.specs.Settling.{IsStill}
use Rattle.plan.proofs.Arriving.{IsTold}
use Rattle.plan.proofs.plan.Plan.arrive.Given as goal

abbrev pub invariant-loop-user : goal.invariant-loop-user
invariant-loop-user l =
    IsStill l.fn.self l.self
    × IsTold l.self.standings.items (take l.user-index l.user-items) l.fn.self.left.items l.self.left.items
    × (l.self.there.items ≡ l.initial.self.there.items)
