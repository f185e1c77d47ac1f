use Rattle.std.proofs.Common.{subst, MatchOption}
use Rattle.plan.specs.Turns.{Turns, NoTurn, IsFirstTurn}
use Rattle.plan.proofs.Changing.{first_turn}
use Rattle.plan.proofs.queue.Queue.first.Goals as goal

pub returns : goal.returns
returns c =
    subst (λ (t : Turns). MatchOption c.first.result (NoTurn t) (IsFirstTurn t)) c.self.view_is
    (first_turn c.self.inside.groups.items c.self.inside.ranks.items c.self.inside.pools.items c.self.inside.waiting.items c.self.inside.front c.self.invariant c.first.result c.first.ensures)
