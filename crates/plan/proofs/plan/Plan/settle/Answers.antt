use Rattle.std.proofs.Common.{◌∙◌, List, sym, ap}
use Rattle.plan.specs.declared.step.Standing.{Standing}
use Rattle.plan.specs.Standing.{standing_at, is_settled}
use Rattle.plan.proofs.Settling.{ahead_over, still_aliases}
use Rattle.plan.proofs.plan.Plan.settle.Goals as goal

pub settle_pending-requires : goal.settle_pending-requires
settle_pending-requires c =
    ahead_over c.args.graph.now c.args.edge c.args.self.now c.arrive_all.new.self.standings.items c.arrive_all.new.self.left.items c.arrive_all.new.self.there.items c.requires.ahead c.requires.settled
    c.arrive_all.ensures.rest.standings c.arrive_all.ensures.counted c.arrive_all.ensures.made c.arrive_all.ensures.others

pub returns-clause-rest : goal.returns-clause-rest
returns-clause-rest c = still_aliases c.args.self.now c.arrive_all.new.self c.settle_pending.new.self c.arrive_all.ensures.rest c.settle_pending.ensures.rest

pub returns-clause-sound : goal.returns-clause-sound
returns-clause-sound c = λ task done stated phony sound.
    c.settle_pending.ensures.sound task done stated
    (λ e stands. phony e (sym (ap (λ (s : List Standing). standing_at s e) c.arrive_all.ensures.rest.standings) ∙ stands))
    (λ e settled. sound e (sym (ap (λ (s : List Standing). is_settled (standing_at s e)) c.arrive_all.ensures.rest.standings) ∙ settled))
