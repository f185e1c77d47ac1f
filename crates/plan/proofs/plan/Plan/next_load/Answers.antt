use Rattle.std.proofs.Common.{◌∙◌, sym}
use Rattle.plan.proofs.FilesThere.{away_none}
use Rattle.plan.proofs.plan.Plan.next_load.Goals as goal

pub returns-then-not-may_load : goal.returns-then-not-may_load
returns-then-not-may_load c =
    let plan = c.args.self.now in
    away_none plan.there.items plan.loads.items (plan.come.none (sym c.may_load.ensures ∙ c.if-not-may_load.true))
