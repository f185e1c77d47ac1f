use Rattle.std.proofs.Common.{false, refl, sym, ap}
use Rattle.std.proofs.lemmas.Bool.{false≢true}
use Rattle.plan.specs.Turns.{Turns}
use Rattle.graph.specs.Links.{links_of}
use Rattle.plan.specs.declared.step.Standing.TheVariants.{Running}
use Rattle.plan.specs.Standing.{is_unjudged, is_alias, is_outside, is_settled}
use Rattle.plan.proofs.Stepping.{sets_same, waits_next, over_same, half_of}
use Rattle.plan.proofs.Passing.{loading_next}
use Rattle.plan.proofs.Taking.{stood, within, tallied_started, pooled_started, half_started}
use Rattle.plan.proofs.plan.Plan.started.Goals as goal

pub invariant_of-self-clause-sets : goal.invariant_of-self-clause-sets
invariant_of-self-clause-sets c =
    let plan = c.args.self.now in
    let stands = stood plan.standings.items plan.queue plan.waits c.index-place.result c.args.edge c.index-place.ensures.place c.requires in
    sets_same plan.standings.items c.index-place.result Running (within plan.standings.items plan.queue plan.waits c.index-place.result c.args.edge c.index-place.ensures.place c.requires)
    plan.left.items plan.ready plan.pending (sym (ap is_unjudged stands)) (sym (ap is_alias stands)) plan.sets

pub invariant_of-self-clause-waits : goal.invariant_of-self-clause-waits
invariant_of-self-clause-waits c =
    let plan = c.args.self.now in
    waits_next plan.standings.items c.index-place.result Running (within plan.standings.items plan.queue plan.waits c.index-place.result c.args.edge c.index-place.ensures.place c.requires)
    plan.queue c.take.new.self false (ap (λ (t : Turns). t.waiting) c.take.ensures) refl plan.waits

pub invariant_of-self-clause-tallied : goal.invariant_of-self-clause-tallied
invariant_of-self-clause-tallied c =
    let plan = c.args.self.now in
    tallied_started plan.standings.items plan.queue plan.waits c.index-place.result c.args.edge c.index-place.ensures.place c.requires plan.running plan.failed plan.well plan.tallied

pub returns-clause-over : goal.returns-clause-over
returns-clause-over c = λ graph at.
    let plan = c.args.self.now in
    let e = c.index-place.result in
    let stands = stood plan.standings.items plan.queue plan.waits e c.args.edge c.index-place.ensures.place c.requires in
    record {
      over = over_same plan.standings.items e Running (within plan.standings.items plan.queue plan.waits e c.args.edge c.index-place.ensures.place c.requires)
          (links_of graph) _ plan.left.items plan.there.items at.over (λ h. absurd (false≢true h)) (sym (ap is_settled stands));
      settled = at.settled;
      pooled = pooled_started plan.standings.items plan.queue plan.waits e c.args.edge c.index-place.ensures.place c.requires c.take.new.self c.take.ensures graph at.pooled;
      flags = at.flags;
      loading = loading_next graph plan.standings.items e Running (within plan.standings.items plan.queue plan.waits e c.args.edge c.index-place.ensures.place c.requires)
          plan.queue c.take.new.self plan.loads.items (ap (λ (t : Turns). t.groups) c.take.ensures) (sym (ap is_outside stands)) at.loading;
    }

pub returns-clause-planned : goal.returns-clause-planned
returns-clause-planned c = λ graph task steps at lawful next.
    let plan = c.args.self.now in
    let e = c.index-place.result in
    let half = half_started plan.standings.items plan.queue plan.waits e c.args.edge c.index-place.ensures.place c.requires c.take.new.self c.take.ensures task graph steps at.over.pooled lawful next.1.once (half_of task graph plan steps at) in
    record {
      stated = at.stated;
      limits = at.limits;
      over = returns-clause-over c graph at.over;
      within = half.within;
      inside = half.inside;
      kinds = half.kinds;
      stands = half.stands;
      settled = half.settled;
      runs = half.runs;
    }
