use Rattle.std.proofs.Common.{◌∙◌, List, [], Bool, Vec, Global, length, sym, ap}
use Rattle.std.proofs.lemmas.List.{length-replicate}
use Rattle.plan.specs.Flags.{has}
use Rattle.plan.proofs.Begun.{half_first, none_flagged}
use Rattle.plan.proofs.Passing.{half_after, pooled_after, loading_after}
use Rattle.plan.proofs.plan.Plan.new.Goals as goal

pub returns-clause-over : goal.returns-clause-over
returns-clause-over c =
    let begun = c.in_ok-plan.ensures in
    let rest = c.settle_pending.ensures.rest in
    record {
      over = c.settle_pending.ensures.over;
      settled = c.settle_pending.ensures.none;
      pooled = pooled_after c.args.graph.now c.in_ok-plan.plan.standings.items c.settle_pending.new.self.standings.items c.in_ok-plan.plan.queue c.settle_pending.new.self.queue rest.queue rest.stands begun.idle.pooled;
      flags = ap (λ (v : Vec Bool Global). length v.items) rest.changed ∙ (ap (λ (l : List Bool). length l) begun.flags ∙ length-replicate _ _);
      loading = loading_after c.args.graph.now c.in_ok-plan.plan.standings.items c.settle_pending.new.self.standings.items c.in_ok-plan.plan.queue c.settle_pending.new.self.queue
          c.in_ok-plan.plan.loads.items c.settle_pending.new.self.loads.items rest.queue rest.stands (ap (λ v. v.items) rest.loads) begun.loading;
    }

pub returns-clause-flags : goal.returns-clause-flags
returns-clause-flags c = λ p.
    let begun = c.in_ok-plan.ensures in
    ap (λ (v : Vec Bool Global). has v.items p) c.settle_pending.ensures.rest.changed ∙ (ap (λ (l : List Bool). has l p) begun.flags ∙ none_flagged (length c.args.graph.now.manifest.paths) p)

pub returns-clause-planned : goal.returns-clause-planned
returns-clause-planned c = λ task stated jobs keep cone.
    let begun = c.in_ok-plan.ensures in
    let rest = c.settle_pending.ensures.rest in
    let before = c.in_ok-plan.plan in
    let after = c.settle_pending.new.self in
    let half = half_after task before.standings.items after.standings.items before.queue after.queue []
    (half_first task c.args.graph.now c.args.cone.now.marks.items c.args.cone.now.order.items before.standings.items before.queue stated cone begun.first begun.idle)
    rest.queue rest.stands (λ phony old. c.settle_pending.ensures.sound task [] stated phony old) in
    record {
      stated = stated;
      limits = (rest.jobs ∙ (begun.limits.0 ∙ sym jobs), rest.keep ∙ (begun.limits.1 ∙ sym keep));
      over = returns-clause-over c;
      within = half.within;
      inside = half.inside;
      kinds = half.kinds;
      stands = half.stands;
      settled = half.settled;
      runs = half.runs;
    }
