use Rattle.std.proofs.Common.{inl, inr, ◌∙◌, ◌∷◌, ◌++◌, [], ℕ, suc, true, false, Some, length, refl, sym, ap, subst}
use Rattle.std.proofs.Math.ListN.{set}
use Rattle.std.proofs.lemmas.Bool.{false≢true}
use Rattle.model.specs.Schedule.{Judged, done_in}
use Rattle.plan.specs.Turns.{Turns}
use Rattle.graph.specs.Links.{links_of}
use Rattle.plan.specs.declared.step.Standing.TheVariants.{Clean, OutOfDate}
use Rattle.plan.specs.declared.step.Verdict.{Verdict}
use Rattle.plan.specs.Standing.{is_out_of_date, is_outside, is_settled}
use Rattle.plan.specs.Plan.{standing_by, IsSettling}
use Rattle.plan.specs.Planned.{IsPlanned, is_stale}
use Rattle.plan.proofs.Stepping.{waits_same, waits_next, counted_next, ahead_sound, ahead_complete, over_same, pooled_next, IsHalf, half_of}
use Rattle.plan.proofs.Passing.{stood, within, sets_now, tallied_judged, half_clean, half_stale, half_after, pooled_after, loading_after, loading_next, settling_alone, settling}
use Rattle.plan.proofs.plan.Plan.judged.Goals as goal

pub invariant_of-self-clause-sets : goal.invariant_of-self-clause-sets
invariant_of-self-clause-sets c =
    let plan = c.args.self.now in
    sets_now plan.standings.items plan.left.items plan.ready plan.pending plan.sets c.index-place.result c.args.edge c.index-place.ensures.place c.requires.ready Clean c.remove.new.self refl refl c.remove.ensures

pub invariant_of-self-clause-waits : goal.invariant_of-self-clause-waits
invariant_of-self-clause-waits c =
    let plan = c.args.self.now in
    waits_same plan.standings.items c.index-place.result Clean (within plan.standings.items plan.left.items plan.ready plan.pending plan.sets c.index-place.result c.args.edge c.index-place.ensures.place c.requires.ready)
    plan.queue plan.queue refl (sym (ap is_out_of_date (stood plan.standings.items plan.left.items plan.ready plan.pending plan.sets c.index-place.result c.args.edge c.index-place.ensures.place c.requires.ready))) plan.waits

pub invariant_of-self-clause-tallied : goal.invariant_of-self-clause-tallied
invariant_of-self-clause-tallied c =
    let plan = c.args.self.now in
    tallied_judged plan.standings.items plan.left.items plan.ready plan.pending plan.sets c.index-place.result c.args.edge c.index-place.ensures.place c.requires.ready Clean plan.running plan.failed plan.well refl refl refl plan.tallied

pub invariant_of-self-in-OutOfDate-clause-sets : goal.invariant_of-self-in-OutOfDate-clause-sets
invariant_of-self-in-OutOfDate-clause-sets c =
    let plan = c.args.self.now in
    sets_now plan.standings.items plan.left.items plan.ready plan.pending plan.sets c.index-place.result c.args.edge c.index-place.ensures.place c.requires.ready OutOfDate c.remove.new.self refl refl c.remove.ensures

pub invariant_of-self-in-OutOfDate-clause-waits : goal.invariant_of-self-in-OutOfDate-clause-waits
invariant_of-self-in-OutOfDate-clause-waits c =
    let plan = c.args.self.now in
    waits_next plan.standings.items c.index-place.result OutOfDate (within plan.standings.items plan.left.items plan.ready plan.pending plan.sets c.index-place.result c.args.edge c.index-place.ensures.place c.requires.ready)
    plan.queue c.put.new.self true (ap (λ (t : Turns). t.waiting) c.put.ensures) refl plan.waits

pub invariant_of-self-in-OutOfDate-clause-tallied : goal.invariant_of-self-in-OutOfDate-clause-tallied
invariant_of-self-in-OutOfDate-clause-tallied c =
    let plan = c.args.self.now in
    tallied_judged plan.standings.items plan.left.items plan.ready plan.pending plan.sets c.index-place.result c.args.edge c.index-place.ensures.place c.requires.ready OutOfDate plan.running plan.failed plan.well refl refl refl plan.tallied

pub settle-requires-clause-ahead : goal.settle-requires-clause-ahead
settle-requires-clause-ahead c =
    let plan = c.args.self.now in
    let e = c.index-place.result in
    let lt = within plan.standings.items plan.left.items plan.ready plan.pending plan.sets e c.args.edge c.index-place.ensures.place c.requires.ready in
    let over = c.requires.over.over in
    record {
      counted = counted_next plan.standings.items e Clean lt (links_of c.args.graph.now) _ plan.left.items plan.there.items over (λ h. absurd (false≢true h));
      sound = ahead_sound plan.standings.items e Clean lt (links_of c.args.graph.now) _ plan.left.items plan.there.items over (λ h. absurd (false≢true h)) refl;
      complete = λ p inside is. elim (ahead_complete plan.standings.items e Clean lt (links_of c.args.graph.now) _ plan.left.items plan.there.items over (λ h. absurd (false≢true h)) refl p inside is) [
        | inl there ↦ inl there
        | inr made ↦ inr (made ∙ ap (λ (n : ℕ). Some n) c.index-place.ensures.place)
      ];
    }

pub returns-in-Clean-clause-over : goal.returns-in-Clean-clause-over
returns-in-Clean-clause-over c =
    let plan = c.args.self.now in
    let e = c.index-place.result in
    let lt = within plan.standings.items plan.left.items plan.ready plan.pending plan.sets e c.args.edge c.index-place.ensures.place c.requires.ready in
    let stands = stood plan.standings.items plan.left.items plan.ready plan.pending plan.sets e c.args.edge c.index-place.ensures.place c.requires.ready in
    let rest = c.settle.ensures.rest in
    record {
      over = c.settle.ensures.over;
      settled = c.settle.ensures.none;
      pooled = pooled_after c.args.graph.now _ c.settle.new.self.standings.items plan.queue c.settle.new.self.queue rest.queue rest.stands
          (pooled_next plan.standings.items e Clean lt c.args.graph.now plan.queue plan.queue refl refl refl (sym (ap is_outside stands)) c.requires.over.pooled);
      flags = ap (λ v. length v.items) rest.changed ∙ c.requires.over.flags;
      loading = loading_after c.args.graph.now _ c.settle.new.self.standings.items plan.queue c.settle.new.self.queue plan.loads.items c.settle.new.self.loads.items rest.queue rest.stands (ap (λ v. v.items) rest.loads)
          (loading_next c.args.graph.now plan.standings.items e Clean lt plan.queue plan.queue plan.loads.items refl (sym (ap is_outside stands)) c.requires.over.loading);
    }

pub returns-in-Clean-clause-stands : goal.returns-in-Clean-clause-stands
returns-in-Clean-clause-stands c =
    let plan = c.args.self.now in
    let e = c.index-place.result in
    let lt = within plan.standings.items plan.left.items plan.ready plan.pending plan.sets e c.args.edge c.index-place.ensures.place c.requires.ready in
    subst (λ (v : Verdict). IsSettling plan.standings.items c.settle.new.self.standings.items c.args.edge (standing_by v)) (sym c.in-Clean.is)
    (settling plan.standings.items e c.args.edge c.index-place.ensures.place Clean lt c.settle.new.self.standings.items refl c.settle.ensures.rest.fits c.settle.ensures.rest.stands)

pub returns-in-Clean-clause-planned : goal.returns-in-Clean-clause-planned
returns-in-Clean-clause-planned c = λ task steps at lawful next.
    let plan = c.args.self.now in
    let e = c.index-place.result in
    let rest = c.settle.ensures.rest in
    let half = half_clean plan.standings.items plan.left.items plan.ready plan.pending plan.sets e c.args.edge c.index-place.ensures.place c.requires.ready task plan.queue steps lawful (half_of task c.args.graph.now plan steps at) next.0.once next.0.command in
    let last = half_after task _ c.settle.new.self.standings.items plan.queue c.settle.new.self.queue (steps ++ Judged (suc c.args.edge) false ∷ []) half rest.queue rest.stands
    (λ phony old. c.settle.ensures.sound task (done_in (steps ++ Judged (suc c.args.edge) false ∷ [])) at.stated phony old) in
    subst (λ (v : Verdict). IsPlanned task c.args.graph.now c.settle.new.self (steps ++ Judged (suc c.args.edge) (is_stale v) ∷ [])) (sym c.in-Clean.is) record {
      stated = at.stated;
      limits = (rest.jobs ∙ at.limits.0, rest.keep ∙ at.limits.1);
      over = returns-in-Clean-clause-over c;
      within = last.within;
      inside = last.inside;
      kinds = last.kinds;
      stands = last.stands;
      settled = last.settled;
      runs = last.runs;
    }

pub returns-in-OutOfDate-clause-over : goal.returns-in-OutOfDate-clause-over
returns-in-OutOfDate-clause-over c =
    let plan = c.args.self.now in
    let e = c.index-place.result in
    let lt = within plan.standings.items plan.left.items plan.ready plan.pending plan.sets e c.args.edge c.index-place.ensures.place c.requires.ready in
    let stands = stood plan.standings.items plan.left.items plan.ready plan.pending plan.sets e c.args.edge c.index-place.ensures.place c.requires.ready in
    record {
      over = over_same plan.standings.items e OutOfDate lt (links_of c.args.graph.now) _ plan.left.items plan.there.items c.requires.over.over (λ h. absurd (false≢true h)) (sym (ap is_settled stands));
      settled = c.requires.over.settled;
      pooled = pooled_next plan.standings.items e OutOfDate lt c.args.graph.now plan.queue c.put.new.self (ap (λ (t : Turns). t.groups) c.put.ensures) (ap (λ (t : Turns). t.depths) c.put.ensures)
          (ap (λ (t : Turns). length t.running) c.put.ensures) (sym (ap is_outside stands)) c.requires.over.pooled;
      flags = c.requires.over.flags;
      loading = loading_next c.args.graph.now plan.standings.items e OutOfDate lt plan.queue c.put.new.self plan.loads.items (ap (λ (t : Turns). t.groups) c.put.ensures) (sym (ap is_outside stands)) c.requires.over.loading;
    }

pub returns-in-OutOfDate-clause-stands : goal.returns-in-OutOfDate-clause-stands
returns-in-OutOfDate-clause-stands c =
    let plan = c.args.self.now in
    let e = c.index-place.result in
    let lt = within plan.standings.items plan.left.items plan.ready plan.pending plan.sets e c.args.edge c.index-place.ensures.place c.requires.ready in
    subst (λ (v : Verdict). IsSettling plan.standings.items (set plan.standings.items e OutOfDate) c.args.edge (standing_by v)) (sym c.in-OutOfDate.is)
    (settling_alone plan.standings.items e c.args.edge c.index-place.ensures.place OutOfDate lt)

pub returns-in-OutOfDate-clause-planned : goal.returns-in-OutOfDate-clause-planned
returns-in-OutOfDate-clause-planned c = λ task steps at lawful next.
    let plan = c.args.self.now in
    let e = c.index-place.result in
    let half = subst (λ (v : Verdict). IsHalf task (set plan.standings.items e OutOfDate) c.put.new.self (steps ++ Judged (suc c.args.edge) (is_stale v) ∷ [])) (sym c.in-OutOfDate.is) (half_stale plan.standings.items plan.left.items plan.ready plan.pending plan.sets e c.args.edge c.index-place.ensures.place c.requires.ready task plan.queue steps lawful (half_of task c.args.graph.now plan steps at) next.0.once c.put.new.self c.put.ensures) in
    record {
      stated = at.stated;
      limits = at.limits;
      over = returns-in-OutOfDate-clause-over c;
      within = half.within;
      inside = half.inside;
      kinds = half.kinds;
      stands = half.stands;
      settled = half.settled;
      runs = half.runs;
    }
