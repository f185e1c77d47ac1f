use Rattle.std.proofs.Common.{◌≡◌, inl, inr, ◌∙◌, ◌∷◌, ◌++◌, [], ℕ, suc, Bool, true, List, Some, length, refl, sym, ap, subst, arith}
use Rattle.std.proofs.Math.ListN.{set}
use Rattle.std.proofs.lemmas.Bool.{false≢true}
use Rattle.std.proofs.lemmas.List.{with_items_is}
use Rattle.model.specs.Schedule.{Ended, done_in}
use Rattle.plan.specs.Turns.{Turns}
use Rattle.graph.specs.Links.{links_of}
use Rattle.plan.specs.declared.step.Standing.TheVariants.{Well, Failed}
use Rattle.plan.specs.Standing.{is_unjudged, is_alias, is_out_of_date, is_outside, is_settled}
use Rattle.plan.specs.Plan.{standing_after, IsSettling}
use Rattle.plan.specs.Planned.{IsPlanned}
use Rattle.plan.proofs.Stepping.{sets_same, waits_same, counted_next, ahead_sound, ahead_complete, over_same, IsHalf, half_of}
use Rattle.plan.proofs.Passing.{half_after, pooled_after, loading_after, loading_next, settling_alone, settling}
use Rattle.plan.proofs.Ending.{stood, within, tallied_well, tallied_failed, some_run, pooled_ended, half_well, half_failed}
use Rattle.plan.specs.Changed.{IsForEach}
use Rattle.plan.proofs.Noting.{noted_for}
use Rattle.plan.proofs.plan.Plan.finished.Goals as goal

pub invariant_of-self-clause-sets : goal.invariant_of-self-clause-sets
invariant_of-self-clause-sets c =
    let plan = c.args.self.now in
    let e = c.index-place.result in
    let lt = within plan.standings.items e c.args.edge c.index-place.ensures.place c.requires.running in
    let stands = stood plan.standings.items e c.args.edge c.index-place.ensures.place c.requires.running in
    sets_same plan.standings.items e Well lt plan.left.items plan.ready plan.pending (sym (ap is_unjudged stands)) (sym (ap is_alias stands)) plan.sets

pub invariant_of-self-clause-waits : goal.invariant_of-self-clause-waits
invariant_of-self-clause-waits c =
    let plan = c.args.self.now in
    let e = c.index-place.result in
    let lt = within plan.standings.items e c.args.edge c.index-place.ensures.place c.requires.running in
    let stands = stood plan.standings.items e c.args.edge c.index-place.ensures.place c.requires.running in
    waits_same plan.standings.items e Well lt plan.queue c.release.new.self (ap (λ (t : Turns). t.waiting) c.release.ensures) (sym (ap is_out_of_date stands)) plan.waits

pub invariant_of-self-clause-tallied : goal.invariant_of-self-clause-tallied
invariant_of-self-clause-tallied c =
    let plan = c.args.self.now in
    let e = c.index-place.result in
    let lt = within plan.standings.items e c.args.edge c.index-place.ensures.place c.requires.running in
    let stands = stood plan.standings.items e c.args.edge c.index-place.ensures.place c.requires.running in
    tallied_well plan.standings.items e c.args.edge c.index-place.ensures.place c.requires.running plan.running plan.failed plan.well (some_run plan.standings.items e c.args.edge c.index-place.ensures.place c.requires.running plan.running plan.failed plan.well plan.tallied) plan.tallied

pub invariant_of-self-else-ok-clause-sets : goal.invariant_of-self-else-ok-clause-sets
invariant_of-self-else-ok-clause-sets c =
    let plan = c.args.self.now in
    let e = c.index-place.result in
    let lt = within plan.standings.items e c.args.edge c.index-place.ensures.place c.requires.running in
    let stands = stood plan.standings.items e c.args.edge c.index-place.ensures.place c.requires.running in
    sets_same plan.standings.items e Failed lt plan.left.items plan.ready plan.pending (sym (ap is_unjudged stands)) (sym (ap is_alias stands)) plan.sets

pub invariant_of-self-else-ok-clause-waits : goal.invariant_of-self-else-ok-clause-waits
invariant_of-self-else-ok-clause-waits c =
    let plan = c.args.self.now in
    let e = c.index-place.result in
    let lt = within plan.standings.items e c.args.edge c.index-place.ensures.place c.requires.running in
    let stands = stood plan.standings.items e c.args.edge c.index-place.ensures.place c.requires.running in
    waits_same plan.standings.items e Failed lt plan.queue c.release.new.self (ap (λ (t : Turns). t.waiting) c.release.ensures) (sym (ap is_out_of_date stands)) plan.waits

pub invariant_of-self-else-ok-clause-tallied : goal.invariant_of-self-else-ok-clause-tallied
invariant_of-self-else-ok-clause-tallied c =
    let plan = c.args.self.now in
    let e = c.index-place.result in
    let lt = within plan.standings.items e c.args.edge c.index-place.ensures.place c.requires.running in
    let stands = stood plan.standings.items e c.args.edge c.index-place.ensures.place c.requires.running in
    tallied_failed plan.standings.items e c.args.edge c.index-place.ensures.place c.requires.running plan.running plan.failed plan.well (some_run plan.standings.items e c.args.edge c.index-place.ensures.place c.requires.running plan.running plan.failed plan.well plan.tallied) plan.tallied

pub settle-requires-clause-ahead : goal.settle-requires-clause-ahead
settle-requires-clause-ahead c =
    let plan = c.args.self.now in
    let e = c.index-place.result in
    let lt = within plan.standings.items e c.args.edge c.index-place.ensures.place c.requires.running in
    let stands = stood plan.standings.items e c.args.edge c.index-place.ensures.place c.requires.running in
    let over = c.requires.over.over in
    record {
      counted = counted_next plan.standings.items e Well lt (links_of c.args.graph.now) _ plan.left.items plan.there.items over (λ h. absurd (false≢true h));
      sound = ahead_sound plan.standings.items e Well lt (links_of c.args.graph.now) _ plan.left.items plan.there.items over (λ h. absurd (false≢true h)) refl;
      complete = λ p inside is. elim (ahead_complete plan.standings.items e Well lt (links_of c.args.graph.now) _ plan.left.items plan.there.items over (λ h. absurd (false≢true h)) refl p inside is) [
        | inl there ↦ inl there
        | inr made ↦ inr (made ∙ ap (λ (n : ℕ). Some n) c.index-place.ensures.place)
      ];
    }

pub returns-then-ok-clause-over : goal.returns-then-ok-clause-over
returns-then-ok-clause-over c =
    let plan = c.args.self.now in
    let e = c.index-place.result in
    let lt = within plan.standings.items e c.args.edge c.index-place.ensures.place c.requires.running in
    let stands = stood plan.standings.items e c.args.edge c.index-place.ensures.place c.requires.running in
    let size : length c.note_changes.new.flags ≡ plan.changed.len = omega (arith, c.note_changes.ensures.length, ap (λ (l : List Bool). length l) c.deref_mut.ensures.value, plan.changed.ok.0) in
    let flags = ap (λ (l : List Bool). length l) (with_items_is plan.changed c.note_changes.new.flags size) ∙ (c.note_changes.ensures.length ∙ (ap (λ (l : List Bool). length l) c.deref_mut.ensures.value ∙ c.requires.over.flags)) in
    let rest = c.settle.ensures.rest in
    record {
      over = c.settle.ensures.over;
      settled = c.settle.ensures.none;
      pooled = pooled_after c.args.graph.now _ c.settle.new.self.standings.items c.release.new.self c.settle.new.self.queue rest.queue rest.stands
          (pooled_ended plan.standings.items e c.args.edge c.index-place.ensures.place c.requires.running plan.queue c.release.new.self c.release.ensures c.args.graph.now Well refl c.requires.over.pooled);
      flags = ap (λ v. length v.items) rest.changed ∙ flags;
      loading = loading_after c.args.graph.now _ c.settle.new.self.standings.items c.release.new.self c.settle.new.self.queue plan.loads.items c.settle.new.self.loads.items rest.queue rest.stands (ap (λ v. v.items) rest.loads)
          (loading_next c.args.graph.now plan.standings.items e Well lt plan.queue c.release.new.self plan.loads.items (ap (λ (t : Turns). t.groups) c.release.ensures) (sym (ap is_outside stands)) c.requires.over.loading);
    }

pub returns-else-ok-clause-over : goal.returns-else-ok-clause-over
returns-else-ok-clause-over c =
    let plan = c.args.self.now in
    let e = c.index-place.result in
    let lt = within plan.standings.items e c.args.edge c.index-place.ensures.place c.requires.running in
    let stands = stood plan.standings.items e c.args.edge c.index-place.ensures.place c.requires.running in
    let size : length c.note_changes.new.flags ≡ plan.changed.len = omega (arith, c.note_changes.ensures.length, ap (λ (l : List Bool). length l) c.deref_mut.ensures.value, plan.changed.ok.0) in
    let flags = ap (λ (l : List Bool). length l) (with_items_is plan.changed c.note_changes.new.flags size) ∙ (c.note_changes.ensures.length ∙ (ap (λ (l : List Bool). length l) c.deref_mut.ensures.value ∙ c.requires.over.flags)) in
    record {
      over = over_same plan.standings.items e Failed lt (links_of c.args.graph.now) _ plan.left.items plan.there.items c.requires.over.over (λ h. absurd (false≢true h)) (sym (ap is_settled stands));
      settled = c.requires.over.settled;
      pooled = pooled_ended plan.standings.items e c.args.edge c.index-place.ensures.place c.requires.running plan.queue c.release.new.self c.release.ensures c.args.graph.now Failed refl c.requires.over.pooled;
      flags = flags;
      loading = loading_next c.args.graph.now plan.standings.items e Failed lt plan.queue c.release.new.self plan.loads.items (ap (λ (t : Turns). t.groups) c.release.ensures) (sym (ap is_outside stands)) c.requires.over.loading;
    }

pub returns-then-ok-clause-stands : goal.returns-then-ok-clause-stands
returns-then-ok-clause-stands c =
    let plan = c.args.self.now in
    let e = c.index-place.result in
    let lt = within plan.standings.items e c.args.edge c.index-place.ensures.place c.requires.running in
    let stands = stood plan.standings.items e c.args.edge c.index-place.ensures.place c.requires.running in
    subst (λ (b : Bool). IsSettling plan.standings.items c.settle.new.self.standings.items c.args.edge (standing_after b)) (sym c.if-ok.true)
    (settling plan.standings.items e c.args.edge c.index-place.ensures.place Well lt c.settle.new.self.standings.items refl c.settle.ensures.rest.fits c.settle.ensures.rest.stands)

pub returns-else-ok-clause-stands : goal.returns-else-ok-clause-stands
returns-else-ok-clause-stands c =
    let plan = c.args.self.now in
    let e = c.index-place.result in
    let lt = within plan.standings.items e c.args.edge c.index-place.ensures.place c.requires.running in
    let stands = stood plan.standings.items e c.args.edge c.index-place.ensures.place c.requires.running in
    subst (λ (b : Bool). IsSettling plan.standings.items (set plan.standings.items e Failed) c.args.edge (standing_after b)) (sym c.if-ok.false)
    (settling_alone plan.standings.items e c.args.edge c.index-place.ensures.place Failed lt)

pub returns-then-ok-clause-planned : goal.returns-then-ok-clause-planned
returns-then-ok-clause-planned c = λ task steps at lawful next.
    let plan = c.args.self.now in
    let e = c.index-place.result in
    let rest = c.settle.ensures.rest in
    let half = half_well plan.standings.items e c.args.edge c.index-place.ensures.place c.requires.running plan.queue c.release.new.self c.release.ensures task steps lawful (half_of task c.args.graph.now plan steps at) next in
    let last = half_after task _ c.settle.new.self.standings.items c.release.new.self c.settle.new.self.queue (steps ++ Ended (suc c.args.edge) true ∷ []) half rest.queue rest.stands
    (λ phony old. c.settle.ensures.sound task (done_in (steps ++ Ended (suc c.args.edge) true ∷ [])) at.stated phony old) in
    subst (λ (b : Bool). IsPlanned task c.args.graph.now c.settle.new.self (steps ++ Ended (suc c.args.edge) b ∷ [])) (sym c.if-ok.true) record {
      stated = at.stated;
      limits = (rest.jobs ∙ at.limits.0, rest.keep ∙ at.limits.1);
      over = returns-then-ok-clause-over c;
      within = last.within;
      inside = last.inside;
      kinds = last.kinds;
      stands = last.stands;
      settled = last.settled;
      runs = last.runs;
    }

pub returns-else-ok-clause-planned : goal.returns-else-ok-clause-planned
returns-else-ok-clause-planned c = λ task steps at lawful next.
    let plan = c.args.self.now in
    let e = c.index-place.result in
    let half = subst (λ (b : Bool). IsHalf task (set plan.standings.items e Failed) c.release.new.self (steps ++ Ended (suc c.args.edge) b ∷ [])) (sym c.if-ok.false)
    (half_failed plan.standings.items e c.args.edge c.index-place.ensures.place c.requires.running plan.queue c.release.new.self c.release.ensures task steps lawful (half_of task c.args.graph.now plan steps at) next) in
    record {
      stated = at.stated;
      limits = at.limits;
      over = returns-else-ok-clause-over c;
      within = half.within;
      inside = half.inside;
      kinds = half.kinds;
      stands = half.stands;
      settled = half.settled;
      runs = half.runs;
    }

pub note_changes-requires-clause-fits : goal.note_changes-requires-clause-fits
note_changes-requires-clause-fits c = subst (λ (l : List ℕ). IsForEach c.args.changed l) (sym {A = List ℕ} c.outputs.ensures) c.requires.flags

pub returns-then-ok-clause-flags : goal.returns-then-ok-clause-flags
returns-then-ok-clause-flags c =
    let plan = c.args.self.now in
    let size : length c.note_changes.new.flags ≡ plan.changed.len = omega (arith, c.note_changes.ensures.length, ap (λ (l : List Bool). length l) c.deref_mut.ensures.value, plan.changed.ok.0) in
    noted_for plan.changed.items c.deref_mut.result.now _ c.outputs.result.now _ c.args.changed c.note_changes.new.flags c.deref_mut.ensures.value c.outputs.ensures (ap (λ v. v.items) c.settle.ensures.rest.changed ∙ with_items_is plan.changed c.note_changes.new.flags size) c.note_changes.ensures.flags

pub returns-else-ok-clause-flags : goal.returns-else-ok-clause-flags
returns-else-ok-clause-flags c =
    let plan = c.args.self.now in
    let size : length c.note_changes.new.flags ≡ plan.changed.len = omega (arith, c.note_changes.ensures.length, ap (λ (l : List Bool). length l) c.deref_mut.ensures.value, plan.changed.ok.0) in
    noted_for plan.changed.items c.deref_mut.result.now _ c.outputs.result.now _ c.args.changed c.note_changes.new.flags c.deref_mut.ensures.value c.outputs.ensures (with_items_is plan.changed c.note_changes.new.flags size) c.note_changes.ensures.flags
