use Rattle.std.proofs.Common.{rules, ◌≡◌, ◌∙◌, ◌∷◌, ◌++◌, [], ℕ, suc, Bool, List, length, ap, sym, subst, arith}
use Rattle.std.proofs.Math.ListN.{set}
use Rattle.std.proofs.lemmas.List.{length-set, with_items_is}
use Rattle.model.specs.Schedule.{Ended, done_in}
use Rattle.plan.specs.declared.step.Standing.{Standing}
use Rattle.plan.specs.declared.step.Standing.TheVariants.{Running}
use Rattle.graph.specs.Links.{links_of}
use Rattle.plan.specs.Changed.{IsForEach, AreNoted}
use Rattle.plan_plain.specs.Planned.{AreStood}
use Rattle.plan_plain.proofs.Telling.{at_same, running_within, stood_ended, planned_now, settling_ended}
use Rattle.plan_plain.proofs.plain.Plan.finished.Goals as goal

pub returns-clause-stands : goal.returns-clause-stands
returns-clause-stands c =
    let standings = c.args.self.now.standings.items in
    let e = c.index.result in
    let rest = c.settle_aliases.ensures.rest in
    settling_ended standings c.settle_aliases.new.self.standings.items e c.args.edge c.index.ensures.place (running_within standings e (at_same standings e c.args.edge c.index.ensures.place Running c.requires.running))
    c.standing_after.result rest.fits rest.stands c.args.ok c.standing_after.ensures

pub returns-clause-planned : goal.returns-clause-planned
returns-clause-planned c = λ task steps at lawful next.
    let standings = c.args.self.now.standings.items in
    let e = c.index.result in
    let rest = c.settle_aliases.ensures.rest in
    let flags : length c.settle_aliases.new.self.changed.items ≡ length c.args.graph.now.manifest.paths = search rules in
    let more = steps ++ Ended (suc c.args.edge) c.args.ok ∷ [] in
    planned_now task c.args.graph.now c.settle_aliases.new.self (set standings e c.standing_after.result) more at.stated (rest.jobs ∙ at.limits.0, rest.keep ∙ at.limits.1) record {
      plain = c.requires.over.plain;
      edges = rest.fits ∙ (length-set standings e c.standing_after.result ∙ c.requires.over.edges);
      flags = flags;
      settled = c.settle_aliases.ensures.none;
    }
    (subst (λ (s : Standing). AreStood task (set standings e s) more) (sym c.standing_after.ensures)
    (stood_ended c.steps_move.ensures task standings steps lawful at.stood e c.args.edge c.index.ensures.place c.args.ok (at_same standings e c.args.edge c.index.ensures.place Running c.requires.running) next))
    rest.stands (λ aliases sound. c.settle_aliases.ensures.sound task (done_in more) at.stated aliases sound)

pub note_changes-requires-clause-fits : goal.note_changes-requires-clause-fits
note_changes-requires-clause-fits c = subst (λ (l : List ℕ). IsForEach c.args.changed l) (sym {A = List ℕ} c.outputs.ensures) c.requires.flags

pub returns-clause-flags : goal.returns-clause-flags
returns-clause-flags c =
    let plan = c.args.self.now in
    let outputs = (links_of c.args.graph.now).outputs c.args.edge in
    let flags = c.note_changes.new.flags in
    let size : length flags ≡ plan.changed.len = omega (arith, c.note_changes.ensures.length, ap (λ (l : List Bool). length l) c.deref_mut.ensures.value, plan.changed.ok.0) in
    let is : c.settle_aliases.new.self.changed.items ≡ flags = ap (λ v. v.items) c.settle_aliases.ensures.rest.changed ∙ with_items_is plan.changed flags size in
    subst (λ (l : List Bool). AreNoted plan.changed.items l outputs c.args.changed) (sym {A = List Bool} is)
    (subst (λ (l : List Bool). AreNoted l flags outputs c.args.changed) c.deref_mut.ensures.value
    (subst (λ (l : List ℕ). AreNoted c.deref_mut.result.now flags l c.args.changed) c.outputs.ensures c.note_changes.ensures.flags))
