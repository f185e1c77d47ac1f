use Rattle.std.proofs.Common.{◌∙◌, ◌∷◌, ◌++◌, [], suc, length, sym, ap, subst}
use Rattle.std.proofs.Math.ListN.{set}
use Rattle.std.proofs.lemmas.List.{length-set}
use Rattle.model.specs.Schedule.{Judged, done_in}
use Rattle.plan.specs.declared.step.Standing.{Standing}
use Rattle.plan.specs.declared.step.Standing.TheVariants.{Unjudged}
use Rattle.plan.specs.Planned.{is_stale}
use Rattle.plan_plain.specs.Planned.{AreStood}
use Rattle.plan_plain.proofs.Telling.{at_same, unjudged_within, stood_judged, planned_now, settling_judged}
use Rattle.plan_plain.proofs.plain.Plan.judged.Goals as goal

pub returns-clause-over : goal.returns-clause-over
returns-clause-over c =
    let rest = c.settle_aliases.ensures.rest in
    record {
      plain = c.requires.over.plain;
      edges = rest.fits ∙ (length-set c.args.self.now.standings.items c.index.result c.standing_by.result ∙ c.requires.over.edges);
      flags = ap (λ v. length v.items) rest.changed ∙ c.requires.over.flags;
      settled = c.settle_aliases.ensures.none;
    }

pub returns-clause-stands : goal.returns-clause-stands
returns-clause-stands c =
    let standings = c.args.self.now.standings.items in
    let e = c.index.result in
    let rest = c.settle_aliases.ensures.rest in
    settling_judged standings c.settle_aliases.new.self.standings.items e c.args.edge c.index.ensures.place (unjudged_within standings e (at_same standings e c.args.edge c.index.ensures.place Unjudged c.requires.ready))
    c.standing_by.result rest.fits rest.stands c.args.verdict c.standing_by.ensures

pub returns-clause-planned : goal.returns-clause-planned
returns-clause-planned c = λ task steps at lawful next.
    let standings = c.args.self.now.standings.items in
    let e = c.index.result in
    let rest = c.settle_aliases.ensures.rest in
    let more = steps ++ Judged (suc c.args.edge) (is_stale c.args.verdict) ∷ [] in
    planned_now task c.args.graph.now c.settle_aliases.new.self (set standings e c.standing_by.result) more at.stated (rest.jobs ∙ at.limits.0, rest.keep ∙ at.limits.1) record {
      plain = c.requires.over.plain;
      edges = rest.fits ∙ (length-set standings e c.standing_by.result ∙ c.requires.over.edges);
      flags = ap (λ v. length v.items) rest.changed ∙ c.requires.over.flags;
      settled = c.settle_aliases.ensures.none;
    }
    (subst (λ (s : Standing). AreStood task (set standings e s) more) (sym c.standing_by.ensures)
    (stood_judged c.steps_move.ensures task standings steps lawful at.stood e c.args.edge c.index.ensures.place c.args.verdict (at_same standings e c.args.edge c.index.ensures.place Unjudged c.requires.ready) next))
    rest.stands (λ aliases sound. c.settle_aliases.ensures.sound task (done_in more) at.stated aliases sound)
