use Rattle.std.proofs.Common.{◌≡◌, ◌∙◌, true, refl, ap}
use Rattle.std.proofs.lemmas.List.{length-set}
use Rattle.std.proofs.lemmas.Bool.{and_parts}
use Rattle.graph.specs.Links.{links_of}
use Rattle.plan.specs.declared.step.Standing.TheVariants.{Alias, Known}
use Rattle.plan.specs.Standing.{standing_at, is_alias}
use Rattle.plan_plain.proofs.Changing.{stands_within}
use Rattle.plan_plain.specs.Scan.{waits_for_nothing}
use Rattle.plan_plain.proofs.Waiting.{alias_settled}
use Rattle.plan_plain.proofs.Deciding.{alias_is}
use Rattle.plan_plain.proofs.Stood.{aliases_next, phony_now, sound_next}
use Rattle.plan_plain.proofs.Telling.{at_same}
use Rattle.plan_plain.proofs.plain.Plan.settle_aliases.Goals as goal

pub loop-edge-preserved : goal.loop-edge-preserved
loop-edge-preserved c =
    let first = c.args.self.now.standings.items in
    let now = c.loop-edge.self.standings.items in
    let links = links_of c.args.graph.now in
    let e = c.index.result in
    let same = c.index.ensures.place in
    let before = c.loop-edge.invariant.0 in
    let may = and_parts (is_alias (standing_at now c.in-Some.edge)) (waits_for_nothing links now c.in-Some.edge) c.in-Some.ensures.is in
    let stands = at_same now e c.in-Some.edge same Alias (alias_is (standing_at now c.in-Some.edge) may.0) in
    let all : waits_for_nothing links now e ≡ true = ap (waits_for_nothing links now) same ∙ may.1 in
    let lt = stands_within is_alias now e refl (ap is_alias stands) in (
      record {
        fits = length-set now e Known ∙ before.fits;
        stands = aliases_next first now e before.stands stands lt;
        changed = before.changed;
        jobs = before.jobs;
        keep = before.keep;
      },
      λ task done stated aliases sound.
          let old = c.loop-edge.invariant.1 task done stated aliases sound in
          sound_next first now e before.stands stands lt task.graph.edges done (alias_settled task c.args.graph.now stated done now old e all (phony_now first now e before.stands stands lt task.graph.edges aliases)) old,
    )
