use Rattle.std.proofs.Common.{◌∙◌, ℕ, List, Bool, length, refl, sym, subst, ap}
use Rattle.std.proofs.Math.ListN.{set}
use Rattle.model.specs.Graph.{has_number}
use Rattle.graph.specs.Links.{links_of}
use Rattle.std.proofs.lemmas.List.{length-set}
use Rattle.plan.specs.declared.step.Standing.{Standing}
use Rattle.plan.specs.declared.step.Standing.TheVariants.{Known}
use Rattle.plan.specs.Standing.{is_out_of_date}
use Rattle.plan.specs.Plan.{IsReady}
use Rattle.plan.proofs.Settling.{known_sets, known_same, known_tallied, now_known, was_alias, none_left, over_next, alias_settled, sound_next, aliases_next, alias_first}
use Rattle.plan.proofs.plan.Plan.settle_pending.Goals as goal

pub invariant_of-self-clause-sets : goal.invariant_of-self-clause-sets
invariant_of-self-clause-sets c =
    subst (λ (f : List Bool). IsReady (set c.loop-place.self.standings.items c.in-Some.place Known) c.loop-place.self.left.items c.loop-place.self.ready f) (sym c.remove.ensures) (known_sets c.loop-place.self.standings.items c.loop-place.self.left.items c.loop-place.self.ready c.loop-place.self.pending c.loop-place.self.sets c.in-Some.place c.in-Some.ensures.is)

pub invariant_of-self-clause-waits : goal.invariant_of-self-clause-waits
invariant_of-self-clause-waits c = record {
  fits = c.loop-place.self.waits.fits ∙ sym (length-set c.loop-place.self.standings.items c.in-Some.place Known);
  waits = λ e. c.loop-place.self.waits.waits e ∙ sym (known_same c.loop-place.self.standings.items c.loop-place.self.left.items c.loop-place.self.ready c.loop-place.self.pending c.loop-place.self.sets c.in-Some.place c.in-Some.ensures.is is_out_of_date refl e);
}

pub invariant_of-self-clause-tallied : goal.invariant_of-self-clause-tallied
invariant_of-self-clause-tallied c = known_tallied c.loop-place.self.standings.items c.loop-place.self.left.items c.loop-place.self.ready c.loop-place.self.pending c.loop-place.self.sets c.in-Some.place c.in-Some.ensures.is c.loop-place.self.running c.loop-place.self.failed c.loop-place.self.well c.loop-place.self.tallied

pub loop-place-preserved : goal.loop-place-preserved
loop-place-preserved c =
    let now = c.loop-place.self in
    let e = c.in-Some.place in
    let stands = was_alias c.loop-place.self.standings.items c.loop-place.self.left.items c.loop-place.self.ready c.loop-place.self.pending c.loop-place.self.sets c.in-Some.place c.in-Some.ensures.is in
    let known = now_known c.loop-place.self.standings.items c.loop-place.self.left.items c.loop-place.self.ready c.loop-place.self.pending c.loop-place.self.sets c.in-Some.place c.in-Some.ensures.is in
    let before = c.loop-place.invariant.0 in
    let rest = c.arrive_all.ensures.rest in (
      record {
        fits = ap (λ (s : List Standing). length s) rest.standings ∙ (length-set now.standings.items e Known ∙ before.fits);
        stands = aliases_next c.args.self.now.standings.items now.standings.items c.arrive_all.new.self.standings.items e before.fits before.stands stands known rest.standings;
        queue = rest.queue ∙ before.queue;
        changed = rest.changed ∙ before.changed;
        loads = rest.loads ∙ before.loads;
        running = rest.running ∙ before.running;
        failed = rest.failed ∙ before.failed;
        well = rest.well ∙ before.well;
        jobs = rest.jobs ∙ before.jobs;
        keep = rest.keep ∙ before.keep;
      },
      over_next c.args.graph.now now.standings.items now.left.items now.there.items e known c.loop-place.invariant.1 c.arrive_all.new.self.standings.items c.arrive_all.new.self.left.items c.arrive_all.new.self.there.items rest.standings c.arrive_all.ensures.counted
          (λ p lt output. c.arrive_all.ensures.made p lt (ap (λ (n : ℕ). has_number ((links_of c.args.graph.now).outputs n) p) c.edge.ensures ∙ output))
          (λ p other. c.arrive_all.ensures.others p (ap (λ (n : ℕ). has_number ((links_of c.args.graph.now).outputs n) p) c.edge.ensures ∙ other)),
      λ task done stated phony sound.
          let old = c.loop-place.invariant.2 task done stated phony sound in
          sound_next c.args.graph.now now.standings.items now.left.items now.there.items e known c.loop-place.invariant.1 task done
          (alias_settled c.args.graph.now now.standings.items now.left.items now.there.items e known c.loop-place.invariant.1 task done stated (phony e (alias_first c.args.self.now.standings.items now.standings.items e (before.stands e) stands)) stands (none_left c.loop-place.self.standings.items c.loop-place.self.left.items c.loop-place.self.ready c.loop-place.self.pending c.loop-place.self.sets c.in-Some.place c.in-Some.ensures.is) old)
          old c.arrive_all.new.self.standings.items rest.standings,
    )
