use Rattle.std.proofs.Common.{◌≡◌, ◌∙◌, ℕ, ap}
use Rattle.plan.specs.declared.step.Standing.TheVariants.{Outside}
use Rattle.graph.specs.Links.{links_of}
use Rattle.plan.specs.First.{first_at}
use Rattle.plan.proofs.Beginning.{built, longer}
use Rattle.plan.proofs.first.first_standings.Goals as goal

pub loop-place-preserved : goal.loop-place-preserved
loop-place-preserved c =
    let first = λ (e : ℕ). first_at (links_of c.args.graph.now) c.args.cone.now.marks.items e in
    record {
      fits = longer c.loop-place.standings.items c.push.new.self.items c.loop-place.place c.first_standing.result Outside c.loop-place.invariant.fits c.in_ok-push.ensures.items;
      each = built c.loop-place.standings.items c.push.new.self.items c.loop-place.place c.first_standing.result Outside c.loop-place.invariant.fits c.in_ok-push.ensures.items
          (λ e s. s ≡ first e) (c.first_standing.ensures ∙ ap first c.edge.ensures) c.loop-place.invariant.each;
    }
