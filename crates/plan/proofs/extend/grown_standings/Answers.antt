use Rattle.std.proofs.Common.{◌≡◌, ◌∙◌, ℕ, ap, arith}
use Rattle.graph.specs.Links.{links_of}
use Rattle.plan.specs.declared.step.Standing.TheVariants.{Outside}
use Rattle.plan.specs.Standing.{standing_at}
use Rattle.plan.specs.First.{first_at}
use Rattle.plan.specs.Growing.{grown_of}
use Rattle.plan.proofs.Beginning.{built, longer}
use Rattle.plan.proofs.Grown.{grown_all}
use Rattle.plan.proofs.extend.grown_standings.Goals as goal

pub loop-place-preserved : goal.loop-place-preserved
loop-place-preserved c =
    let old = c.args.before.now in
    let first = λ (e : ℕ). first_at (links_of c.args.graph.now) c.args.cone.now.marks.items e in
    record {
      fits = longer c.loop-place.standings.items c.push.new.self.items c.loop-place.place c.grown_standing.result Outside c.loop-place.invariant.fits c.in_ok-push.ensures.items;
      each = built c.loop-place.standings.items c.push.new.self.items c.loop-place.place c.grown_standing.result Outside c.loop-place.invariant.fits c.in_ok-push.ensures.items
          (λ e s. s ≡ grown_of (standing_at old e) (first e)) (c.grown_standing.ensures ∙ ap (λ (e : ℕ). grown_of (standing_at old c.loop-place.place) (first e)) c.edge.ensures) c.loop-place.invariant.each;
    }

pub returns : goal.returns
returns c =
    let old = c.args.before.now in
    let end = c.loop-place-test.false in
    grown_all (links_of c.args.graph.now) c.args.cone.now.marks.items old c.loop-place.standings.items c.loop-place.place c.loop-place.invariant.fits (omega (arith, end, c.loop-place.auto.place-end))
    (omega (arith, c.requires.marks, c.requires.edges, c.args.cone.now.marks.ok.0)) c.loop-place.invariant.each
