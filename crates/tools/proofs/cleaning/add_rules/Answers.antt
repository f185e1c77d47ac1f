use Rattle.std.proofs.Common.{◌≡◌, ℕ, length, map, arith, subst}
use Rattle.std.specs.Map.Iter.{deref}
use Rattle.tools.specs.Clean.{AddsJust, MayCleanOfRule}
use Rattle.tools.proofs.Adding.{adds_counted, counted_all, counted_start}
use Rattle.tools.proofs.cleaning.add_rules.Goals as goal

pub loop-place-preserved : goal.loop-place-preserved
loop-place-preserved c =
    let may = MayCleanOfRule c.args.declared.now (map deref c.args.rules.now) c.args.generated in
    adds_counted may c.loop-place.place c.args.paths.now c.loop-place.paths c.add_if_asked.new.paths c.loop-place.invariant
    (subst (λ (e : ℕ). AddsJust c.loop-place.paths c.add_if_asked.new.paths (may e)) c.edge-edge.ensures c.in_ok-add_if_asked.ensures)

pub loop-place-init : goal.loop-place-init
loop-place-init c = counted_start (MayCleanOfRule c.args.declared.now (map deref c.args.rules.now) c.args.generated) c.args.paths.now

pub returns : goal.returns
returns c =
    let may = MayCleanOfRule c.args.declared.now (map deref c.args.rules.now) c.args.generated in
    let count = length c.args.declared.now.graph.manifest.lines in
    let last : c.loop-place.place ≡ count = omega arith in
    counted_all may c.loop-place.place count c.args.paths.now c.loop-place.paths last c.loop-place.invariant
