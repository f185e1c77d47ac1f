use Rattle.std.proofs.Common.{◌≡◌, ℕ, length, arith, subst}
use Rattle.tools.specs.Clean.{AddsJust, MayClean}
use Rattle.tools.proofs.Adding.{adds_counted, counted_all, counted_start}
use Rattle.tools.proofs.cleaning.add_all.Goals as goal

pub loop-place-preserved : goal.loop-place-preserved
loop-place-preserved c =
    let may = MayClean c.args.declared.now c.args.generated in
    adds_counted may c.loop-place.place c.args.paths.now c.loop-place.paths c.add_edge.new.paths c.loop-place.invariant
    (subst (λ (e : ℕ). AddsJust c.loop-place.paths c.add_edge.new.paths (may e)) c.edge.ensures c.in_ok-add_edge.ensures)

pub loop-place-init : goal.loop-place-init
loop-place-init c = counted_start (MayClean c.args.declared.now c.args.generated) c.args.paths.now

pub returns : goal.returns
returns c =
    let count = length c.args.declared.now.graph.manifest.lines in
    let last : c.loop-place.place ≡ count = omega arith in
    counted_all (MayClean c.args.declared.now c.args.generated) c.loop-place.place count c.args.paths.now c.loop-place.paths last c.loop-place.invariant
