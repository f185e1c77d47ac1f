use Rattle.std.proofs.Common.{◌+◌, length, refl, sym, ◌∙◌, arith}
use Rattle.graph.specs.Chosen.{chosen_edges}
use Rattle.graph.proofs.Chosen.{edges_length, halved_first, halved_last, half_up, half_down}
use Rattle.graph.proofs.choice.place_for.Goals as goal

pub bounds-chosen-at : goal.bounds-chosen-at
bounds-chosen-at c = let most = c.loop-low.invariant.within in let low = c.middle-at.ensures.to in omega (arith, most, low)

pub loop-low-init : goal.loop-low-init
loop-low-init c = halved_first (chosen_edges c.args.chosen.now) (length c.args.chosen.now) c.args.edge

pub loop-low-preserved-then-is_below : goal.loop-low-preserved-then-is_below
loop-low-preserved-then-is_below c =
    let at = c.middle-at.result in
    half_up c.args.chosen.now c.requires c.args.edge c.loop-low.low c.loop-low.high at (at + 1) c.loop-low.high c.index-chosen-at.result c.loop-low.invariant c.middle-at.ensures.from c.middle-at.ensures.to c.index-chosen-at.is
    (sym c.is_below.ensures ∙ c.if-is_below.true) refl refl

pub loop-low-preserved : goal.loop-low-preserved
loop-low-preserved c =
    let at = c.middle-at.result in
    half_down c.args.chosen.now c.requires c.args.edge c.loop-low.low c.loop-low.high at c.loop-low.low at c.index-chosen-at.result c.loop-low.invariant c.middle-at.ensures.from c.middle-at.ensures.to c.index-chosen-at.is
    (sym c.is_below.ensures ∙ c.if-is_below.false) refl refl

pub returns : goal.returns
returns c = halved_last (chosen_edges c.args.chosen.now) (length c.args.chosen.now) c.args.edge c.loop-low.low c.loop-low.high (sym (edges_length c.args.chosen.now)) c.loop-low-test.false c.loop-low.invariant
