use Rattle.std.proofs.Common.{◌≡◌, ◌<◌, ◌||◌, ℕ, List, false, get_or, length, refl, take, ap, arith, subst, sym, ◌∙◌}
use Rattle.std.specs.List.{flat_map}
use Rattle.std.proofs.lemmas.List.{take_all}
use Rattle.model.specs.Graph.{has_number}
use Rattle.graph.specs.Links.{links_of}
use Rattle.tools.proofs.NamedAbove.{marks_first, marks_more}
use Rattle.tools.proofs.missing.mark_inputs.Goals as goal

pub loop-edge-init : goal.loop-edge-init
loop-edge-init c = record { count = refl; marked = λ p low. marks_first (links_of c.args.graph.now).inputs c.args.edges.now p (get_or c.args.marks.now.items p false) }

pub loop-edge-preserved : goal.loop-edge-preserved
loop-edge-preserved c =
    let links = links_of c.args.graph.now in
    let old = c.args.marks.now.items in
    let now = c.loop-edge.marks.items in
    let new = c.mark.new.marks.items in
    let edges = c.args.edges.now in
    let edge = c.edge-item.result in
    let same = c.loop-edge.invariant.count in
    record {
      count = c.mark.ensures.count ∙ same;
      marked = λ p low.
          let inside : p < length now = omega (arith, low, same) in
          let one = c.mark.ensures.marks p inside ∙ ap (λ (l : List ℕ). get_or now p false || has_number l p) c.inputs_at.ensures in
          marks_more links.inputs edges c.loop-edge.edge-index edge p (get_or old p false) (get_or now p false) (get_or new p false) c.loop-edge-test.true c.edge-item.is (c.loop-edge.invariant.marked p low) one;
    }

pub returns-clause-marks : goal.returns-clause-marks
returns-clause-marks c = λ p low.
    c.loop-edge.invariant.marked p low ∙ ap (λ (l : List ℕ). get_or c.args.marks.now.items p false || has_number (flat_map (links_of c.args.graph.now).inputs l) p) (take_all c.loop-edge.edge-index c.args.edges.now c.loop-edge-test.false)
