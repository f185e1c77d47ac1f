use Rattle.std.proofs.Common.{◌≡◌, ◌<◌, ◌+◌, ◌++◌, ℕ, [], ◌∷◌, length, get_or, ap, subst, arith, length-append}
use Rattle.manifest.specs.Described.{MarksEdge}
use Rattle.manifest.specs.Held.{IsInScope}
use Rattle.manifest.proofs.Describing.{at_each, marked_none, marked_next}
use Rattle.manifest.proofs.EdgeAll.{within_at}
use Rattle.manifest.proofs.described.generators.Goals as goal

pub loop-edge-init : goal.loop-edge-init
loop-edge-init c = record { count = ap length c.in_ok-marks.ensures.items; marked = marked_none c.args.declared.now c.in_ok-marks.marks.items c.in_ok-marks.ensures.items }

pub at_below-place-requires : goal.at_below-place-requires
at_below-place-requires c =
    let low : c.loop-edge.edge-index < length c.args.declared.now.edges.items = rw c.as_slice-edge-items.ensures.value at c.loop-edge-test.true in
    omega (arith, low, c.loop-edge.invariant.count, c.requires.count, c.requires.few, c.loop-edge.marks.ok.0)

pub is_generator-requires-clause-scope : goal.is_generator-requires-clause-scope
is_generator-requires-clause-scope c =
    let low : c.loop-edge.edge-index < length c.args.declared.now.edges.items = rw c.as_slice-edge-items.ensures.value at c.loop-edge-test.true in
    let is : c.edge-item.result ≡ get_or c.args.declared.now.edges.items c.loop-edge.edge-index c.edge-item.result = rw c.as_slice-edge-items.ensures.value at c.edge-item.is in
    at_each (IsInScope c.args.declared.now.scopes) c.args.declared.now.edges.items c.loop-edge.edge-index c.edge-item.result low is c.requires.scopes

pub is_generator-requires-clause-edge : goal.is_generator-requires-clause-edge
is_generator-requires-clause-edge c =
    let low : c.loop-edge.edge-index < length c.args.declared.now.edges.items = rw c.as_slice-edge-items.ensures.value at c.loop-edge-test.true in
    let place : c.at_below-place.result ≡ c.loop-edge.edge-index = omega (arith, c.loop-edge.marks.ok.0) in
    omega (arith, low, place, c.requires.count)

pub is_generator-requires-clause-within : goal.is_generator-requires-clause-within
is_generator-requires-clause-within c =
    let low : c.loop-edge.edge-index < length c.args.declared.now.edges.items = rw c.as_slice-edge-items.ensures.value at c.loop-edge-test.true in
    let place : c.at_below-place.result ≡ c.loop-edge.edge-index = omega (arith, c.loop-edge.marks.ok.0) in
    within_at c.args.declared.now.paths.table c.args.declared.now.paths.lines c.at_below-place.result (omega (arith, low, place, c.requires.count)) c.requires.within

pub loop-edge-preserved : goal.loop-edge-preserved
loop-edge-preserved c =
    let low : c.loop-edge.edge-index < length c.args.declared.now.edges.items = rw c.as_slice-edge-items.ensures.value at c.loop-edge-test.true in
    let is : c.edge-item.result ≡ get_or c.args.declared.now.edges.items c.loop-edge.edge-index c.edge-item.result = rw c.as_slice-edge-items.ensures.value at c.edge-item.is in
    let place : c.at_below-place.result ≡ c.loop-edge.edge-index = omega (arith, c.loop-edge.marks.ok.0) in
    let longer : length c.push.new.self.items ≡ length (c.loop-edge.marks.items ++ c.in_ok-mark.mark ∷ []) = ap length c.in_ok-push.ensures.items in
    let more : length (c.loop-edge.marks.items ++ c.in_ok-mark.mark ∷ []) ≡ length c.loop-edge.marks.items + 1 = length-append c.loop-edge.marks.items (c.in_ok-mark.mark ∷ []) in
    let here : MarksEdge c.args.declared.now c.loop-edge.edge-index c.edge-item.result c.in_ok-mark.mark = subst (λ (e : ℕ). MarksEdge c.args.declared.now e c.edge-item.result c.in_ok-mark.mark) place c.in_ok-mark.ensures in
    record {
      count = omega (arith, longer, more, c.loop-edge.invariant.count);
      marked = marked_next c.args.declared.now c.loop-edge.marks.items c.push.new.self.items c.in_ok-mark.mark c.loop-edge.edge-index c.edge-item.result low is c.loop-edge.invariant.count here c.in_ok-push.ensures.items
          c.loop-edge.invariant.marked;
    }

pub returns : goal.returns
returns c =
    let all : length c.as_slice-edge-items.result.now ≡ length c.args.declared.now.edges.items = ap length c.as_slice-edge-items.ensures.value in
    record { count = omega (arith, all, c.loop-edge.invariant.count); each = c.loop-edge.invariant.marked }
