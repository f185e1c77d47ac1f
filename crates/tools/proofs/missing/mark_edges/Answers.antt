use Rattle.std.proofs.Common.{◌≡◌, ◌<◌, ◌≤◌, ◌+◌, ◌∷◌, ◌||◌, [], true, arith, inl, inr, ℕ, Bool, List, false, get_or, length, refl, take, ap, ◌∙◌, sym, subst}
use Rattle.std.proofs.lemmas.List.{take_all}
use Rattle.std.proofs.lemmas.Bool.{cases_lt}
use Rattle.std.proofs.Math.ListN.{set}
use Rattle.model.specs.Graph.{has_number}
use Rattle.tools.proofs.NamedAbove.{mark_next, mark_past, marks_first}
use Rattle.tools.proofs.missing.mark_edges.Goals as goal

pub loop-edge-preserved : goal.loop-edge-preserved
loop-edge-preserved c =
    let old = c.args.marks.now.items in
    let now = c.loop-edge.marks.items in
    let edges = c.args.edges.now in
    let place = c.loop-edge.edge-index in
    let edge = c.edge-item.result in
    let same = c.index.ensures.place in
    record {
      count = c.set_mark.ensures.count ∙ c.loop-edge.invariant.count;
      marked = elim (cases_lt c.index.result (length now)) [
        | inl low ↦ subst (λ (l : List Bool). (p : ℕ) → p < length old → get_or l p false ≡ (get_or old p false || has_number (take (place + 1) edges) p)) (sym (c.set_mark.ensures.within low ∙ ap (λ (n : ℕ). set now n true) same))
            (mark_next old now edges place edge c.loop-edge-test.true c.edge-item.is c.loop-edge.invariant.count (subst (λ (n : ℕ). n < length now) same low) c.loop-edge.invariant.marked)
        | inr past ↦ subst (λ (l : List Bool). (p : ℕ) → p < length old → get_or l p false ≡ (get_or old p false || has_number (take (place + 1) edges) p)) (sym (c.set_mark.ensures.past past))
            (mark_past old now edges place edge c.loop-edge-test.true c.edge-item.is c.loop-edge.invariant.count (λ low. omega (arith, low, past, same)) c.loop-edge.invariant.marked)
      ];
    }

pub loop-edge-init : goal.loop-edge-init
loop-edge-init c = record { count = refl; marked = λ p low. marks_first (λ (n : ℕ). n ∷ []) c.args.edges.now p (get_or c.args.marks.now.items p false) }

pub returns-clause-marks : goal.returns-clause-marks
returns-clause-marks c = λ p low.
    c.loop-edge.invariant.marked p low ∙ ap (λ (l : List ℕ). get_or c.args.marks.now.items p false || has_number l p) (take_all c.loop-edge.edge-index c.args.edges.now c.loop-edge-test.false)
