use Rattle.std.proofs.Common.{◌≡◌, ◌<◌, ◌≤◌, ◌+◌, ◌∷◌, ◌||◌, [], true, arith, inl, inr, ℕ, Bool, List, false, get_or, length, refl, take, ap, ◌∙◌, sym, subst}
use Rattle.std.proofs.lemmas.List.{take_all}
use Rattle.std.proofs.lemmas.Bool.{cases_lt}
use Rattle.std.proofs.Math.ListN.{set}
use Rattle.model.specs.Graph.{has_number}
use Rattle.tools.proofs.NamedAbove.{mark_next, mark_past, marks_first}
use Rattle.tools.proofs.missing.mark.Goals as goal

pub loop-path-preserved : goal.loop-path-preserved
loop-path-preserved c =
    let old = c.args.marks.now.items in
    let now = c.loop-path.marks.items in
    let paths = c.args.paths.now in
    let place = c.loop-path.path-index in
    let path = c.path-item.result in
    let same = c.index.ensures.place in
    record {
      count = c.set_mark.ensures.count ∙ c.loop-path.invariant.count;
      marked = elim (cases_lt c.index.result (length now)) [
        | inl low ↦ subst (λ (l : List Bool). (p : ℕ) → p < length old → get_or l p false ≡ (get_or old p false || has_number (take (place + 1) paths) p)) (sym (c.set_mark.ensures.within low ∙ ap (λ (n : ℕ). set now n true) same))
            (mark_next old now paths place path c.loop-path-test.true c.path-item.is c.loop-path.invariant.count (subst (λ (n : ℕ). n < length now) same low) c.loop-path.invariant.marked)
        | inr past ↦ subst (λ (l : List Bool). (p : ℕ) → p < length old → get_or l p false ≡ (get_or old p false || has_number (take (place + 1) paths) p)) (sym (c.set_mark.ensures.past past))
            (mark_past old now paths place path c.loop-path-test.true c.path-item.is c.loop-path.invariant.count (λ low. omega (arith, low, past, same)) c.loop-path.invariant.marked)
      ];
    }

pub loop-path-init : goal.loop-path-init
loop-path-init c = record { count = refl; marked = λ p low. marks_first (λ (n : ℕ). n ∷ []) c.args.paths.now p (get_or c.args.marks.now.items p false) }

pub returns-clause-marks : goal.returns-clause-marks
returns-clause-marks c = λ p low.
    c.loop-path.invariant.marked p low ∙ ap (λ (l : List ℕ). get_or c.args.marks.now.items p false || has_number l p) (take_all c.loop-path.path-index c.args.paths.now c.loop-path-test.false)
