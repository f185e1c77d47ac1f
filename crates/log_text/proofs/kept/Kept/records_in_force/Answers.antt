use Rattle.std.proofs.Common.{◌≡◌, ◌<◌, ◌≤◌, ◌+◌, ℕ, Bool, cond, sym, ap, ◌∙◌, length, subst, arith}
use Rattle.log_text.specs.Kept.{tellings}
use Rattle.log_text.proofs.Lookups.{count_next, first_all}
use Rattle.log_text.proofs.kept.Kept.records_in_force.Goals.{then-is_in_force, else-is_in_force}
use Rattle.log_text.proofs.kept.Kept.records_in_force.Goals as goal

pub loop-place-preserved : goal.loop-place-preserved
loop-place-preserved g c =
    let count = c.loop-place.count in
    let below = c.loop-place.invariant.below in
    record {
      below = elim c.if-is_in_force.branch [
        | then-is_in_force w ↦ let e = w.count-is in omega arith
        | else-is_in_force w ↦ let e = w.count-is in omega arith
      ];
      counted = λ all is.
          let within : c.loop-place.place < length (tellings all) = subst (λ (n : ℕ). c.loop-place.place < n) (c.tellings-place-end.ensures all is) c.loop-place-test.true in
          let next = count_next all c.loop-place.place count c.is_in_force.result within (c.loop-place.invariant.counted all is) (c.is_in_force.ensures all is) in
          elim c.if-is_in_force.branch [
            | then-is_in_force w ↦ w.count-is ∙ (ap (λ (b : Bool). count + cond b 1 0) (sym w.if-is_in_force.true) ∙ next)
            | else-is_in_force w ↦ w.count-is ∙ ((let same : count ≡ count + 0 = omega arith in same) ∙ (ap (λ (b : Bool). count + cond b 1 0) (sym w.if-is_in_force.false) ∙ next))
          ];
    }

pub returns : goal.returns
returns g c = λ all is.
    let past : length (tellings all) ≤ c.loop-place.place = subst (λ (n : ℕ). n ≤ c.loop-place.place) (c.tellings-place-end.ensures all is) c.loop-place-test.false in
    c.loop-place.invariant.counted all is ∙ ap length (first_all all c.loop-place.place past)
