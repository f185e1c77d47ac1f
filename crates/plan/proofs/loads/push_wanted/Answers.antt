use Rattle.std.proofs.Common.{◌∙◌, ◌+◌, ℕ, List, Bool, false, sym, ap, subst}
use Rattle.std.proofs.Math.ListN.{set}
use Rattle.plan.proofs.Loaded.{HavePushedBy, pushed_same, pushed_next}
use Rattle.plan.proofs.loads.push_wanted.Goals as goal
use Rattle.plan.proofs.loads.push_wanted.Goals.{in-Some+in_ok-push, in_default}

pub loop-place-preserved : goal.loop-place-preserved
loop-place-preserved c =
    let graph = c.args.graph.now in
    let made = c.args.made in
    let flags = c.args.wanted.now in
    let before = c.args.loads.now.items in
    let place = c.loop-place.place in
    let left = c.loop-place.wanted in
    let after = c.loop-place.loads.items in
    elim c.match-taken_by.branch [
      | in-Some+in_ok-push w ↦ pushed_next graph made flags left before after place c.loop-place.invariant w.in-Some.file w.in-Some.ensures c.match-taken_by.wanted c.match-taken_by.loads.items
          (w.wanted-is ∙ ap (λ (n : ℕ). set left n false) w.index.ensures.place) (ap (λ v. v.items) w.loads-is ∙ w.in_ok-push.ensures.items)
      | in_default w ↦ subst (λ (fs : List Bool). HavePushedBy graph made flags fs before c.match-taken_by.loads.items (place + 1)) (sym w.wanted-is)
          (subst (λ (l : List ℕ). HavePushedBy graph made flags left before l (place + 1)) (sym (ap (λ v. v.items) w.loads-is))
          (pushed_same graph made flags left before after place c.loop-place.invariant w.in_default.ensures))
    ]
