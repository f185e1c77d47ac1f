use Rattle.std.proofs.Common.{◌∙◌, ◌+◌, List, ℕ, ap, sym, arith, drop}
use Rattle.audit.specs.Seen.{sums_in}
use Rattle.auditor.specs.Left.{with_left}
use Rattle.auditor.proofs.Judged.{left_all, left_next, left_past, left_unused}
use Rattle.auditor.proofs.project.Auditor.leave.Goals as goal

pub loop-place-preserved : goal.loop-place-preserved
loop-place-preserved c =
    let scratch = c.args.self.now.scratch in
    let sums = sums_in c.args.uses.now in
    let place = c.loop-place.place in
    c.loop-place.invariant
    ∙ (left_next scratch c.loop-place.left sums.paths sums.uses place c.in-Some.path.now c.in-Some-used.used (sym c.in-Some.ensures) (sym c.in-Some-used.ensures)
    ∙ ap (λ (left : List (List ℕ)). with_left scratch left (drop (place + 1) sums.paths) (drop (place + 1) sums.uses)) (sym c.in_ok-leave_at.ensures))

pub returns-in_default : goal.returns-in_default
returns-in_default c =
    let sums = sums_in c.args.uses.now in
    sym (c.loop-place.invariant ∙ left_past c.args.self.now.scratch c.loop-place.left sums.paths sums.uses c.loop-place.place (sym c.in_default.ensures))

pub returns-in_default-used : goal.returns-in_default-used
returns-in_default-used c =
    let sums = sums_in c.args.uses.now in
    sym (c.loop-place.invariant ∙ left_unused c.args.self.now.scratch c.loop-place.left sums.paths sums.uses c.loop-place.place (sym c.in_default-used.ensures))

pub returns : goal.returns
returns c =
    let sums = sums_in c.args.uses.now in
    sym (c.loop-place.invariant ∙ left_all c.args.self.now.scratch c.loop-place.left sums.paths sums.uses c.loop-place.place (omega (arith, c.loop-place-test.false, c.len-place-end.ensures)))
