use Rattle.std.proofs.Common.{◌∙◌, sym, arith}
use Rattle.std.proofs.lemmas.Bool.{and_parts}
use Rattle.plan.proofs.Staying.{inside_next, inside_all}
use Rattle.plan.proofs.stay.are_inside.Goals as goal

pub loop-place-init : goal.loop-place-init
loop-place-init c = λ is e low. absurd (omega (arith, low))

pub loop-place-preserved : goal.loop-place-preserved
loop-place-preserved c = λ is.
    let parts = and_parts c.loop-place.same c.is_marked_so.result (sym c.both-same.ensures ∙ is) in
    inside_next c.args.marks.now c.args.standings.now c.loop-place.place (c.loop-place.invariant parts.0) (c.is_marked_so.ensures parts.1)

pub returns : goal.returns
returns c = λ is. inside_all c.args.marks.now c.args.standings.now c.loop-place.place c.requires (omega (arith, c.loop-place-test.false)) (c.loop-place.invariant is)
