use Rattle.std.proofs.Common.{◌∙◌, ℕ, List, Bool, ap, count_by, arith}
use Rattle.graph.specs.Links.{needs_of}
use Rattle.plan.specs.Standing.{standing_at}
use Rattle.plan.specs.Plan.{is_missing}
use Rattle.plan.specs.Staying.{counted_for}
use Rattle.plan.proofs.plan.Plan.recount_edge.Goals as goal

pub set_left-requires : goal.set_left-requires
set_left-requires c = omega (arith, c.requires.within, c.requires.lines, c.index-place.ensures.place)

pub returns-clause-left : goal.returns-clause-left
returns-clause-left c =
    let plan = c.args.self.now in
    let e = c.args.edge in
    let n = c.missing_inputs-count.result in
    c.set_left.ensures.left
    ∙ (ap (λ (p : ℕ). counted_for (standing_at plan.standings.items p) plan.left.items p n) c.index-place.ensures.place
    ∙ ap (λ (m : ℕ). counted_for (standing_at plan.standings.items e) plan.left.items e m) (c.missing_inputs-count.ensures ∙ ap (λ (t : List Bool). count_by (is_missing t) (needs_of c.args.graph.now e)) c.deref.ensures.value))
