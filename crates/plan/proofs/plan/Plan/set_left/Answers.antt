use Rattle.std.proofs.Common.{◌≡◌, ◌∙◌, ◌<◌, ℕ, List, length, ap, subst, sym, arith}
use Rattle.std.specs.Vec.{with_items}
use Rattle.std.proofs.Math.ListN.{set}
use Rattle.std.proofs.lemmas.List.{with_items_is}
use Rattle.plan.specs.declared.step.Standing.TheVariants.{Unjudged}
use Rattle.plan.specs.Standing.{is_unjudged, is_alias}
use Rattle.plan.specs.Plan.{IsReady}
use Rattle.plan.proofs.Lowering.{read_standing}
use Rattle.plan.proofs.Staying.{counted_set}
use Rattle.plan.proofs.plan.Plan.set_left.Goals as goal

pub invariant_of-self-clause-sets : goal.invariant_of-self-clause-sets
invariant_of-self-clause-sets c =
    let plan = c.args.self.now in
    let e = c.args.place in
    let n = c.args.count in
    let lt : e < length plan.standings.items = omega (arith, c.requires, plan.standings.ok.0) in
    let fits : length plan.left.items ≡ length plan.standings.items = omega (arith, plan.fits, plan.left.ok.0, plan.standings.ok.0) in
    let size : length c.put.new.left ≡ plan.left.len = omega (arith, c.put.auto.left, ap (λ (l : List ℕ). length l) c.deref_mut.ensures.value, plan.left.ok.0) in
    let stands = read_standing plan.standings.items e c.index.result.now Unjudged c.index.ensures c.in-Unjudged.is lt in
    let left : (with_items plan.left c.put.new.left).items ≡ set plan.left.items e n = with_items_is plan.left c.put.new.left size ∙ (c.put.ensures.left ∙ ap (λ (l : List ℕ). set l e n) c.deref_mut.ensures.value) in
    subst (λ (l : List ℕ). IsReady plan.standings.items l c.put.new.set plan.pending) (sym left)
    (subst (λ f. IsReady plan.standings.items (set plan.left.items e n) f plan.pending) (sym c.put.ensures.set)
    (counted_set plan.standings.items plan.left.items plan.ready plan.pending e n (omega (arith, lt, fits)) (omega (arith, lt, plan.room, plan.standings.ok.0)) (ap is_unjudged stands) (ap is_alias stands) plan.sets))
