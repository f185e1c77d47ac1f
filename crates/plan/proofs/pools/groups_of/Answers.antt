use Rattle.std.proofs.Common.{◌≡◌, ◌∙◌, inl, inr, ◌||◌, ℕ, List, Bool, true, false, None, Some, length, get_or, sym, ap, not, refl, arith}
use Rattle.std.proofs.lemmas.Bool.{true≢false, false≢true}
use Rattle.model.specs.declared.graph.Pool.{Pool}
use Rattle.paths.specs.declared.manifest.Action.{Action}
use Rattle.paths.specs.Commands.{no_action}
use Rattle.plan.specs.Standing.{standing_at, is_outside}
use Rattle.plan.specs.Pools.{place_in, pool_of, depths_of}
use Rattle.plan.proofs.PlannedCounts.{stands_within}
use Rattle.plan.proofs.Beginning.{built, longer, within_built, place_within}
use Rattle.plan.proofs.Grown.{lower_or_past, past_end}
use Rattle.plan.proofs.pools.groups_of.Goals as goal
use Rattle.plan.proofs.pools.groups_of.Goals.{then-is_pooled, else-is_pooled}

-- an edge that is left out is not in the cone, and not all edges are taken
left_out : (all outside : Bool) → (all || not outside) ≡ false → (all ≡ false) × (outside ≡ true)
left_out true outside none = absurd (true≢false none)
left_out false true none = (refl, refl)
left_out false false none = absurd (true≢false none)

pub loop-place-preserved : goal.loop-place-preserved
loop-place-preserved c =
    let graph = c.args.graph.now in
    let pools = graph.manifest.pools in
    let place = c.loop-place.place in
    let before = c.loop-place.invariant in
    let group = λ (e : ℕ). place_in pools (pool_of (get_or graph.manifest.actions e no_action)) in
    record {
      fits = longer c.loop-place.groups.items c.push.new.self.items place c.if-is_pooled.push None before.fits c.in_ok-push.ensures.items;
      each = built c.loop-place.groups.items c.push.new.self.items place c.if-is_pooled.push None before.fits c.in_ok-push.ensures.items
          (λ e o. is_outside (standing_at c.args.standings.now e) ≡ false → o ≡ group e) (elim c.if-is_pooled.branch [
            | then-is_pooled w ↦ λ inside. w.push-is ∙ (w.group_of.ensures ∙ (ap (λ (ps : List Pool). place_in ps (pool_of w.action.result.now)) c.as_slice-pools.ensures
                ∙ (ap (λ (a : Action). place_in pools (pool_of a)) w.action.ensures ∙ ap group w.edge.ensures)))
            | else-is_pooled w ↦ λ inside. absurd (true≢false (sym (left_out c.args.all (is_outside (standing_at c.args.standings.now place)) (sym c.is_pooled.ensures ∙ w.if-is_pooled.false)).1 ∙ inside))
          ]) before.each;
      all = λ whole. built c.loop-place.groups.items c.push.new.self.items place c.if-is_pooled.push None before.fits c.in_ok-push.ensures.items
          (λ e o. o ≡ group e) (elim c.if-is_pooled.branch [
            | then-is_pooled w ↦ w.push-is ∙ (w.group_of.ensures ∙ (ap (λ (ps : List Pool). place_in ps (pool_of w.action.result.now)) c.as_slice-pools.ensures
                ∙ (ap (λ (a : Action). place_in pools (pool_of a)) w.action.ensures ∙ ap group w.edge.ensures)))
            | else-is_pooled w ↦ absurd (false≢true (sym (left_out c.args.all (is_outside (standing_at c.args.standings.now place)) (sym c.is_pooled.ensures ∙ w.if-is_pooled.false)).0 ∙ whole))
          ]) (before.all whole);
      within = within_built (length (depths_of pools)) c.loop-place.groups.items c.push.new.self.items c.if-is_pooled.push c.in_ok-push.ensures.items (elim c.if-is_pooled.branch [
        | then-is_pooled w ↦ λ g some. place_within pools (pool_of w.action.result.now) g (ap (λ (ps : List Pool). place_in ps (pool_of w.action.result.now)) (sym c.as_slice-pools.ensures) ∙ (sym w.group_of.ensures ∙ (sym w.push-is ∙ some)))
        | else-is_pooled w ↦ λ g some. none_some g (sym w.push-is ∙ some)
      ]) before.within;
    }
  where
    none_some : {X : Type 0} (g : ℕ) → None ≡ Some g → X
    none_some g e = cc

pub returns-clause-groups : goal.returns-clause-groups
returns-clause-groups c = record {
  fits = let end = c.loop-place-test.false in omega (arith, end, c.loop-place.auto.place-end, c.loop-place.invariant.fits);
  each = λ e inside.
      let low = stands_within (λ s. not (is_outside s)) c.args.standings.now e refl (ap not inside) in
      let end = c.loop-place-test.false in
      c.loop-place.invariant.each e (omega (arith, low, end)) inside;
  within = c.loop-place.invariant.within;
}

pub returns-clause-all : goal.returns-clause-all
returns-clause-all c = λ whole e.
    let graph = c.args.graph.now in
    let pools = graph.manifest.pools in
    let end = c.loop-place-test.false in
    elim (lower_or_past e c.loop-place.place) [
      | inl less ↦ c.loop-place.invariant.all whole e less
      | inr past ↦
          past_end c.loop-place.groups.items e None (omega (arith, c.loop-place.invariant.fits, past))
          ∙ sym (ap (λ (a : Action). place_in pools (pool_of a)) (past_end graph.manifest.actions e no_action (omega (arith, graph.manifest.fits, c.requires, end, past))))
    ]
