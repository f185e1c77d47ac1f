use Rattle.std.proofs.Common.{◌≡◌, ◌<◌, ◌≤◌, ◌+◌, subst, rules, [], ◌∷◌, length, refl, sym, ap, ◌∙◌, arith, length-append}
use Rattle.std.specs.List.{AllByRecursion}
use Rattle.std.specs.Vec.Iter.{into_iter_items}
use Rattle.std.proofs.lemmas.Result.{err_from_is_err_and}
use Rattle.scopes.specs.Marks.{AreOfScopes}
use Rattle.paths.specs.declared.manifest.Action.{Action}
use Rattle.paths.specs.Commands.{dyndep_stop}
use Rattle.manifest.specs.declared.kept.ReadEdge.{ReadEdge}
use Rattle.manifest.specs.Held.{IsInScope}
use Rattle.manifest.proofs.Added.{longer_same, longer_on, longer_length}
use Rattle.manifest.proofs.EdgeAll.{goes_begin, goes_next, goes_wrong, goes_all, none_left, edges_more, within_all, within_at, dyndeps_more}
use Rattle.manifest.proofs.graph.expand_all.Goals as goal

pub loop-edge-init : goal.loop-edge-init
loop-edge-init c =
    let none : c.from_vec-actions.result ≡ [] = c.from_vec-actions.ensures ∙ c.in_ok-with_capacity.ensures.items in
    let gives : into_iter_items c.into_iter-edge-iterator.result ≡ c.args.read.items = search rules in
    let a : length c.from_vec-actions.result ≡ 0 = ap length none in
    let b : length (into_iter_items c.into_iter-edge-iterator.result) ≡ length c.args.read.items = ap length gives in (
      tt,
      tt,
      longer_same _,
      c.requires.within,
      subst (AllByRecursion (IsInScope c.args.scopes.now)) (sym gives) c.requires.scopes,
      (omega (arith, a, b, c.requires.count)),
      subst (AllByRecursion (λ (action : Action). dyndep_stop action ≤ length c.args.table.now)) (sym none) tt,
      λ past said builds of are all named. goes_begin past said builds c.args.table.now c.args.read.items _ c.args.lines.now _ gives none all named,
    )

pub loop-edge-preserved : goal.loop-edge-preserved
loop-edge-preserved c =
    let scopes : AllByRecursion (IsInScope c.args.scopes.now) (c.in-Some.edge ∷ into_iter_items c.next.new.self) = rw c.in-Some.ensures.steps.0 at c.loop-edge.invariant.4 in
    let left : length c.loop-edge.actions + length (c.in-Some.edge ∷ into_iter_items c.next.new.self) ≡ length c.args.lines.now = rw c.in-Some.ensures.steps.0 at c.loop-edge.invariant.5 in
    let low : length c.loop-edge.actions < length c.args.lines.now = omega arith in
    let grows = c.in_ok-action.ensures.grows in
    let place : c.at_below-place.result ≡ length c.loop-edge.actions = c.at_below-place.ensures ∙ c.len-in-loop-edge.ensures in
    let count : length c.push.new.self ≡ length c.loop-edge.actions + 1 = ap length c.in_ok-push.ensures.ok ∙ length-append c.loop-edge.actions (c.in_ok-action.field-0 ∷ []) in (
      tt,
      tt,
      longer_on _ _ _ c.loop-edge.invariant.2 grows,
      within_all _ _ _ grows c.loop-edge.invariant.3,
      scopes.1,
      (omega (arith, count, left)),
      dyndeps_more _ _ c.loop-edge.actions _ c.in_ok-action.field-0 (longer_length _ _ grows) c.in_ok-push.ensures.ok c.in_ok-action.ensures.dyndep c.loop-edge.invariant.6,
      λ past said builds of are all named. goes_next past said builds _ _ c.in-Some.edge _ c.args.lines.now (length c.loop-edge.actions) low c.in-Some.ensures.steps.0 _ _ _ _ _ grows
          (edges_more _ _ c.args.lines.now c.loop-edge.actions _ c.in_ok-action.field-0 grows c.loop-edge.invariant.3 c.loop-edge.invariant.6 low c.in_ok-push.ensures.ok) count
          (λ build is for. (rw place at c.in_ok-action.ensures.edge) past said build of are is for) (c.loop-edge.invariant.7 past said builds of are all named),
    )

pub loop-edge-preserved-in_ok-push : goal.loop-edge-preserved-in_ok-push
loop-edge-preserved-in_ok-push c =
    let scopes : AllByRecursion (IsInScope c.args.scopes.now) (c.in-Some.edge ∷ into_iter_items c.next.new.self) = rw c.in-Some.ensures.steps.0 at c.loop-edge.invariant.4 in
    let left : length c.loop-edge.actions + length (c.in-Some.edge ∷ into_iter_items c.next.new.self) ≡ length c.args.lines.now = rw c.in-Some.ensures.steps.0 at c.loop-edge.invariant.5 in
    let low : length c.loop-edge.actions < length c.args.lines.now = omega arith in
    let grows = c.in_ok-action.ensures.grows in
    let place : c.at_below-place.result ≡ length c.loop-edge.actions = c.at_below-place.ensures ∙ c.len-in-loop-edge.ensures in
    let count : length c.push.new.self ≡ length c.loop-edge.actions + 1 = ap length c.in_ok-push.ensures.ok ∙ length-append c.loop-edge.actions (c.in_ok-action.field-0 ∷ []) in (
      tt,
      tt,
      longer_on _ _ _ c.loop-edge.invariant.2 grows,
      within_all _ _ _ grows c.loop-edge.invariant.3,
      scopes.1,
      (omega (arith, count, left)),
      dyndeps_more _ _ c.loop-edge.actions _ c.in_ok-action.field-0 (longer_length _ _ grows) c.in_ok-push.ensures.ok c.in_ok-action.ensures.dyndep c.loop-edge.invariant.6,
      λ past said builds of are all named. goes_next past said builds _ _ c.in-Some.edge _ c.args.lines.now (length c.loop-edge.actions) low c.in-Some.ensures.steps.0 _ _ _ _ _ grows
          (edges_more _ _ c.args.lines.now c.loop-edge.actions _ c.in_ok-action.field-0 grows c.loop-edge.invariant.3 c.loop-edge.invariant.6 low c.in_ok-push.ensures.ok) count
          (λ build is for. (rw place at c.in_ok-action.ensures.edge) past said build of are is for) (c.loop-edge.invariant.7 past said builds of are all named),
    )

pub marks_at-of_scope-requires-clause-within : goal.marks_at-of_scope-requires-clause-within
marks_at-of_scope-requires-clause-within c =
    let scopes : AllByRecursion (IsInScope c.args.scopes.now) (c.in-Some.edge ∷ into_iter_items c.next.new.self) = rw c.in-Some.ensures.steps.0 at c.loop-edge.invariant.4 in
    let low = scopes.0 in
    let len = c.as_slice.ensures.len in
    let count = c.in_ok-marks.ensures.count in
    omega (arith, low, len, count)

pub marks_at-of_scope-requires-clause-marks : goal.marks_at-of_scope-requires-clause-marks
marks_at-of_scope-requires-clause-marks c = subst (AreOfScopes c.args.scopes.now) (sym c.as_slice.ensures.value) c.in_ok-marks.ensures.marks

pub returns-in_err-action-clause-edges : goal.returns-in_err-action-clause-edges
returns-in_err-action-clause-edges c = λ past said builds of are all named.
    let left : length c.loop-edge.actions + length (c.in-Some.edge ∷ into_iter_items c.next.new.self) ≡ length c.args.lines.now = rw c.in-Some.ensures.steps.0 at c.loop-edge.invariant.5 in
    let low : length c.loop-edge.actions < length c.args.lines.now = omega arith in
    let place : c.at_below-place.result ≡ length c.loop-edge.actions = c.at_below-place.ensures ∙ c.len-in-loop-edge.ensures in
    let failed = err_from_is_err_and c.from_residual-in_err-action.result c.from_residual-in_err-action.ensures.1 in
    rw (failed.1, failed.2) (goes_wrong past said builds _ _ c.in-Some.edge _ c.args.lines.now (length c.loop-edge.actions) low c.in-Some.ensures.steps.0 _ _
    (λ build is for. (rw place at c.in_err-action.ensures.edge) past said build of are is for) (c.loop-edge.invariant.7 past said builds of are all named))

pub returns-clause-edges : goal.returns-clause-edges
returns-clause-edges c = λ past said builds of are all named.
    goes_all past said builds _ _ _ _ (none_left _ (search rules)) (c.loop-edge.invariant.7 past said builds of are all named)
