use Rattle.std.proofs.Common.{refl, ◌∙◌, ap, false, true}
use Rattle.manifest.specs.declared.fault.FaultKind.TheVariants.{UnknownPool}
use Rattle.manifest.proofs.Binds.{unless_at}
use Rattle.manifest.proofs.EdgeChecks.{at_build, empty_is, console_is, declared_is, pool_is, known_pool}
use Rattle.manifest.proofs.kept.ReadEdge.check_pool.Goals as goal
use Rattle.manifest.proofs.kept.ReadEdge.check_pool.Goals.{then-is_empty-via-then-is_empty, then-is_empty-via-else-is_empty+then-eq, then-is_empty-via-else-is_empty+else-eq+then-contains_key}

pub returns-then-is_empty : goal.returns-then-is_empty
returns-then-is_empty c = λ said build are is. known_pool said build c.args.values.now (elim c.then-is_empty.branch [
  | then-is_empty-via-then-is_empty w ↦ pool_is said _ true _ _ (empty_is _ _ true w.if-is_empty.ensures c.as_str-pool.ensures) refl refl
  | then-is_empty-via-else-is_empty+then-eq w ↦ pool_is said _ false true _
      (empty_is _ _ false w.if-is_empty.ensures c.as_str-pool.ensures) (console_is _ _ true w.if-eq.ensures c.as_str-pool.ensures) refl
  | then-is_empty-via-else-is_empty+else-eq+then-contains_key w ↦ pool_is said _ false false true
      (empty_is _ _ false w.if-is_empty.ensures c.as_str-pool.ensures) (console_is _ _ false w.if-eq.ensures c.as_str-pool.ensures)
      (declared_is c.args.pools.now.entries said c.as_str-pool.result.now _ true are w.if-contains_key.ensures c.as_str-pool.ensures)
])

pub returns : goal.returns
returns c = λ said build are is.
    let unknown = pool_is said c.args.values.now.pool false false false
    (empty_is _ _ false c.if-is_empty.ensures c.as_str-pool.ensures) (console_is _ _ false c.if-eq.ensures c.as_str-pool.ensures)
    (declared_is c.args.pools.now.entries said c.as_str-pool.result.now _ false are c.if-contains_key.ensures c.as_str-pool.ensures) in
    unless_at _ _ build.place (UnknownPool c.args.values.now.pool) c.fault.result unknown
    (at_build _ build.place _ (UnknownPool c.args.values.now.pool) c.fault.result (c.place.ensures build is) (ap UnknownPool (c.in_ok-from_str.ensures ∙ c.as_str-pool.ensures)) c.fault.ensures)
