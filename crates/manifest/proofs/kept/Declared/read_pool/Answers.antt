use Rattle.std.proofs.Common.{List, ℕ, sym, subst, ◌∙◌, refl}
use Rattle.std.specs.String.{string_eq}
use Rattle.std.proofs.lemmas.Result.{err_from_is_err_and}
use Rattle.indexmap.proofs.CallerLemmas.{insert_entry-new}
use Rattle.manifest.specs.declared.fault.FaultKind.TheVariants.{RepeatedPool}
use Rattle.manifest.specs.Places.{place_of, IsFaultAt}
use Rattle.manifest.specs.Readings.Then.{goes_on}
use Rattle.manifest.specs.Readings.Unless.{in_order}
use Rattle.manifest.specs.States.{with_pool}
use Rattle.manifest.proofs.Binds.{unless_at, unless_fault, then_fault}
use Rattle.manifest.proofs.PoolKeys.{pool_absent, pools_more}
use Rattle.manifest.proofs.PoolLemmas.{never}
use Rattle.manifest.proofs.kept.Declared.read_pool.Goals as goal

pub returns-then-has_pool-clause-said : goal.returns-then-has_pool-clause-said
returns-then-has_pool-clause-said c = λ state is.
    unless_at _ _ (place_of c.args.place.now) (RepeatedPool c.args.name.now) c.fault.result (sym (c.has_pool.ensures state is) ∙ c.if-has_pool.true)
    (subst (λ (n : List ℕ). IsFaultAt (place_of c.args.place.now) (RepeatedPool n) c.fault.result) c.in_ok-from_str.ensures c.fault.ensures)

pub returns-in_err-depth-clause-said : goal.returns-in_err-depth-clause-said
returns-in_err-depth-clause-said c = λ state is.
    let failed = err_from_is_err_and c.from_residual-in_err-depth.result c.from_residual-in_err-depth.ensures.1 in
    rw (failed.1, failed.2) (unless_fault _ _ _ c.in_err-depth.field-0.0 (never _ (sym (c.has_pool.ensures state is) ∙ c.if-has_pool.false)) (then_fault _ _ c.in_err-depth.field-0.0 (c.in_err-depth.ensures state is)))

pub returns-clause-said : goal.returns-clause-said
returns-clause-said c = λ state is.
    let free = sym (c.has_pool.ensures state is) ∙ c.if-has_pool.false in
    let key = c.in_ok-from_str-2.field-0 in
    let absent = pool_absent c.args.self.now.pools.entries state.pools c.args.name.now key is.pools c.in_ok-from_str-2.ensures.ok free in
    let grown = c.in_ok-insert.ensures.entries ∙ insert_entry-new string_eq c.args.self.now.pools key c.in_ok-depth.depth absent in (
      with_pool (record { name = c.args.name.now; depth = c.in_ok-depth.depth }) state,
      record { scopes = is.scopes; edges = is.edges; pools = pools_more c.args.self.now.pools.entries _ state.pools c.args.name.now key c.in_ok-depth.depth is.pools c.in_ok-from_str-2.ensures.ok grown; defaults = is.defaults; paths = is.paths },
      in_order (never _ free) (goes_on (c.in_ok-depth.ensures state is) refl),
    )
