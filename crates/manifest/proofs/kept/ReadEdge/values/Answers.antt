use Rattle.std.proofs.Common.{refl}
use Rattle.std.proofs.lemmas.Result.{err_from_is_err_and}
use Rattle.manifest.specs.Readings.Then.{goes_on}
use Rattle.manifest.proofs.Binds.{then_fault, then_next_fault}
use Rattle.manifest.proofs.kept.ReadEdge.values.Goals as goal

pub returns-in_err-values : goal.returns-in_err-values
returns-in_err-values c = λ past said build of are is shows.
    let failed = err_from_is_err_and c.from_residual.result c.from_residual.ensures.1 in
    rw (failed.1, failed.2) (then_fault _ _ _ (c.in_err-values.ensures past build of is shows))

pub returns-in_err-check_pool : goal.returns-in_err-check_pool
returns-in_err-check_pool c = λ past said build of are is shows.
    let failed = err_from_is_err_and c.from_residual-in_err-check_pool.result c.from_residual-in_err-check_pool.ensures.1 in
    rw (failed.1, failed.2) (then_next_fault _ _ c.in_ok-values.values _ (c.in_ok-values.ensures past build of is shows)
    (then_fault _ _ _ (c.in_err-check_pool.ensures said build are is)))

pub returns-in_err-check_deps : goal.returns-in_err-check_deps
returns-in_err-check_deps c = λ past said build of are is shows.
    let failed = err_from_is_err_and c.from_residual-in_err-check_deps.result c.from_residual-in_err-check_deps.ensures.1 in
    rw (failed.1, failed.2) (then_next_fault _ _ c.in_ok-values.values _ (c.in_ok-values.ensures past build of is shows)
    (then_next_fault _ _ tt _ (c.in_ok-check_pool.ensures said build are is)
    (then_fault _ _ _ (c.in_err-check_deps.ensures build is))))

pub returns : goal.returns
returns c = λ past said build of are is shows.
    goes_on (c.in_ok-values.ensures past build of is shows) (goes_on (c.in_ok-check_pool.ensures said build are is) (goes_on (c.in_ok-check_deps.ensures build is) refl))
