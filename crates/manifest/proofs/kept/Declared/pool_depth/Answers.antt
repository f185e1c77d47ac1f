use Rattle.std.proofs.lemmas.Result.{err_from_is_err_and}
use Rattle.manifest.specs.Places.{place_of}
use Rattle.manifest.proofs.PoolLemmas.{depth_faulty, depth_stopped, depth_missing, depth_given}
use Rattle.manifest.proofs.kept.Declared.pool_depth.Goals as goal

pub returns-in_err-depth : goal.returns-in_err-depth
returns-in_err-depth c = λ state is.
    let failed = err_from_is_err_and c.from_residual.result c.from_residual.ensures.1 in
    rw (failed.1, failed.2) (depth_faulty (place_of c.args.place.now) c.args.name.now _ _ state c.in_err-depth.field-0.0 (c.in_err-depth.ensures state is))

pub returns-in_err-stop_at : goal.returns-in_err-stop_at
returns-in_err-stop_at c = λ state is.
    let failed = err_from_is_err_and c.from_residual-in_err-stop_at.result c.from_residual-in_err-stop_at.ensures.1 in
    rw (failed.1, failed.2) (depth_stopped (place_of c.args.place.now) c.args.name.now _ _ state c.in_ok-depth.depth (c.in_ok-depth.ensures state is) c.in_err-stop_at.field-0.0 c.in_err-stop_at.ensures)

pub returns-in-Some : goal.returns-in-Some
returns-in-Some c = λ state is.
    depth_given (place_of c.args.place.now) c.args.name.now _ _ state c.in_ok-depth.depth c.in-Some.depth c.in-Some.is (c.in_ok-depth.ensures state is) c.in_ok-stop_at.ensures

pub returns-in-None : goal.returns-in-None
returns-in-None c = λ state is.
    depth_missing (place_of c.args.place.now) c.args.name.now _ _ state c.in_ok-depth.depth c.bad_depth.result c.in-None.is (c.in_ok-depth.ensures state is) c.in_ok-stop_at.ensures c.bad_depth.ensures.err c.bad_depth.ensures.fault
