use Rattle.std.proofs.lemmas.Result.{err_from_is_err_and}
use Rattle.dyndep.proofs.Parts.{paths_more, never_paths, refused}
use Rattle.dyndep.proofs.paths.paths_of.Goals as goal

pub loop-value-preserved : goal.loop-value-preserved
loop-value-preserved c = paths_more c.args.values.now c.loop-value.value-index c.value-item.result c.loop-value.paths _ c.in_ok-path_of.field-0 c.loop-value-test.true c.value-item.is c.loop-value.invariant c.in_ok-path_of.ensures.path c.in_ok-push.ensures.ok

pub returns-in_err-path_of-clause-fault : goal.returns-in_err-path_of-clause-fault
returns-in_err-path_of-clause-fault c =
    let p = err_from_is_err_and c.from_residual-in_err-path_of.result c.from_residual-in_err-path_of.ensures.1 in
    rw (p.1, p.2) (refused c.in_err-path_of.field-0.0 c.in_err-path_of.ensures.fault (never_paths c.args.values.now c.loop-value.value-index c.value-item.result c.loop-value-test.true c.value-item.is))
