use Rattle.nj_run.proofs.Telling.{after_failed}
use Rattle.nj_run.proofs.told.report.Goals as goal

pub returns-in_ok-failed-in-Failed-clause-err : goal.returns-in_ok-failed-in-Failed-clause-err
returns-in_ok-failed-in-Failed-clause-err g c =
    after_failed c.args.report.now _ _ c.len.result _ _ c.in-Failed.is c.len.ensures c.in_ok-failed-in-Failed.ensures
