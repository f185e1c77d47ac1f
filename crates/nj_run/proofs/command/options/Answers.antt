use Rattle.std.proofs.Common.{map}
use Rattle.nj_run.proofs.Values.{asked, faultless, faulty, if_err, taken}
use Rattle.nj_run.proofs.command.options.Goals as goal

pub returns-in_err-matches-clause-err : goal.returns-in_err-matches-clause-err
returns-in_err-matches-clause-err g c =
    if_err c.from_residual-in_err-matches.result _ _ c.from_residual-in_err-matches.ensures.1 (λ e is. rw is (taken _ (map g.S.AsStr.text c.args.words.now) c.in_err-matches.field-0.0 c.in_ok-command.ensures c.in_err-matches.ensures.passes))

pub returns-clause-ok : goal.returns-clause-ok
returns-clause-ok g c =
    asked _ (map g.S.AsStr.text c.args.words.now) c.in_ok-matches.matches c.in_ok-given.field-0 c.in_ok-command.ensures c.in_ok-matches.ensures.matches c.in_ok-given.ensures

pub returns-clause-faultless : goal.returns-clause-faultless
returns-clause-faultless g c = faultless _ (map g.S.AsStr.text c.args.words.now) c.in_ok-command.ensures c.in_ok-matches.ensures.kinds

pub returns-in_err-matches-clause-fault : goal.returns-in_err-matches-clause-fault
returns-in_err-matches-clause-fault g c =
    if_err c.from_residual-in_err-matches.result _ _ c.from_residual-in_err-matches.ensures.1 (λ e is. rw is (faulty _ (map g.S.AsStr.text c.args.words.now) c.in_err-matches.field-0.0 c.in_ok-command.ensures c.in_err-matches.ensures.kinds))
