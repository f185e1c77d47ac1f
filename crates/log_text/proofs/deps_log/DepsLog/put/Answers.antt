use Rattle.std.proofs.Common.{sym, subst}
use Rattle.log_text.specs.DepsLog.{Keeps}
use Rattle.log_text.proofs.KeptDeps.{keeps_same, keeps_more, on_err, then_ok, then_err}
use Rattle.log_text.proofs.deps_log.DepsLog.put.Goals as goal

pub returns-in_err-paths-clause-err : goal.returns-in_err-paths-clause-err
returns-in_err-paths-clause-err c =
    on_err c.from_residual.result (λ records keeps. keeps_same c.numbers.ensures.same c.numbers.ensures.grown records (subst (Keeps records) (sym c.self.view_is) keeps))

pub returns-clause-ok : goal.returns-clause-ok
returns-clause-ok c =
    then_ok c.put.result c.put.ensures.ok (λ put records keeps. keeps_more c.args.outputs.now c.args.start c.in_ok-paths.paths c.args.paths.now c.in_ok-paths.ensures.numbers put c.put.ensures.grown records (keeps_same c.numbers.ensures.same c.numbers.ensures.grown records (subst (Keeps records) (sym c.self.view_is) keeps)))

pub returns-clause-err : goal.returns-clause-err
returns-clause-err c =
    then_err c.put.result c.put.ensures.err (λ same records keeps. keeps_same same c.put.ensures.grown records (keeps_same c.numbers.ensures.same c.numbers.ensures.grown records (subst (Keeps records) (sym c.self.view_is) keeps)))
