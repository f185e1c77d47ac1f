use Rattle.std.proofs.Common.{sym, subst}
use Rattle.log_text.specs.Kept.{IsTableOf}
use Rattle.log_text.proofs.KeptDeps.{told_at}
use Rattle.log_text.proofs.deps_log.DepsLog.deps_at.Goals as goal

pub returns : goal.returns
returns c = λ records keeps. told_at records c.args.number _ keeps (c.at.ensures keeps.all (subst (IsTableOf keeps.all) (sym c.self.view_is) keeps.table))
