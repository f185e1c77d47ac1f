use Rattle.std.proofs.Common.{sym, subst}
use Rattle.log_text.specs.Kept.{IsTableOf}
use Rattle.log_text.proofs.KeptDeps.{found_is}
use Rattle.log_text.proofs.deps_log.DepsLog.lookup.Goals as goal

pub returns : goal.returns
returns c = λ records keeps. found_is records c.args.output.now _ keeps (c.lookup.ensures keeps.all (subst (IsTableOf keeps.all) (sym c.self.view_is) keeps.table))
