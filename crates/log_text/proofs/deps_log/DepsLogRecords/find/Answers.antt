use Rattle.std.proofs.Common.{sym, subst}
use Rattle.log_text.specs.Kept.{IsTableOf}
use Rattle.log_text.proofs.KeptDeps.{place_is}
use Rattle.log_text.proofs.deps_log.DepsLogRecords.find.Goals as goal

pub returns : goal.returns
returns c = λ records keeps. place_is records c.args.output.now c.find.result keeps (c.find.ensures.told keeps.all (subst (IsTableOf keeps.all) (sym c.self.view_is) keeps.table))
