use Rattle.std.proofs.Common.{sym, subst}
use Rattle.log_text.specs.Kept.{IsTableOf}
use Rattle.log_text.proofs.KeptDeps.{wants_is}
use Rattle.log_text.proofs.deps_log.DepsLogRecords.wants_compaction.Goals as goal

pub returns : goal.returns
returns c = λ records keeps. wants_is c.wants_compaction.result records keeps (c.wants_compaction.ensures keeps.all (subst (IsTableOf keeps.all) (sym c.self.view_is) keeps.table))
