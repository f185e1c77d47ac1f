use Rattle.std.proofs.Common.{sym, subst, ◌∙◌}
use Rattle.log_text.specs.Kept.{IsTableOf}
use Rattle.log_text.proofs.KeptDeps.{count_is}
use Rattle.log_text.proofs.deps_log.DepsLogRecords.records.Goals as goal

pub returns : goal.returns
returns c = λ records keeps. c.records.ensures keeps.all (subst (IsTableOf keeps.all) (sym c.self.view_is) keeps.table) ∙ count_is records keeps
