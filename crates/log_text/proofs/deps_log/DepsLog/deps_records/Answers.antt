use Rattle.std.proofs.Common.{sym, subst, ◌∙◌}
use Rattle.log_text.specs.Kept.{IsTableOf}
use Rattle.log_text.proofs.KeptDeps.{told_count}
use Rattle.log_text.proofs.deps_log.DepsLog.deps_records.Goals as goal

pub returns : goal.returns
returns c = λ records keeps. c.tellings.ensures keeps.all (subst (IsTableOf keeps.all) (sym c.self.view_is) keeps.table) ∙ told_count records keeps
