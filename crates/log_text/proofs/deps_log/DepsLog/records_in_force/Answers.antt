use Rattle.std.proofs.Common.{sym, subst, ◌∙◌}
use Rattle.log_text.specs.Kept.{IsTableOf}
use Rattle.log_text.proofs.KeptDeps.{in_force_count}
use Rattle.log_text.proofs.deps_log.DepsLog.records_in_force.Goals as goal

pub returns : goal.returns
returns c = λ records keeps. c.records_in_force.ensures keeps.all (subst (IsTableOf keeps.all) (sym c.self.view_is) keeps.table) ∙ in_force_count records keeps
