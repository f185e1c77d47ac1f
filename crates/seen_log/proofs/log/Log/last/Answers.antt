use Rattle.std.proofs.Common.{sym, subst, ◌∙◌}
use Rattle.seen_log.specs.Keeping.{IsLast}
use Rattle.seen_log.proofs.log.Log.last.Goals as goal

pub returns-clause-kept : goal.returns-clause-kept
returns-clause-kept c = λ records keeps. subst (IsLast records c.args.path.now) (sym (c.copied.ensures ∙ c.get.ensures.value)) (keeps.last c.args.path.now)

pub returns-clause-is : goal.returns-clause-is
returns-clause-is c = c.copied.ensures ∙ c.get.ensures.value
