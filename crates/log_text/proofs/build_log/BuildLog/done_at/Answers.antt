use Rattle.std.proofs.Common.{sym, subst, map}
use Rattle.log_text.specs.Kept.{IsTableOf}
use Rattle.log_text.specs.BuildLog.{saying}
use Rattle.log_text.proofs.InForce.{making_at}
use Rattle.log_text.proofs.build_log.BuildLog.done_at.Goals as goal

pub returns : goal.returns
returns c = λ records keeps. making_at records c.args.number _ (c.at.ensures (map saying records) (subst (IsTableOf (map saying records)) (sym c.self.view_is) keeps))
