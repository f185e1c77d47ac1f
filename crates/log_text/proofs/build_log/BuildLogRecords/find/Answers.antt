use Rattle.std.proofs.Common.{sym, subst, map}
use Rattle.log_text.specs.Kept.{IsTableOf}
use Rattle.log_text.specs.BuildLog.{saying}
use Rattle.log_text.proofs.InForce.{making_found}
use Rattle.log_text.proofs.build_log.BuildLogRecords.find.Goals as goal

pub returns : goal.returns
returns c = λ records keeps. making_found records c.args.output.now c.find.result (c.find.ensures.place (map saying records) (subst (IsTableOf (map saying records)) (sym c.self.view_is) keeps))
