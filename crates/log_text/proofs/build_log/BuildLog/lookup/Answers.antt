use Rattle.std.proofs.Common.{sym, subst, map}
use Rattle.log_text.specs.Kept.{IsTableOf}
use Rattle.log_text.specs.BuildLog.{saying}
use Rattle.log_text.proofs.InForce.{made_found}
use Rattle.log_text.proofs.build_log.BuildLog.lookup.Goals as goal

pub returns : goal.returns
returns c = λ records keeps. made_found records c.args.output.now _ (c.lookup.ensures (map saying records) (subst (IsTableOf (map saying records)) (sym c.self.view_is) keeps))
