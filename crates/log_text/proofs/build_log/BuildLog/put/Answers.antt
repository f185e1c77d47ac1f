use Rattle.std.proofs.Common.{sym, subst, ◌∙◌}
use Rattle.log_text.specs.Kept.{AreDistinct}
use Rattle.log_text.proofs.build_log.BuildLog.put.Goals as goal

pub put-requires : goal.put-requires
put-requires c = subst AreDistinct (sym (c.as_slice.ensures.value ∙ c.in_ok-fields.ensures)) c.requires
