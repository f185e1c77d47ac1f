use Rattle.std.proofs.Common.{sym, subst, ap, ◌∙◌}
use Rattle.log_text.specs.Kept.{AreDistinct}
use Rattle.log_text.specs.BuildRecord.{outputs_of}
use Rattle.log_text.proofs.build_log.BuildLog.apply.Goals as goal

pub put-requires : goal.put-requires
put-requires c = subst AreDistinct (ap outputs_of c.in-Begun.is ∙ sym (c.as_slice.ensures)) c.requires.once

pub put-requires-in-Done : goal.put-requires-in-Done
put-requires-in-Done c = subst AreDistinct (ap outputs_of c.in-Done.is ∙ sym (c.as_slice-in-Done.ensures)) c.requires.once
