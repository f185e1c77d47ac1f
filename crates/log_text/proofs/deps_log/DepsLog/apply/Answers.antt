use Rattle.std.proofs.Common.{sym, subst, ◌∙◌}
use Rattle.log_text.specs.Kept.{AreDistinct}
use Rattle.log_text.proofs.deps_log.DepsLog.apply.Goals as goal

pub put-requires : goal.put-requires
put-requires c = subst AreDistinct (sym (c.as_slice-3.ensures.value ∙ (c.in_ok-outputs.ensures ∙ c.as_slice.ensures))) c.requires.once
