use Rattle.std.proofs.Common.{sym, ◌∙◌}
use Rattle.log_text.proofs.Parts.{same_text}
use Rattle.log_text.proofs.sharing.fitting.Goals as goal

pub returns-then-is : goal.returns-then-is
returns-then-is c = same_text _ _ (sym c.if-is.true ∙ c.is.ensures)
