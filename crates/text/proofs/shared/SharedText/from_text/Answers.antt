use Rattle.std.proofs.Common.{sym, ◌∙◌}
use Rattle.text.proofs.shared.SharedText.from_text.Goals as goal

pub returns-then-is_empty : goal.returns-then-is_empty
returns-then-is_empty c = c.new.ensures ∙ sym (c.is_empty.ensures.0 c.if-is_empty.true)
