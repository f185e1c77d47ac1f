use Rattle.std.proofs.Common.{◌∙◌}
use Rattle.log_text.proofs.Lines.{list_pushed}
use Rattle.log_text.proofs.line.push_list.Goals as goal

pub returns-clause-field : goal.returns-clause-field
returns-clause-field c = c.loop-text.invariant.written ∙ list_pushed c.args.line.now.items c.push_number.new.line.items c.args.texts.now c.loop-text.text-index c.loop-text-test.false c.in_ok-push_number.ensures.field
