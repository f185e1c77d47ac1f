use Rattle.std.proofs.Common.{subst}
use Rattle.text.specs.Marks.{Lacks}
use Rattle.log_text.proofs.OneOutputLines.{no_text}
use Rattle.log_text.proofs.one_output.text_in.Goals as goal

pub returns-in-Some-clause-text : goal.returns-in-Some-clause-text
returns-in-Some-clause-text c = no_text c.args.bytes.now c.in-Some.after.now c.new.result c.in-Some.ensures c.new.ensures

pub returns-in-Some-clause-line_feed : goal.returns-in-Some-clause-line_feed
returns-in-Some-clause-line_feed c = (subst (Lacks 10) c.in-Some.ensures c.requires).1
