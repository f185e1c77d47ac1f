use Rattle.log_text.proofs.OneOutputLines.{behind_lacks}
use Rattle.log_text.proofs.one_output.escaped_in.Goals as goal

pub returns-clause-line_feed : goal.returns-clause-line_feed
returns-clause-line_feed c = behind_lacks c.args.bytes.now c.in-Some.field.now c.in-Some.after.now c.requires c.in-Some.ensures.found
