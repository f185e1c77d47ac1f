use Rattle.log_text.proofs.OneOutputLines.{named_lacks}
use Rattle.log_text.proofs.one_output.head_in.Goals as goal

pub returns-clause-line_feed : goal.returns-clause-line_feed
returns-clause-line_feed c = named_lacks c.args.front.now c.in_ok-kind.named.now c.in_ok-kind.kind c.requires c.in_ok-kind.ensures
