use Rattle.log_text.proofs.TwoOutputLines.{named_lacks}
use Rattle.log_text.proofs.two_outputs.pair_in.Goals as goal

pub returns-clause-line_feed : goal.returns-clause-line_feed
returns-clause-line_feed c = named_lacks c.args.front.now c.in_ok-kind.named.now c.in_ok-kind.kind c.requires c.in_ok-kind.ensures
