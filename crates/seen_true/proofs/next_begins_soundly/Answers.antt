use Rattle.seen_true.proofs.Sound.{begins_law}
use Rattle.seen_true.proofs.next_begins_soundly.Goals as goal

pub returns : goal.returns
returns c = begins_law
