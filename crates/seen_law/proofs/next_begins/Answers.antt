use Rattle.seen_law.proofs.Next.{begins_law}
use Rattle.seen_law.proofs.next_begins.Goals as goal

pub returns : goal.returns
returns c = begins_law
