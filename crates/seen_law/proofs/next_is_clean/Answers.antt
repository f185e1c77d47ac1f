use Rattle.seen_law.proofs.Next.{clean_law}
use Rattle.seen_law.proofs.next_is_clean.Goals as goal

pub returns : goal.returns
returns c = clean_law
