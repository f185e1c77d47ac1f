use Rattle.log_text.proofs.LawLemmas.{front_of_log_law}
use Rattle.log_text.proofs.laws.front_of_log.Goals as goal

pub returns : goal.returns
returns g c = front_of_log_law g.L.Records.forms c.are_readable.ensures
