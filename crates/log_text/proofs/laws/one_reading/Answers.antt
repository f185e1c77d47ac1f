use Rattle.log_text.proofs.LawLemmas.{one_reading_law}
use Rattle.log_text.proofs.laws.one_reading.Goals as goal

pub returns : goal.returns
returns g c = one_reading_law g.L.Records.forms c.are_readable.ensures
