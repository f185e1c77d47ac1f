use Rattle.log_text.proofs.LawLemmas.{line_grows_log_law}
use Rattle.log_text.proofs.laws.line_grows_log.Goals as goal

pub returns : goal.returns
returns g c = line_grows_log_law g.L.Records.forms c.are_readable.ensures
