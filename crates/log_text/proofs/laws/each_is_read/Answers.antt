use Rattle.log_text.proofs.EachRead.{each_is_read_law}
use Rattle.log_text.proofs.laws.each_is_read.Goals as goal

pub returns : goal.returns
returns g c = each_is_read_law g.L.Records.forms c.are_readable.ensures
