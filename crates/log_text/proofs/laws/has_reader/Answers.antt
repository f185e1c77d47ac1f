use Rattle.log_text.proofs.EachRead.{has_reader_law}
use Rattle.log_text.proofs.laws.has_reader.Goals as goal

pub returns : goal.returns
returns g c = has_reader_law g.L.Records.forms c.one_reading.ensures c.each_is_read.ensures
