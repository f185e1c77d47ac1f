use Rattle.seen_log.proofs.Fields.{one_record, no_line_feed, other_lines}
use Rattle.seen_log.proofs.RecordOf.{record_of_fields}
use Rattle.seen_log.proofs.log.LogRecords.are_readable.Goals as goal

pub returns : goal.returns
returns c = record { one_record = one_record; one_line = no_line_feed; differ = other_lines; decided = record_of_fields c.parts_are_decided.ensures }
