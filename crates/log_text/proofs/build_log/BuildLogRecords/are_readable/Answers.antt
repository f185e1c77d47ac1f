use Rattle.log_text.proofs.Parts.{one_record, no_line_feed, other_lines}
use Rattle.log_text.proofs.BuildRecordOf.{record_of_fields}
use Rattle.log_text.proofs.build_log.BuildLogRecords.are_readable.Goals as goal

pub returns : goal.returns
returns c = record { one_record = one_record; one_line = no_line_feed; differ = other_lines; decided = record_of_fields }
