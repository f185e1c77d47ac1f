use Rattle.rows_texts.proofs.Once.{one_once}
use Rattle.rows_texts.proofs.logs.push_reported.Goals as goal

pub record_line-requires-clause-once : goal.record_line-requires-clause-once
record_line-requires-clause-once c = one_once _
