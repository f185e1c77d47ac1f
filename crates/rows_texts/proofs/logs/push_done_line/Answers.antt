use Rattle.rows_texts.proofs.Once.{one_once}
use Rattle.rows_texts.proofs.logs.push_done_line.Goals as goal

pub done_line-requires-clause-once : goal.done_line-requires-clause-once
done_line-requires-clause-once c = one_once _
