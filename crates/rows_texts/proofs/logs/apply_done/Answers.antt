use Rattle.std.proofs.Common.{rules, arith}
use Rattle.rows_texts.proofs.Once.{done_is_record}
use Rattle.rows_texts.proofs.logs.apply_done.Goals as goal

pub apply-requires : goal.apply-requires
apply-requires c = done_is_record c.in_ok-outputs.outputs c.args.output.now c.args.start c.in_ok-act.act (search rules) (omega arith)
