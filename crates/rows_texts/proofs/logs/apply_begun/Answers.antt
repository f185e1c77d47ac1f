use Rattle.std.proofs.Common.{rules}
use Rattle.rows_texts.proofs.Once.{begun_is_record}
use Rattle.rows_texts.proofs.logs.apply_begun.Goals as goal

pub apply-requires : goal.apply-requires
apply-requires c = begun_is_record c.in_ok-outputs.outputs c.args.output.now (search rules)
