use Rattle.std.proofs.Common.{List}
use Rattle.log_text.specs.declared.done.Done.{Done}
use Rattle.log_text.specs.Kept.{Saying, IsTableOf}
use Rattle.log_text.proofs.InForce.{IsBegun}
use Rattle.log_text.proofs.build_log.BuildLogRecords.compacted.Given as goal

abbrev pub invariant-loop-number : goal.invariant-loop-number
invariant-loop-number l = (all : List (Saying Done)) → IsTableOf all l.self → IsBegun all l.number l.text.items
