use Rattle.std.proofs.Common.{refl}
use Rattle.log_text.proofs.Compacting.{compaction_keeps_law}
use Rattle.log_text.proofs.build_log.BuildLogRecords.keeps_in_force.Goals as goal

pub returns : goal.returns
returns c = record { nothing = λ o. refl; same = compaction_keeps_law }
