use Rattle.std.proofs.Common.{refl}
use Rattle.log_text.proofs.Sayings.{compaction_keeps_law}
use Rattle.log_text.proofs.deps_log.DepsLogRecords.keeps_in_force.Goals as goal

pub returns : goal.returns
returns c = record { nothing = λ o. refl; same = compaction_keeps_law c.in_force_keeps.ensures }
