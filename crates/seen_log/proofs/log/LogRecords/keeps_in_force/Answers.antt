use Rattle.std.proofs.Common.{refl}
use Rattle.seen_log.proofs.InForce.{compaction_keeps}
use Rattle.seen_log.proofs.log.LogRecords.keeps_in_force.Goals as goal

pub returns : goal.returns
returns c = record { nothing = λ o. refl; same = compaction_keeps }
