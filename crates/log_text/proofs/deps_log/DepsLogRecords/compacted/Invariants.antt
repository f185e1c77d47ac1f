use Rattle.std.proofs.Common.{map, take}
use Rattle.log_text.specs.DepsLog.{IsLog, record_in}
use Rattle.log_text.proofs.deps_log.DepsLogRecords.compacted.Given as goal

abbrev pub invariant-loop-telling : goal.invariant-loop-telling
invariant-loop-telling l = IsLog l.text.items (map (record_in l.self.outputs) (take l.telling-index l.telling-items))
