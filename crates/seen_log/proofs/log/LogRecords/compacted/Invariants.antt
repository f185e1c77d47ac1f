use Rattle.std.proofs.Common.{map, take}
use Rattle.seen_log.specs.Log.{IsLog}
use Rattle.seen_log.specs.Keeping.{entry_note}
use Rattle.seen_log.proofs.log.LogRecords.compacted.Given as goal

-- the first entries are written
abbrev pub invariant-loop-place : goal.invariant-loop-place
invariant-loop-place l = IsLog l.text.items (map entry_note (take l.place l.self.last.entries))
