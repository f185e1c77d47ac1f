use Rattle.std.proofs.Common.{[], List}
use Rattle.model.specs.declared.record.DepsRecord.{DepsRecord}
use Rattle.log_text.specs.DepsLog.{Keeps}
use Rattle.tools.specs.Clean.{AddsJust}
use Rattle.tools.specs.Dead.{IsListedAt}
use Rattle.tools.proofs.Adding.{IsBelow}
use Rattle.tools.proofs.dead.listed.Given as goal

abbrev pub invariant-loop-number : goal.invariant-loop-number
invariant-loop-number l = (ds : List DepsRecord) → Keeps ds l.records.logs.deps_log.log → AddsJust [] l.listed (IsBelow (IsListedAt ds) l.number)
