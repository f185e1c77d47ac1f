use Rattle.std.proofs.Common.{[], List, take}
use Rattle.model.specs.declared.record.Record.{Record}
use Rattle.model.specs.declared.record.DepsRecord.{DepsRecord}
use Rattle.records.specs.Known.{Knows}
use Rattle.tools.specs.Missing.{AddsDeps}
use Rattle.tools.proofs.Lacking.{IsMissingOf}
use Rattle.tools.proofs.missing.missing_deps.Given as goal

abbrev pub invariant-loop-output : goal.invariant-loop-output
invariant-loop-output l = (rs : List Record) (ds : List DepsRecord) → Knows l.logged.declared.now.graph l.logged.records.now rs ds → AddsDeps [] l.found.missing.items (IsMissingOf l.logged.declared.now.graph ds l.file (take l.output-index l.output-items))
