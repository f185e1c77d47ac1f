use Rattle.std.proofs.Common.{[], take}
use Rattle.log_text.specs.Kept.{texts_at}
use Rattle.tools.specs.Missing.{AddsDeps, IsMadeFor}
use Rattle.tools.proofs.missing.made_inputs.Given as goal

abbrev pub invariant-loop-number : goal.invariant-loop-number
invariant-loop-number l = AddsDeps [] l.made.items (IsMadeFor l.logged.declared.now.graph l.output (texts_at l.logged.records.now.logs.deps_log.log.outputs (take l.number-index l.numbers)) l.file)
