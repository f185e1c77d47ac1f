use Rattle.std.proofs.Common.{[], List}
use Rattle.model.specs.declared.record.Record.{Record}
use Rattle.log_text.specs.BuildLog.{Keeps}
use Rattle.tools.specs.Dead.{AddsLeft}
use Rattle.tools.proofs.Adding.{IsBelow}
use Rattle.tools.proofs.Forcing.{IsLeftAt}
use Rattle.tools.proofs.dead.bury_made.Given as goal

abbrev pub invariant-loop-number : goal.invariant-loop-number
invariant-loop-number l = (rs : List Record) → Keeps rs l.records.logs.build_log.log → AddsLeft l.declared.graph.manifest l.listed (IsBelow (IsLeftAt rs) l.number) (record { dead = []; kept = [] }) l.found
