use Rattle.std.proofs.Common.{◌≡◌, ◌++◌, drop, filter}
use Rattle.notes.specs.Ahead.{is_made_later}
use Rattle.notes.proofs.ahead.made_later_by.Given as goal

abbrev pub invariant-loop-report : goal.invariant-loop-report
invariant-loop-report l =
    l.found.items ++ filter (is_made_later l.events) (drop l.report-index l.reports) ≡ filter (is_made_later l.events) l.reports
