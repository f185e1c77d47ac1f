-- The status with which the program ends.
use Rattle.std.specs.Prelude.{ℕ}
use Rattle.work.specs.declared.report.Report.{Report}
use Rattle.work.specs.declared.report.Report.TheVariants.{Success, Failed, Refused, Fault}

-- the status after a build
abbrev pub status_of : Report → ℕ
status_of (Success started) = 0
status_of (Failed outputs) = 1
status_of (Refused refusal) = 1
status_of (Fault fault) = 1
