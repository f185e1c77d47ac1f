use Rattle.std.proofs.Common.{◌≡◌, ℕ, true, List, take}
use Rattle.model.specs.declared.record.Record.{Record}
use Rattle.model.specs.declared.record.DepsRecord.{DepsRecord}
use Rattle.paths.specs.Told.{texts_at}
use Rattle.judge.specs.Facts.{AreKnownOf}
use Rattle.work.specs.Recorded.{are_known}
use Rattle.work.proofs.recorded.are_known.Given as goal

abbrev pub invariant-loop-output : goal.invariant-loop-output
invariant-loop-output l =
    (paths : List (List ℕ)) (rs : List Record) (ds : List DepsRecord) → AreKnownOf paths l.outputs rs ds l.records → are_known rs ds l.act (texts_at paths (take l.output-index l.outputs)) ≡ true
