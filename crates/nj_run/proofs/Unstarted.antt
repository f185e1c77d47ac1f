-- Calls that start nothing.
use Rattle.std.proofs.Common.{List, ℕ, false, Result, Ok, Err, IfOk, IfErr}
use Rattle.model.specs.World.{World}
use Rattle.work.specs.declared.report.Options.{Options}
use Rattle.work.specs.declared.report.Report.{Report}
use Rattle.builder.specs.declared.reading.Reading.{Reading}
use Rattle.builder.specs.Build.{IsUnread, WasRead}
use Rattle.nj_run.specs.Looked.{StartsNothing}

-- build files were read, or not
pub read_starts : (r : Result Reading Report) (options : Options) (old new : World) → IfOk r (WasRead false options old new) → IfErr r (IsUnread false options.file old new) → StartsNothing old new
read_starts (Ok reading) options old new read unread = read.looked.looks.events
read_starts (Err report) options old new read unread = unread.looks.events
