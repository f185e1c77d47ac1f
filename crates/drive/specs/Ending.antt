-- What a build leaves that reports no fault. A statement that this crate proves.
use Rattle.std.specs.Prelude.{◌≡◌, Bool, false}
use Rattle.model.specs.declared.graph.BuildGraph.{BuildGraph}
use Rattle.model.specs.Premises.{HaveEnded}
use Rattle.model.specs.World.{World, IsIdle}
use Rattle.work.specs.declared.report.Report.{Report}
use Rattle.builder.specs.declared.asked.Asked.{Asked as Request}
use Rattle.builder.specs.Parts.{BuildsAsked}
use Rattle.drive.specs.Moves.{reports_fault}

-- A build that began where no command ran, on a site that had not stopped, and that reports no fault leaves none running.
abbrev pub BuildsEnd : Type 0
BuildsEnd =
    (tells : Bool) (graph : BuildGraph) (asked : Request) (old new : World) (report : Report) → IsIdle old.events → old.stopped ≡ false
    → BuildsAsked tells graph asked old new report → reports_fault report ≡ false → HaveEnded new
