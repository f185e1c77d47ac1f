-- Where a build reports no fault, no command runs.
use Rattle.std.proofs.Common.{◌≡◌, inl, inr, Bool, true, false, List, sym, subst}
use Rattle.model.specs.declared.event.Event.{Event}
use Rattle.model.specs.declared.graph.BuildGraph.{BuildGraph}
use Rattle.model.specs.Premises.{HaveEnded}
use Rattle.model.specs.World.{World, IsIdle}
use Rattle.work.specs.declared.report.Report.{Report}
use Rattle.builder.specs.declared.asked.Asked.{Asked as Request}
use Rattle.drive.specs.Ending.{BuildsEnd}
use Rattle.drive.specs.Moves.{reports_fault}
use Rattle.seen.specs.Begun.{Begun, told_world}
use Rattle.seen_builds.specs.From.{IsSeenBuild, begun_with}

-- as it is told, a site runs what it runs, and has stopped where it has
told_idle : (tells : Bool) (b : Begun) (world : World) → IsIdle world.events → IsIdle (told_world tells b world).events
told_idle false b world idle = idle
told_idle true b world idle = idle

told_running : (tells : Bool) (b : Begun) (world : World) → world.stopped ≡ false → (told_world tells b world).stopped ≡ false
told_running false b world running = running
told_running true b world running = running

told_ended : (tells : Bool) (b : Begun) (world : World) → HaveEnded (told_world tells b world) → HaveEnded world
told_ended false b world ended = ended
told_ended true b world ended = ended

pub seen_ended : BuildsEnd → (tells : Bool) (graph : BuildGraph) (request : Request) (old new : World) (report : Report) → IsIdle old.events
    → IsSeenBuild tells graph request old new report → reports_fault report ≡ false → HaveEnded new
seen_ended ends tells graph request old new report idle (inl not) none = subst (λ (es : List Event). IsIdle es) (sym not.asks.looks.events) idle
seen_ended ends tells graph request old new report idle (inr begins) none =
    let b = begun_with begins.counts old.history begins.entry in
    told_ended tells b new
    (ends tells graph request (told_world tells b begins.entry) (told_world tells b new) report (told_idle tells b begins.entry begins.idle)
    (told_running tells b begins.entry begins.running) begins.built.builds none)
