-- A build over a site as it is told.
use Rattle.std.proofs.Common.{◌≡◌, inl, inr, ℕ, Bool, true, false, List, refl, sym, subst}
use Rattle.model.specs.declared.event.Event.{Event}
use Rattle.model.specs.declared.event.Moment.{Moment}
use Rattle.model.specs.declared.graph.BuildGraph.{BuildGraph}
use Rattle.model.specs.Calls.{OnlyLooks}
use Rattle.model.specs.World.{World, IsIdle}
use Rattle.work.specs.declared.report.Report.{Report}
use Rattle.builder.specs.declared.asked.Asked.{Asked as Request}
use Rattle.builder.specs.Parts.{BuildsAsked}
use Rattle.seen_true.specs.Going.{NotesStand}
use Rattle.seen.specs.declared.notes.Entry.{Entry}
use Rattle.seen.specs.Asking.{WasAnswered}
use Rattle.seen.specs.Begun.{Begun, GoesOn, told_world}
use Rattle.seen.specs.Entering.{EntersSince}
use Rattle.seen_builds.specs.From.{IsOver, begun_with}
use Rattle.seen_builds.specs.Runs.{BegunIsRun}

-- what is told of a site on which no command runs, and which has not stopped
told_idle : (tells : Bool) (b : Begun) (world : World) → IsIdle world.events → IsIdle (told_world tells b world).events
told_idle false b world idle = idle
told_idle true b world idle = idle

told_running : (tells : Bool) (b : Begun) (world : World) → world.stopped ≡ false → (told_world tells b world).stopped ≡ false
told_running false b world running = running
told_running true b world running = running

module _ (tells : Bool) (b : Begun) (old first : World) (same : first ≡ old) where
  pub idle_over : IsIdle old.events → IsIdle (told_world tells b first).events
  idle_over idle = told_idle tells b first (subst (λ (w : World). IsIdle w.events) (sym same) idle)

  pub running_over : old.stopped ≡ false → (told_world tells b first).stopped ≡ false
  running_over running = told_running tells b first (subst (λ (w : World). w.stopped ≡ false) (sym same) running)

  pub is_over : (graph : BuildGraph) (asked : Request) (new last : World) (report : Report) → new ≡ last → GoesOn tells b last
      → BuildsAsked tells graph asked (told_world tells b first) (told_world tells b last) report → NotesStand tells b last → IsOver tells b graph asked old new report
  is_over graph asked new last report ends goes builds stand = record {
    goes_on = subst (λ (w : World). GoesOn tells b w) (sym ends) goes;
    builds = subst (λ (w : World). BuildsAsked tells graph asked (told_world tells b w) (told_world tells b new) report) same
        (subst (λ (w : World). BuildsAsked tells graph asked (told_world tells b first) (told_world tells b w) report) (sym ends) builds);
    noted = subst (λ (w : World). NotesStand tells b w) (sym ends) stand;
  }

-- where there is only looked no command runs still
pub idle_looking : (tells : Bool) (old new : World) → OnlyLooks tells old new → IsIdle old.events → IsIdle new.events
idle_looking tells old new looks idle = subst (λ (es : List Event). IsIdle es) (sym looks.events) idle

-- ---- what is known when a build begins

-- where each call was answered the site has not stopped
pub answered_running : (old new : World) → old.stopped ≡ false → WasAnswered old new → new.stopped ≡ false
answered_running old new running (inl same) = subst (λ (w : World). w.stopped ≡ false) (sym same) running
answered_running old new running (inr answered) = answered.goes_on

-- ---- when it was asked for

module _ (tells : Bool) (entry : Entry) (old past : List Moment) (world : World) (same : old ≡ past) where
  pub enters_behind : EntersSince tells entry old world → EntersSince tells entry past world
  enters_behind enters = subst (λ (h : List Moment). EntersSince tells entry h world) same enters

  pub over_from : (graph : BuildGraph) (asked : Request) (new : World) (report : Report) → IsOver tells (begun_with entry.counts past world) graph asked world new report
      → IsOver tells (begun_with entry.counts old world) graph asked world new report
  over_from graph asked new report over = subst (λ (h : List Moment). IsOver tells (begun_with entry.counts h world) graph asked world new report) (sym same) over

-- ---- it is one of those that may come one after another

pub begun_law : BegunIsRun
begun_law graph request old new report begins = record {
  idle = begins.idle;
  running = begins.running;
  own = begins.own;
  makes = begins.makes;
  base = begins.base;
  enters = begins.enters refl;
  built = begins.built;
}
