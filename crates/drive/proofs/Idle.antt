-- A build that reports no fault leaves no command running.
use Rattle.std.proofs.Common.{◌≡◌, ◌∙◌, Bool, true, false, [], append-nil, refl, sym}
use Rattle.model.specs.Outcome.{Behaviour}
use Rattle.model.specs.World.{World}
use Rattle.log_text.specs.DepsFormat.{HasFormat}
use Rattle.depfile.specs.Depfile.{HasReading}
use Rattle.dyndep_law.specs.Readings.{HasReading as HasDyndeps}
use Rattle.theory.specs.Seen.{Looked}
use Rattle.drive.specs.Driven.{behaving}
use Rattle.drive.specs.Ending.{BuildsEnd}
use Rattle.drive.proofs.Saying.{fault_same}
use Rattle.drive.proofs.Visited.{readings, some_in, some_own}

-- where nothing was done there was only looked
looked_here : (tells : Bool) (world : World) → world.stopped ≡ false → Looked tells world world
looked_here tells world running = record {
  looks = record { events = refl; ticked = refl; at_start = refl; history = λ is. record { more = []; grows = sym (append-nil world.history); all = tt } };
  unrefused = record { failures = refl; began = running; goes_on = running; earlier = refl };
}

pub end_law : HasFormat → HasReading → HasDyndeps → BuildsEnd
end_law logs depfiles dyndeps tells graph asked old new report idle running builds none =
    let some = readings dyndeps in
    let behaves : Behaviour = behaving (λ act view. record { ok = true; writes = [] }) depfiles.0 some.0 in
    let one = builds.1 behaves logs.0 (some_own asked.folder) old depfiles.1 some.1 logs.1 (some_in asked.folder) idle (looked_here tells old running) in
    one.build.idle (fault_same graph.edges asked.given.now asked.targets report one.answer one.said ∙ none)
