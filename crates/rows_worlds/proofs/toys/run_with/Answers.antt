use Rattle.std.specs.Prelude.{◌≡◌}
use Rattle.std.proofs.Common.{true, refl, ◌∙◌, ap}
use Rattle.model.specs.declared.act.Act.{Act}
use Rattle.model.specs.declared.event.Event.TheVariants.{Start}
use Rattle.model.specs.World.{World, runs}
use Rattle.model.specs.Calls.{Starts}
use Rattle.theory.proofs.Events.{runs_push}
use Rattle.rows_worlds.proofs.toys.run_with.Goals as goal

one_runs : {act : Act} {old new : World} → Starts true 1 act old new → runs 1 new.events ≡ true
one_runs {act = act} {old = old} starts = ap (runs 1) starts.events ∙ (runs_push 1 old.events (Start 1 act old.ticked) ∙ refl)

pub wait_any-requires : goal.wait_any-requires
wait_any-requires c = (1, one_runs c.in_ok-start.ensures.starts)
