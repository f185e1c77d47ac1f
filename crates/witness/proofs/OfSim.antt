-- That waiting and stopping are what the contracts of the site in memory say.
use Rattle.std.proofs.Common.{◌≡◌, ℕ, true, false, List, [], ◌∷◌, None, refl, ◌∙◌, ap}
use Rattle.model.specs.declared.event.Event.TheVariants.{Finish}
use Rattle.model.specs.declared.event.Finished.{Finished}
use Rattle.model.specs.declared.event.Moment.{Moment}
use Rattle.model.specs.declared.outcome.Outcome.{Outcome}
use Rattle.model.specs.World.{view_of}
use Rattle.sim.specs.History.{with_writes}
use Rattle.sim.specs.Sim.{Ends, Halts, noting, given_by, carried}
use Rattle.sim.specs.Toy.{toy_outcome}
use Rattle.sim.specs.World.{world_of, happened, worked}
use Rattle.sim.specs.declared.jobs.Running.{Running}
use Rattle.sim.specs.declared.sim.Sim.{Sim}
use Rattle.sim.specs.declared.toy.Toy.{Toy}
use Rattle.witness.specs.Worlds.{AreOfSim, waits, stops}

-- a command that has not written gives what it gives in the view of now
gives_now : (one : Running) (history : List Moment) → one.done ≡ None → given_by toy_outcome one history ≡ toy_outcome one.act (view_of history)
gives_now one history none = rw none refl

waits_so : (old new : Sim Toy) (finished : Finished) (ends : Ends toy_outcome finished old new) → ends.one.done ≡ None → world_of new ≡ waits finished.job ends.one.act (world_of old)
waits_so old new finished ends none =
    ends.world
    ∙ ap (λ ok. happened (Finish finished.job ok) (worked finished.job (given_by toy_outcome ends.one old.history) (world_of old))) ends.ok
    ∙ ap (λ (o : Outcome). happened (Finish finished.job o.ok) (worked finished.job o (world_of old))) (gives_now ends.one old.history none)

stops_so : (old new : Sim Toy) (job : ℕ) (one : Running) → Halts toy_outcome (noting old) new → one.done ≡ None → old.jobs.running ≡ (job, one) ∷ [] → new.lost ≡ false
    → world_of new ≡ stops job one.act (world_of old)
stops_so old new job one halts none running found =
    halts.world
    ∙ ap (λ (history : List Moment). record (world_of (noting old)) { history = history; stopped = true })
    (halts.all found ∙ ap (λ list. carried toy_outcome list old.history) running ∙ ap (λ (o : Outcome). with_writes job o.writes old.history) (gives_now one old.history none))

pub of_sim : AreOfSim
of_sim = record { waits = waits_so; stops = stops_so }
