-- A site in memory as contracts see it, and what its calls do.
use Rattle.std.specs.Prelude.{◌≡◌, ℕ, ◌+◌, false, List, [], ◌∷◌, ◌++◌, Option, Some, None}
use Rattle.model.specs.declared.act.Act.{Act}
use Rattle.model.specs.declared.event.Event.{Event}
use Rattle.model.specs.declared.event.Event.TheVariants.{Start}
use Rattle.model.specs.declared.event.Moment.{Moment}
use Rattle.model.specs.declared.event.Moment.TheVariants.{Happened}
use Rattle.model.specs.declared.event.Writer.{Writer}
use Rattle.model.specs.declared.event.Writer.TheVariants.{Program}
use Rattle.model.specs.declared.outcome.Outcome.{Outcome}
use Rattle.model.specs.World.{World, file_at, latest}
use Rattle.model.specs.Calls.{content_or_empty}
use Rattle.sim.specs.declared.sim.Sim.{Sim}
use Rattle.sim.specs.History.{with_next, with_writes, longer_at}
use Rattle.sim.specs.Jobs.{Told, nothing_told}

-- a site by its parts
abbrev pub world_with : List Moment → Told → (ticked failures at_start : ℕ) → Option ℕ → World
world_with history told ticked failures at_start refused_before = record {
  history = history;
  events = told.events;
  earlier = told.earlier;
  ticked = ticked;
  failures = failures;
  failures_at_start = at_start;
  wait_refused = refused_before;
  stopped = told.stopped;
}

abbrev pub world_of : {C : Type 0} → Sim C → World
world_of sim = world_with sim.history sim.jobs sim.ticked sim.failures sim.failures_at_start sim.wait_refused

-- nothing has happened
abbrev pub fresh : World
fresh = world_with [] nothing_told 0 0 0 None

-- a file has been written under the next stamp, or deleted
abbrev pub wrote : Writer → List ℕ → Option (List ℕ) → World → World
wrote by path content world = record world { history = with_next by path content world.history }

-- the site wrote the file under the next stamp, or deleted it
abbrev pub HasWritten : {C : Type 0} → Writer → List ℕ → Option (List ℕ) → Sim C → Sim C → Type 0
HasWritten by path content old new = world_of new ≡ wrote by path content (world_of old)

-- the file has the next stamp, and what it held before
abbrev pub ticked : List ℕ → World → World
ticked path world = record (wrote Program path (Some (content_or_empty (file_at world.history path))) world) { ticked = latest world.history + 1 }

-- bytes stand behind what the file held
abbrev pub appended : List ℕ → List ℕ → World → World
appended path bytes world = wrote Program path (longer_at path bytes world.history) world

-- a command was started or ended
abbrev pub happened : Event → World → World
happened event world = record world { history = world.history ++ Happened event ∷ []; events = world.events ++ event ∷ [] }

-- a command was started, under the stamp of the last tick
abbrev pub started : ℕ → Act → World → World
started job act world = record (happened (Start job act world.ticked) world) { failures_at_start = world.failures }

-- the site was started again, where nothing had run
abbrev pub restarted : World → World
restarted world = record world { earlier = world.earlier ++ world.events; events = []; wait_refused = None; stopped = false }

-- the device refused a call
abbrev pub refused : World → World
refused world = record world { failures = world.failures + 1 }

-- the job has made these writes
abbrev pub worked : ℕ → Outcome → World → World
worked job outcome world = record world { history = with_writes job outcome.writes world.history }
