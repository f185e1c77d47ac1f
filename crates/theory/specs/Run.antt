-- What a run keeps at every point: what was judged, started and taken in, and what the history gained by then. No premise is
-- here, so that each call carries it on.
use Rattle.std.specs.Prelude.{◌≡◌, ℕ, zero, suc, Bool, true, IsTrue, List, [], ◌∷◌, ◌++◌, length}
use Rattle.std.specs.List.{AllByRecursion}
use Rattle.model.specs.declared.act.Act.{Act}
use Rattle.model.specs.declared.event.Event.{Event}
use Rattle.model.specs.declared.event.Event.TheVariants.{Start, Finish}
use Rattle.model.specs.declared.event.Moment.{Moment}
use Rattle.model.specs.declared.event.Moment.TheVariants.{Wrote, Happened}
use Rattle.model.specs.declared.event.Writer.TheVariants.{Program, Command, Someone}
use Rattle.model.specs.declared.graph.Edge.{Edge}
use Rattle.model.specs.World.{World, view_of, events_in, runs}
use Rattle.model.specs.Graph.{has_number}
use Rattle.model.specs.Records.{OwnFiles}
use Rattle.model.specs.Premises.{FilesAreKept}
use Rattle.model.specs.SingleBuild.{IsOwnWrite, IsReadyFor}
use Rattle.model.specs.Schedule.{Task, Step, Judged, Started, Ended, AreEventsOf, AreFinishes, started_in}
use Rattle.theory.specs.Order.{IsOrderly}

-- the jobs that were started, one after another
abbrev pub starts_in : List Event → List ℕ
starts_in [] = []
starts_in (Start job act stamp ∷ events) = job ∷ starts_in events
starts_in (Finish job ok ∷ events) = starts_in events

-- the steps up to the start or finish that comes after so many of them
abbrev pub steps_until : List Step → ℕ → List Step
steps_until [] n = []
steps_until (Judged i out_of_date ∷ steps) n = Judged i out_of_date ∷ steps_until steps n
steps_until (Started i ∷ steps) zero = []
steps_until (Started i ∷ steps) (suc n) = Started i ∷ steps_until steps n
steps_until (Ended i well ∷ steps) zero = []
steps_until (Ended i well ∷ steps) (suc n) = Ended i well ∷ steps_until steps n

-- Each of these moments may come in a run, after these events of the run: the program writes where it may, as it has judged by
-- then, and a command writes only while it runs. `before` are the events of the site at the entry.
abbrev pub AreOfRun : OwnFiles → List Edge → List Step → List Event → List Event → List Moment → Type 0
AreOfRun own edges steps before events [] = Unit {0}
AreOfRun own edges steps before events (Wrote Program path content stamp ∷ moments) =
    IsOwnWrite own edges (steps_until steps (length events)) path content × AreOfRun own edges steps before events moments
AreOfRun own edges steps before events (Wrote (Command job) path content stamp ∷ moments) = (runs job (before ++ events) ≡ true) × AreOfRun own edges steps before events moments
AreOfRun own edges steps before events (Wrote Someone path content stamp ∷ moments) = AreOfRun own edges steps before events moments
AreOfRun own edges steps before events (Happened event ∷ moments) = AreOfRun own edges steps before (events ++ event ∷ []) moments

-- the history grew by moments of a run, with just the new events among them; `before` are the events of the site at the entry
pub record IsToldBy (own : OwnFiles) (edges : List Edge) (steps : List Step) (before events : List Event) (old new : List Moment) : Type 0 where
  pub more : List Moment
  pub grows : new ≡ old ++ more
  pub happened : events_in more ≡ events
  pub all : AreOfRun own edges steps before [] more

-- A run that goes on: its steps are orderly, and the site's events and its history grew by what they say. Whether they are lawful
-- is said beside it, as the edges that they are lawful for grow by what is loaded.
pub record IsRun (tells : Bool) (own : OwnFiles) (task : Task) (steps : List Step) (old now : World) : Type 0 where
  pub orderly : IsOrderly task.graph.edges steps
  pub events : List Event
  pub grows : now.events ≡ old.events ++ events
  pub of_steps : AreEventsOf task.graph.edges steps events
  pub history : IsTrue tells → IsToldBy own task.graph.edges steps old.events events old.history now.history

-- A run that goes on, or that a fault has cut off: since then commands were taken in, and nothing else was done.
pub record IsRunOrRest (tells : Bool) (own : OwnFiles) (task : Task) (steps : List Step) (old now : World) : Type 0 where
  pub orderly : IsOrderly task.graph.edges steps
  pub first : List Event
  pub later : List Event
  pub grows : now.events ≡ old.events ++ (first ++ later)
  pub of_steps : AreEventsOf task.graph.edges steps first
  pub finishes : AreFinishes (old.events ++ first) later
  pub history : IsTrue tells → IsToldBy own task.graph.edges steps old.events (first ++ later) old.history now.history

-- at each start since then no old depfile was there, and the response file was written: kept by each call beside the run
abbrev pub AreStartsReady : OwnFiles → List Edge → List Moment → List Moment → Type 0
AreStartsReady own edges old new =
    FilesAreKept own edges old new → (i stamp : ℕ) (act : Act) (before after : List Moment)
    → new ≡ old ++ (before ++ Happened (Start i act stamp) ∷ after) → IsReadyFor act (view_of (old ++ before))

-- a moment that is no write of the command of edge i
abbrev pub IsByOthersThan : OwnFiles → List Edge → List Step → ℕ → Moment → Type 0
IsByOthersThan own edges steps i (Wrote Program path content stamp) = IsOwnWrite own edges steps path content
IsByOthersThan own edges steps i (Wrote (Command job) path content stamp) = (job ≡ i → ⊥) × (has_number (started_in steps) job ≡ true)
IsByOthersThan own edges steps i (Wrote Someone path content stamp) = Unit {0}
IsByOthersThan own edges steps i (Happened event) = Unit {0}

-- the command of edge i ended well, and since then it wrote nothing
pub record EndOf (own : OwnFiles) (edges : List Edge) (steps : List Step) (i : ℕ) (old new : List Moment) : Type 0 where
  pub before : List Moment
  pub after : List Moment
  pub grows : new ≡ old ++ (before ++ Happened (Finish i true) ∷ after)
  pub others : AllByRecursion (IsByOthersThan own edges steps i) after
