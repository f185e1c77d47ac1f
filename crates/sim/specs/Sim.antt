-- How the calls of a site in memory go.
use Rattle.std.specs.Prelude.{◌≡◌, ◌⊎◌, ℕ, ◌+◌, ◌<◌, ◌≤◌, Bool, true, false, List, [], ◌∷◌, ◌++◌, take, length, Option, Some, None, Result, Ok, Err, map}
use Rattle.model.specs.declared.act.Act.{Act}
use Rattle.model.specs.declared.event.Event.{Event}
use Rattle.model.specs.declared.event.Event.TheVariants.{Start, Finish}
use Rattle.model.specs.declared.event.Finished.{Finished}
use Rattle.model.specs.declared.event.Moment.{Moment}
use Rattle.model.specs.declared.event.Moment.TheVariants.{Happened}
use Rattle.model.specs.declared.event.Writer.TheVariants.{Program}
use Rattle.model.specs.declared.fault.SiteFault.{SiteFault}
use Rattle.model.specs.declared.fault.SiteFault.TheVariants.{Device, Stopped, Memory}
use Rattle.model.specs.declared.outcome.Outcome.{Outcome}
use Rattle.model.specs.declared.outcome.Write.{Write}
use Rattle.model.specs.World.{View, view_of, IsRunning}
use Rattle.model.specs.Calls.{OthersWrote}
use Rattle.sim.specs.declared.faults.Call.{Call}
use Rattle.sim.specs.declared.faults.Named.{Named}
use Rattle.sim.specs.declared.faults.Trouble.{Trouble}
use Rattle.sim.specs.declared.faults.Trouble.TheVariants.{Refused, Stop}
use Rattle.sim.specs.declared.jobs.Running.{Running}
use Rattle.sim.specs.declared.sim.Sim.{Sim}
use Rattle.sim.specs.declared.sim.Timing.{Timing}
use Rattle.sim.specs.declared.sim.Timing.TheVariants.{Early, Late}
use Rattle.sim.specs.Faults.{trouble_in, after_call}
use Rattle.sim.specs.History.{with_next, with_writes, after_writes, longer_at}
use Rattle.sim.specs.Jobs.{with_start, running_at}
use Rattle.sim.specs.Running.{IsNext, act_of}
use Rattle.sim.specs.World.{world_of, refused, happened, worked, restarted}

-- ---- what commands do

-- what a running command gives at its end, the files being those of this history; nothing is left to write where it has written
abbrev pub given_by : (Act → View → Outcome) → Running → List Moment → Outcome
given_by outcome one history = elim one.done [ None ↦ outcome one.act (view_of history) | Some ok ↦ record { ok = ok; writes = [] } ]

abbrev pub worked_off : (Act → View → Outcome) → ℕ → Running → List Moment → List Moment
worked_off outcome job one history = with_writes job (given_by outcome one history).writes history

-- the commands have made their writes in turn
abbrev pub carried : (Act → View → Outcome) → List (ℕ × Running) → List Moment → List Moment
carried outcome [] history = history
carried outcome (entry ∷ running) history = carried outcome running (worked_off outcome entry.0 entry.1 history)

-- by whichever events the commands are told to run, only running commands wrote
abbrev pub OnlyTheyWrote : (List Event → Type 0) → List Moment → List Moment → Type 0
OnlyTheyWrote TellsThem old new = (events : List Event) → TellsThem events → OthersWrote (IsRunning events) old new

-- The site stopped. The commands that ran made their writes in turn, unless one found no memory; then it made none.
pub record Halts {C : Type 0} (outcome : Act → View → Outcome) (old new : Sim C) : Type 0 where
  pub world : world_of new ≡ record (world_of old) { history = new.history; stopped = true }
  pub writes : OthersWrote (IsRunning (world_of old).events) old.history new.history
  pub all : new.lost ≡ false → new.history ≡ carried outcome old.jobs.running old.history

-- The site was started again. Commands that ran until then made their writes in turn.
pub record Restarts {C : Type 0} (outcome : Act → View → Outcome) (old new : Sim C) : Type 0 where
  pub world : world_of new ≡ record (restarted (world_of old)) { history = new.history }
  pub again : old.jobs.stopped ≡ true → new.history ≡ old.history
  pub all : old.jobs.stopped ≡ false → new.lost ≡ false → new.history ≡ carried outcome old.jobs.running old.history

-- what a start writes, and whether the command is known to end well
abbrev pub done_at : Timing → Outcome → Option Bool
done_at Late given = None
done_at Early given = Some given.ok

abbrev pub written_at : Timing → Outcome → List Write
written_at Late given = []
written_at Early given = given.writes

-- a command was started
abbrev pub launched : {C : Type 0} → (Act → View → Outcome) → ℕ → Act → Sim C → Sim C
launched outcome job act sim = record sim {
  history = with_writes job (written_at sim.timing (outcome act (view_of sim.history))) (sim.history ++ Happened (Start job act sim.ticked) ∷ []);
  jobs = with_start job act sim.ticked (done_at sim.timing (outcome act (view_of sim.history))) sim.jobs;
  failures_at_start = sim.failures;
}

-- the command that ends next did its work, unless it had, in the view of that moment, and ended
pub record Ends {C : Type 0} (outcome : Act → View → Outcome) (finished : Finished) (old new : Sim C) : Type 0 where
  pub next : IsNext old.order finished.job (world_of old).events
  pub one : Running
  pub runs : running_at finished.job old.jobs.running ≡ Some one
  pub acts : act_of finished.job (world_of old).events ≡ Some one.act
  pub ok : finished.ok ≡ (given_by outcome one old.history).ok
  pub output : finished.output ≡ []
  pub world : world_of new ≡ happened (Finish finished.job finished.ok) (worked finished.job (given_by outcome one old.history) (world_of old))
  pub view : (path : List ℕ) → view_of new.history path ≡ after_writes (view_of old.history) (given_by outcome one old.history).writes path

-- ---- what the program writes

abbrev pub storing : {C : Type 0} → List ℕ → Option (List ℕ) → Sim C → Sim C
storing path content sim = record sim { history = with_next Program path content sim.history }

-- the bytes are put behind what the file held
abbrev pub putting : {C : Type 0} → List ℕ → List ℕ → Sim C → Sim C
putting path bytes sim = storing path (longer_at path bytes sim.history) sim

-- no bytes leave the file as it was
abbrev pub putting_some : {C : Type 0} → List ℕ → List ℕ → Sim C → Sim C
putting_some path [] sim = sim
putting_some path (byte ∷ bytes) sim = putting path (byte ∷ bytes) sim

-- no more than so many of the bytes are put there
abbrev pub putting_first : {C : Type 0} → List ℕ → List ℕ → ℕ → Sim C → Sim C
putting_first path bytes count sim = putting_some path (take count bytes) sim

-- ---- what was named

-- what was named for the next call of this kind
abbrev pub trouble_of : {C : Type 0} → Call → Sim C → Option Trouble
trouble_of call sim = trouble_in call sim.faults

-- a call of this kind has come
abbrev pub called : {C : Type 0} → Call → Sim C → Sim C
called call sim = record sim { faults = map (after_call call) sim.faults }

abbrev pub naming : {C : Type 0} → Named → Sim C → Sim C
naming named sim = record sim { faults = sim.faults ++ named ∷ [] }

-- the device refused one more call
abbrev pub refusing : {C : Type 0} → Sim C → Sim C
refusing sim = record sim { failures = sim.failures + 1 }

-- the device refused a call of this kind, as was named for it
abbrev pub RefusedAsNamed : {C : Type 0} → Call → Sim C → Sim C → Type 0
RefusedAsNamed call old new = (trouble_of call old ≡ Some Refused) × (new ≡ refusing (called call old))

-- A call of this kind goes as it was named: it is refused, or the site stops in it, just where that was named for it, unless memory
-- was refused. A refused call changes nothing but the count, and neither does one that found no memory; one in which the site stops
-- has done this part of its work.
abbrev pub GoesDoing : {C T : Type 0} → (Act → View → Outcome) → Call → (ℕ → Sim C → Sim C) → Sim C → Sim C → Result T SiteFault → Type 0
GoesDoing outcome call part old new (Ok value) = (old.jobs.stopped ≡ false) × (trouble_of call old ≡ None)
GoesDoing outcome call part old new (Err Device) = (old.jobs.stopped ≡ false) × (trouble_of call old ≡ Some Refused) × (world_of new ≡ refused (world_of old))
GoesDoing outcome call part old new (Err Stopped) =
    ((old.jobs.stopped ≡ true) × (new ≡ old))
    ⊎ ((old.jobs.stopped ≡ false) × ((bytes : ℕ) × (trouble_of call old ≡ Some (Stop bytes)) × Halts outcome (part bytes (called call old)) new))
GoesDoing outcome call part old new (Err Memory) = (old.jobs.stopped ≡ false) × (world_of new ≡ world_of old)

-- one that has done nothing where the site stops in it
abbrev pub Goes : {C T : Type 0} → (Act → View → Outcome) → Call → Sim C → Sim C → Result T SiteFault → Type 0
Goes outcome call old new result = GoesDoing outcome call (λ bytes sim. sim) old new result

-- one in which a command is taken in is refused, too, where fewer commands run than the gate asks for
abbrev pub GoesTaking : {C T : Type 0} → (Act → View → Outcome) → Call → Sim C → Sim C → Result T SiteFault → Type 0
GoesTaking outcome call old new (Ok value) = Goes {T = ℕ} outcome call old new (Ok 0) × (old.gate ≤ length old.jobs.running)
GoesTaking outcome call old new (Err Device) =
    (old.jobs.stopped ≡ false) × ((trouble_of call old ≡ Some Refused) ⊎ (length old.jobs.running < old.gate)) × (world_of new ≡ refused (world_of old))
GoesTaking outcome call old new (Err Stopped) = Goes {T = ℕ} outcome call old new (Err Stopped)
GoesTaking outcome call old new (Err Memory) = Goes {T = ℕ} outcome call old new (Err Memory)

-- it is noted how many calls the device had refused before this wait
abbrev pub noting : {C : Type 0} → Sim C → Sim C
noting sim = record sim { wait_refused = Some sim.failures }

-- a wait goes so, and one that takes in no command is noted, unless the site had stopped before
abbrev pub GoesWait : {C T : Type 0} → (Act → View → Outcome) → Call → Sim C → Sim C → Result T SiteFault → Type 0
GoesWait outcome call old new (Ok value) = GoesTaking {T = ℕ} outcome call old new (Ok 0)
GoesWait outcome call old new (Err Device) =
    (old.jobs.stopped ≡ false) × ((trouble_of call old ≡ Some Refused) ⊎ (length old.jobs.running < old.gate)) × (world_of new ≡ refused (world_of (noting old)))
GoesWait outcome call old new (Err Stopped) = GoesDoing {T = ℕ} outcome call (λ bytes sim. noting sim) old new (Err Stopped)
GoesWait outcome call old new (Err Memory) = (old.jobs.stopped ≡ false) × (world_of new ≡ world_of (noting old))
