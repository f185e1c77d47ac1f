-- What a fault tells of the site, and what runs then.
use Rattle.std.specs.Prelude.{◌≡◌, ℕ, ◌<◌, ◌≤◌, true, List, length, Result, Ok, Err, IfErr}
use Rattle.model.specs.declared.fault.SiteFault.{SiteFault}
use Rattle.model.specs.declared.fault.SiteFault.TheVariants.{Device, Stopped, Memory}
use Rattle.model.specs.declared.event.Event.{Event}
use Rattle.model.specs.World.{World, runs}
use Rattle.model.specs.Calls.{HasCause, is_stop}
use Rattle.model.specs.Graph.{has_number}
use Rattle.model.specs.SingleBuild as answer
use Rattle.model.specs.SingleBuild.{PassesNoFault}
use Rattle.theory.specs.Seen.{IsSeen, StartsUnrefused}
use Rattle.graph.specs.Held.{StandOnce}
use Rattle.work.specs.declared.cut.Cut.{Cut}
use Rattle.work.specs.declared.cut.Cut.TheVariants.{Waiting, Other}
use Rattle.work.specs.Cut.{fault_of, HasRefusedWait}

abbrev pub SomeRuns : World → Type 0
SomeRuns now = (job : ℕ) × (runs job now.events ≡ true)

-- so many commands run: these, each of which stands here once
pub record SoManyRun (count : ℕ) (events : List Event) : Type 0 where
  pub jobs : List ℕ
  pub once : StandOnce jobs
  pub all : (job : ℕ) → runs job events ≡ has_number jobs job
  pub many : count ≡ length jobs

-- so it is where a wait was refused
abbrev pub IfWaiting : Cut → Type 0 → Type 0
IfWaiting (Waiting fault) So = So
IfWaiting (Other fault) So = Unit {0}

-- the fault of a wait, which took nothing in, or of what follows where a command was taken in
abbrev pub IsOfWait : World → World → Cut → Type 0
IsOfWait old new (Waiting fault) = new.events ≡ old.events
IsOfWait old new (Other fault) = length old.events < length new.events

-- the answer that the site gave
abbrev pub site_answer : {T : Type 0} → Result T Cut → Result T SiteFault
site_answer (Ok value) = Ok value
site_answer (Err cut) = Err (fault_of cut)

-- a fault has its cause, nothing is started after one, and a wait is refused only where commands run
pub record Cuts {T : Type 0} (old new : World) (result : Result T Cut) : Type 0 where
  pub cause : HasCause old new (site_answer result)
  pub starts : StartsUnrefused old new
  pub waits : IfErr result (λ cut. IfWaiting cut (HasRefusedWait new))

-- what the fault of a call says about the site that was no wait, where no call was refused before it
abbrev pub IsMet : World → World → SiteFault → Type 0
IsMet old new Device = old.failures < new.failures
IsMet old new Stopped = new.stopped ≡ true
IsMet old new Memory = new.failures ≡ old.failures

-- what a cut says about the site: a wait may be refused after it yet, unless it is itself a refused wait
abbrev pub IsMetBy : World → World → Cut → Type 0
IsMetBy old new (Waiting fault) = IsSeen old new fault
IsMetBy old new (Other fault) = IsMet old new fault

-- what a cut said of the site since any point, another says behind it
abbrev pub StaysSeen : World → World → Cut → Cut → Type 0
StaysSeen old new cut last = (entry : World) → IsMetBy entry old cut → IsSeen entry new (fault_of last)

-- the site has stopped exactly where this is the fault
abbrev pub IsStoppedBy : World → Cut → Type 0
IsStoppedBy world cut = world.stopped ≡ is_stop {T = Unit {0}} (Err (fault_of cut))

-- nothing was started, no refused call was forgotten, and the fault is that the site has stopped exactly where it has
pub record TakesIn (old new : World) (cut : Cut) : Type 0 where
  pub grows : old.failures ≤ new.failures
  pub at_start : new.failures_at_start ≡ old.failures_at_start
  pub stopped : IsStoppedBy new cut
  pub earlier : new.earlier ≡ old.earlier

-- the fault that cuts a run off is passed over by none of its calls
abbrev pub PassesNoCut : {T : Type 0} → World → World → Result T Cut → Type 0
PassesNoCut old new result = IfErr result (λ cut. PassesNoFault old new (answer.Fault (fault_of cut)))
