-- What the site shows of a run that is stopped: each fault is passed on.
use Rattle.std.proofs.Common.{◌≡◌, inl, inr, Bool, true, Err, refl, sym, ◌∙◌}
use Rattle.std.specs.Result.{IsErrOf}
use Rattle.std.proofs.lemmas.Bool.{false≢true, true≢false, cases_Bool}
use Rattle.model.specs.declared.fault.SiteFault.{SiteFault}
use Rattle.model.specs.declared.fault.SiteFault.TheVariants.{Device, Stopped, Memory}
use Rattle.model.specs.World.{World}
use Rattle.model.specs.Calls.{OnlyLooks, HasCause, is_stop}
use Rattle.model.specs.SingleBuild.{PassesNoFault}
use Rattle.model.specs.SingleBuild as answer
use Rattle.theory.specs.Seen.{IsSeen, Unrefused, StartsUnrefused}
use Rattle.theory.proofs.SiteCalls.{unrefused_then, seen_since}
use Rattle.work.specs.declared.cut.Cut.{Cut}
use Rattle.work.specs.Cut.{fault_of}
use Rattle.work.specs.Cutting.{IsMet, TakesIn}
use Rattle.work.proofs.Cutting.{starts_then, starts_cut, passes_whole}
use Rattle.work.specs.declared.stop.Stop.{Stop}
use Rattle.work.specs.declared.stop.Stop.TheVariants as stop
use Rattle.work.specs.Standing.{GoesWell, IsFaultedThere, IsFaulted, IsStopOf, IfFault, stop_answer}

pub well_then : (a b c : World) → GoesWell a b → GoesWell b c → GoesWell a c
well_then a b c first second = record { unrefused = unrefused_then a b c first.unrefused second.unrefused; starts = starts_then a b c first.unrefused first.starts second.starts }

pub well_looks : (tells : Bool) (a b : World) → OnlyLooks tells a b → Unrefused a b → GoesWell a b
well_looks tells a b looks unrefused = record { unrefused = unrefused; starts = inl looks.at_start }

pub faulted_then : (a b c : World) (fault : SiteFault) → GoesWell a b → IsFaulted b c fault → IsFaulted a c fault
faulted_then a b c fault first second = record {
  seen = seen_since a b c fault first.unrefused.failures second.seen;
  passes = record {
    refused = λ none. absurd (true≢false none);
    starts = starts_then a b c first.unrefused first.starts second.passes.starts;
    stopped = second.passes.stopped;
    earlier = second.passes.earlier ∙ first.unrefused.earlier;
  };
}

-- ---- a fault between two calls of a run

-- the site has stopped exactly where this is the fault
said_stop : (a : World) (fault : SiteFault) → a.stopped ≡ is_stop {T = Unit {0}} (Err fault) → a.stopped ≡ true → answer.Fault fault ≡ answer.Fault Stopped
said_stop a Device is stopped = absurd (false≢true (sym is ∙ stopped))
said_stop a Stopped is stopped = refl
said_stop a Memory is stopped = absurd (false≢true (sym is ∙ stopped))

passes_by : (a b : World) (fault : SiteFault) → StartsUnrefused a b → b.stopped ≡ is_stop {T = Unit {0}} (Err fault) → b.earlier ≡ a.earlier → PassesNoFault a b (answer.Fault fault)
passes_by a b fault starts stopped earlier = record { refused = λ none. absurd (true≢false none); starts = starts; stopped = said_stop b fault stopped; earlier = earlier }

pub faulted_there : (a b : World) (fault : SiteFault) → IsMet a b fault → StartsUnrefused a b → b.stopped ≡ is_stop {T = Unit {0}} (Err fault) → b.earlier ≡ a.earlier → IsFaultedThere a b fault
faulted_there a b fault met starts stopped earlier = record { met = met; passes = passes_by a b fault starts stopped earlier }

not_device : {T : Type 0} → IsErrOf {T = T} (Err Memory) Device → ⊥
not_device is = cc

-- a fault says what its cause was
pub met_of : {T : Type 0} (a b : World) (fault : SiteFault) → HasCause {T = T} a b (Err fault) → IsMet a b fault
met_of a b Device cause = cause.device refl
met_of a b Stopped cause = cause.stopped
met_of {T} a b Memory cause = cause.others (not_device {T = T})

pub faulted_call : (tells : Bool) (a b : World) (fault : SiteFault) → OnlyLooks tells a b → HasCause {T = Unit {0}} a b (Err fault) → IsFaultedThere a b fault
faulted_call tells a b fault looks cause = faulted_there a b fault (met_of a b fault cause) (inl looks.at_start) cause.stopped cause.earlier

-- it has stopped where that was the fault, and nowhere else
pub stopped_by : (a b : World) (fault : SiteFault) → IsFaultedThere a b fault → b.stopped ≡ is_stop {T = Unit {0}} (Err fault)
stopped_by a b Device faulted = elim (cases_Bool b.stopped) [
  | inl is ↦ absurd (other (faulted.passes.stopped is))
  | inr is ↦ is
]
  where
    other : answer.Fault Device ≡ answer.Fault Stopped → ⊥
    other same = cc
stopped_by a b Stopped faulted = faulted.met
stopped_by a b Memory faulted = elim (cases_Bool b.stopped) [
  | inl is ↦ absurd (other (faulted.passes.stopped is))
  | inr is ↦ is
]
  where
    other : answer.Fault Memory ≡ answer.Fault Stopped → ⊥
    other same = cc

-- behind it what runs was taken in
pub faulted_on : (a b c : World) (fault : SiteFault) (cut : Cut) → IsFaultedThere a b fault → (IsMet a b fault → IsSeen a c (fault_of cut)) → TakesIn b c cut → IsFaulted a c (fault_of cut)
faulted_on a b c fault cut faulted seen takes = record {
  seen = seen faulted.met;
  passes = passes_by a c (fault_of cut) (starts_cut a b c cut faulted.passes.starts takes) takes.stopped (takes.earlier ∙ faulted.passes.earlier);
}

-- ---- answers

pub passes_well : (a b : World) (said : answer.Answer) → GoesWell a b → PassesNoFault a b said
passes_well a b said well = passes_whole a b said well.starts well.unrefused

pub passes_stop : (a b : World) (stopped : Stop) → IsStopOf a b stopped → PassesNoFault a b (stop_answer (Err stopped))
passes_stop a b (stop.Refused refusal) well = passes_well a b answer.Refused well
passes_stop a b (stop.Fault fault) faulted = faulted.passes

pub seen_stop : (a b : World) (stopped : Stop) → IsStopOf a b stopped → IfFault stopped (IsSeen a b)
seen_stop a b (stop.Refused refusal) well = tt
seen_stop a b (stop.Fault fault) faulted = faulted.seen
