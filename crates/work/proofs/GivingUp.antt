-- How a run of a graph ends behind a refusal.
use Rattle.std.proofs.Common.{◌≡◌, Bool, false, List, None, Err, refl, sym, subst}
use Rattle.model.specs.declared.fault.SiteFault.{SiteFault}
use Rattle.model.specs.declared.graph.Edge.{Edge}
use Rattle.model.specs.World.{World}
use Rattle.model.specs.SingleBuild.{PassesNoFault}
use Rattle.model.specs.SingleBuild as answer
use Rattle.theory.specs.Seen.{IsSeen, Unrefused, StartsUnrefused}
use Rattle.graph.specs.declared.graph.Graph.{Graph}
use Rattle.work.specs.declared.cut.Cut.{Cut}
use Rattle.work.specs.declared.state.Work.{Work}
use Rattle.work.specs.After.{ComesAfter, LooksUnlessMore}
use Rattle.work.specs.Course.{Course, goes_on, Suits, IsOn}
use Rattle.work.specs.Cut.{fault_of, IsLeft}
use Rattle.work.specs.Going.{IsGoing, IsFinished}
use Rattle.work.specs.Ran.{HasRun}
use Rattle.work.specs.declared.report.Refusal.{Refusal}
use Rattle.work.specs.declared.stop.Stop.{Stop}
use Rattle.work.specs.declared.stop.Stop.TheVariants as stop
use Rattle.work.specs.Standing.{GoesWell, IsStopOf, IsRefusedAt, HasHalted, HasStopped, WasCut, IfRefused}
use Rattle.work.proofs.Faults.{well_then, faulted_then}
use Rattle.work.proofs.Behind.{ends, ends_suits, ends_on, ends_going, stopped_finished, stopped_cut}

pub refusal_so : (s : Stop) (refusal : Refusal) (So : Refusal → Type 0) → s ≡ stop.Refused refusal → IfRefused s So → So refusal
refusal_so s refusal So is so = subst (λ (x : Stop). IfRefused x So) is so

module _ (tells : Bool) (graph : Graph) (state : Work) (now : World) (s : Stop) (refusal : Refusal) (is : s ≡ stop.Refused refusal) where
  -- the run that is refused there ends
  pub refused_going : IfRefused s (λ r. (course : Course) × (grown : List Edge) × IsRefusedAt tells course grown graph state now r) → IsGoing tells false graph state now
  refused_going at =
      let here = refusal_so s refusal (λ r. (course : Course) × (grown : List Edge) × IsRefusedAt tells course grown graph state now r) is at in
      ends_going tells here.0 here.1 graph state now refusal here.2

  here_of : (course : Course) (grown : List Edge) → HasHalted tells course grown graph state now s → IsRefusedAt tells course grown graph state now refusal
  here_of course grown halted = subst (λ (x : Stop). HasHalted tells course grown graph state now x) is halted

  module _ (new : World) (grows : ComesAfter tells now new) where
    -- all that ran was taken in
    pub refused_finished : (after : Work) → LooksUnlessMore tells graph now new state.looks after.looks
        → ((course : Course) → Suits course graph → goes_on course ≡ false → IsOn tells course graph None state now → IsFinished tells course graph after new)
        → (course : Course) (grown : List Edge) → HasHalted tells course grown graph state now s → HasStopped tells course grown new refusal
    refused_finished after looked ran course grown halted =
        let here = here_of course grown halted in
        stopped_finished tells course grown graph state now refusal here new grows after looked
        (ran (ends tells course grown graph state now refusal here) (ends_suits tells course grown graph state now refusal here) refl (ends_on tells course grown graph state now refusal here))

    -- a fault was met
    pub refused_cut : (cut : Cut) (fault : SiteFault) → fault ≡ fault_of cut → IsLeft new cut
        → ((course : Course) → Suits course graph → goes_on course ≡ false → IsOn tells course graph None state now → HasRun tells course new (Err cut))
        → (course : Course) (grown : List Edge) → HasHalted tells course grown graph state now s → WasCut tells course grown new fault
    refused_cut cut fault same left ran course grown halted =
        let here = here_of course grown halted in
        subst (λ (f : SiteFault). WasCut tells course grown new f) (sym {A = SiteFault} same)
        (stopped_cut tells course grown graph state now refusal here new grows cut left
        (ran (ends tells course grown graph state now refusal here) (ends_suits tells course grown graph state now refusal here) refl (ends_on tells course grown graph state now refusal here)))

-- ---- what the site shows

pub refused_stop : (a b c : World) (s : Stop) (refusal : Refusal) → s ≡ stop.Refused refusal → IsStopOf a b s → Unrefused b c → StartsUnrefused b c → IsStopOf a c (stop.Refused refusal)
refused_stop a b c s refusal is so calm starts = well_then a b c (subst (λ (x : Stop). IsStopOf a b x) is so) (record { unrefused = calm; starts = starts })

pub refused_faulted : (a b c : World) (s : Stop) (refusal : Refusal) (fault : SiteFault) (cut : Cut) → s ≡ stop.Refused refusal → fault ≡ fault_of cut → IsStopOf a b s → IsSeen b c (fault_of cut) → PassesNoFault b c (answer.Fault (fault_of cut))
    → IsStopOf a c (stop.Fault fault)
refused_faulted a b c s refusal fault cut is same so seen passes =
    subst (λ (f : SiteFault). IsStopOf a c (stop.Fault f)) (sym {A = SiteFault} same) (faulted_then a b c (fault_of cut) (subst (λ (x : Stop). IsStopOf a b x) is so) (record { seen = seen; passes = passes }))

pub running_still : (a b : World) (s : Stop) (refusal : Refusal) → s ≡ stop.Refused refusal → IsStopOf a b s → b.stopped ≡ false
running_still a b s refusal is so = (well s is so).unrefused.goes_on
  where
    well : (s : Stop) → s ≡ stop.Refused refusal → IsStopOf a b s → GoesWell a b
    well s is so = subst (λ (x : Stop). IsStopOf a b x) is so

-- ---- a fault stays

pub fault_stays : (a b : World) (s : Stop) (fault : SiteFault) → s ≡ stop.Fault fault → IsStopOf a b s → IsStopOf a b (stop.Fault fault)
fault_stays a b s fault is so = subst (λ (x : Stop). IsStopOf a b x) is so

pub fault_ended : (tells : Bool) (course : Course) (grown : List Edge) (graph : Graph) (state : Work) (now : World) (s : Stop) (fault : SiteFault) → s ≡ stop.Fault fault → HasHalted tells course grown graph state now s
    → WasCut tells course grown now fault
fault_ended tells course grown graph state now s fault is halted = subst (λ (x : Stop). HasHalted tells course grown graph state now x) is halted

-- ---- where it was halted

-- a refusal has its place
pub refused_some : (tells : Bool) (course : Course) (grown : List Edge) (graph : Graph) (state : Work) (now : World) (s : Stop) → HasHalted tells course grown graph state now s
    → IfRefused s (λ refusal. (of : Course) × (edges : List Edge) × IsRefusedAt tells of edges graph state now refusal)
refused_some tells course grown graph state now (stop.Refused refusal) halted = (course, grown, halted)
refused_some tells course grown graph state now (stop.Fault fault) halted = tt
