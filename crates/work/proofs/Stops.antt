-- What is so of a stop that is a fault, or a refusal.
use Rattle.std.proofs.Common.{◌≡◌, ℕ, Bool, List, Option, Err, sym, subst}
use Rattle.model.specs.declared.fault.SiteFault.{SiteFault}
use Rattle.model.specs.declared.graph.Edge.{Edge}
use Rattle.model.specs.World.{World}
use Rattle.model.specs.Calls.{is_stop}
use Rattle.model.specs.Schedule.{Step as Done}
use Rattle.graph.specs.declared.graph.Graph.{Graph}
use Rattle.theory.specs.Ledger.{IsCutOff}
use Rattle.work.specs.declared.cut.Cut.{Cut}
use Rattle.work.specs.declared.state.Work.{Work}
use Rattle.work.specs.After.{ComesAfter}
use Rattle.work.specs.Course.{Course}
use Rattle.work.specs.Cut.{fault_of, IsLeft}
use Rattle.work.specs.Cutting.{IsMet, TakesIn}
use Rattle.theory.specs.Seen.{IsSeen}
use Rattle.work.specs.declared.report.Refusal.{Refusal}
use Rattle.work.specs.declared.stop.Stop.{Stop}
use Rattle.work.specs.declared.stop.Stop.TheVariants as stop
use Rattle.work.specs.Standing.{IsFaulted, IsStopThere, IsStopOf, StoppedThere, HasHalted, WasCut, IfFault}
use Rattle.work.proofs.Faults.{faulted_on, stopped_by}
use Rattle.work.proofs.Stopping.{given_up_cut}

-- ---- a fault

pub fault_so : (s : Stop) (fault : SiteFault) (So : Type 0) → s ≡ stop.Fault fault → IfFault s (λ f. So) → So
fault_so s fault So is so = subst (λ (x : Stop). IfFault x (λ f. So)) is so

pub fault_stopped : (a b : World) (s : Stop) (fault : SiteFault) → s ≡ stop.Fault fault → IsStopThere a b s → b.stopped ≡ is_stop {T = Unit {0}} (Err fault)
fault_stopped a b s fault is so = stopped_by a b fault (subst (λ (x : Stop). IsStopThere a b x) is so)

-- behind it what runs was taken in
pub fault_on : (a b c : World) (s : Stop) (fault last : SiteFault) (cut : Cut) → s ≡ stop.Fault fault → last ≡ fault_of cut → IsStopThere a b s → (IsMet a b fault → IsSeen a c (fault_of cut)) → TakesIn b c cut → IsStopOf a c (stop.Fault last)
fault_on a b c s fault last cut is same so seen takes = subst (λ (f : SiteFault). IsFaulted a c f) (sym {A = SiteFault} same) (faulted_on a b c fault cut (subst (λ (x : Stop). IsStopThere a b x) is so) seen takes)

pub fault_halted : (tells : Bool) (course : Course) (grown : List Edge) (graph : Graph) (state : Work) (now new : World) (s : Stop) (fault last : SiteFault) (cut : Cut) → s ≡ stop.Fault fault → last ≡ fault_of cut
    → StoppedThere tells course grown graph state now s → IsLeft new cut → ComesAfter tells now new
    → ((of : Course) (steps : List Done) (met : Option ℕ) → IsCutOff tells of.behaviour of.format of.own of.asked of.store of.phases steps met of.entry now → IsCutOff tells of.behaviour of.format of.own of.asked of.store of.phases steps met of.entry new)
    → HasHalted tells course grown graph state new (stop.Fault last)
fault_halted tells course grown graph state now new s fault last cut is same there left after rest =
    subst (λ (f : SiteFault). WasCut tells course grown new f) (sym {A = SiteFault} same)
    (given_up_cut tells course grown state now new cut (subst (λ (x : Stop). StoppedThere tells course grown graph state now x) is there) left after rest)

-- ---- a refusal

pub refusal_on : (a b : World) (s : Stop) (refusal : Refusal) → s ≡ stop.Refused refusal → IsStopThere a b s → IsStopOf a b (stop.Refused refusal)
refusal_on a b s refusal is so = subst (λ (x : Stop). IsStopThere a b x) is so

pub refusal_halted : (tells : Bool) (course : Course) (grown : List Edge) (graph : Graph) (state : Work) (now : World) (s : Stop) (refusal : Refusal) → s ≡ stop.Refused refusal
    → StoppedThere tells course grown graph state now s → HasHalted tells course grown graph state now (stop.Refused refusal)
refusal_halted tells course grown graph state now s refusal is there = subst (λ (x : Stop). StoppedThere tells course grown graph state now x) is there
