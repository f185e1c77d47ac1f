-- How a load ends that is not made.
use Rattle.std.proofs.Common.{◌≡◌, ℕ, Bool, List, Err, inl, sym, ◌∙◌, ap, subst}
use Rattle.model.specs.declared.fault.SiteFault.{SiteFault}
use Rattle.model.specs.declared.graph.BuildGraph.{BuildGraph}
use Rattle.model.specs.declared.graph.Edge.{Edge}
use Rattle.model.specs.World.{World}
use Rattle.model.specs.Calls.{OnlyLooks, is_stop}
use Rattle.model.specs.Phases.{Phase}
use Rattle.theory.specs.Seen.{Unrefused}
use Rattle.graph.specs.declared.graph.Graph.{Graph}
use Rattle.graph.specs.Told.{declared_by}
use Rattle.records.specs.Laws.{LogStays}
use Rattle.work.specs.declared.state.Work.{Work}
use Rattle.work.specs.Course.{Course}
use Rattle.work.specs.Cutting.{IsMet}
use Rattle.work.specs.Going.{IsCut}
use Rattle.work.specs.Joined.{IsMemory, StayKnown, IsAsBefore, IsUndone}
use Rattle.work.specs.declared.report.Refusal.{Refusal}
use Rattle.work.specs.declared.stop.Stop.{Stop}
use Rattle.work.specs.declared.stop.Stop.TheVariants as stop
use Rattle.work.specs.Standing.{grown_course, StandsAt, IsLoadNext, IsAtNextLoad, IsRefusedBy, IsStopped, IsStopThere, StoppedThere, IfRefused, IfFault}
use Rattle.work.proofs.Faults.{well_looks, faulted_there}
use Rattle.work.proofs.Loading.{stopped_there, cut_here}
use Rattle.work.proofs.Stopping.{load_refused}

-- ---- what the site shows of it

pub load_stop : (tells : Bool) (now new : World) (s : Stop) → OnlyLooks tells now new → new.earlier ≡ now.earlier → IfRefused s (λ refusal. Unrefused now new) → IfFault s (IsMet now new)
    → IfFault s (λ fault. new.stopped ≡ is_stop {T = Unit {0}} (Err fault)) → IsStopThere now new s
load_stop tells now new (stop.Refused refusal) looks earlier unrefused met stopped = well_looks tells now new looks unrefused
load_stop tells now new (stop.Fault fault) looks earlier unrefused met stopped = faulted_there now new fault met (inl looks.at_start) stopped earlier

-- where all calls went well, and memory was refused if it was no refusal
pub load_stop_by : (tells : Bool) (now new : World) (s : Stop) → OnlyLooks tells now new → Unrefused now new → IsMemory s → IsStopThere now new s
load_stop_by tells now new (stop.Refused refusal) looks unrefused memory = well_looks tells now new looks unrefused
load_stop_by tells now new (stop.Fault fault) looks unrefused memory =
    faulted_there now new fault (subst (λ (f : SiteFault). IsMet now new f) (sym {A = SiteFault} memory) unrefused.failures) (inl looks.at_start)
    (unrefused.goes_on ∙ sym (ap (λ (f : SiteFault). is_stop {T = Unit {0}} (Err f)) memory)) unrefused.earlier

-- ---- where it stands

-- of a fault it is known where it cut the build off
pub stop_met : (tells : Bool) (course : Course) (edges : List Edge) (graph : Graph) (state : Work) (now : World) (s : Stop) → StoppedThere tells course edges graph state now s
    → IfFault s (λ fault. (of : Course) × (at : Graph) × IsCut tells of at state.plan now)
stop_met tells course edges graph state now (stop.Refused refusal) there = tt
stop_met tells course edges graph state now (stop.Fault fault) there = (grown_course course edges there.phases, there.graph, there.cut)

module _ (tells : Bool) (course : Course) (edges : List Edge) (phases : List Phase) (graph : Graph) (state : Work) (file : ℕ) (now : World) (at : IsAtNextLoad tells course edges phases graph state file now)
    (stays : LogStays) (new : World) (looks : OnlyLooks tells now new) (after : Work) where
  -- it is stopped where it stood
  stops_at : IsAsBefore state after → StayKnown graph graph state.records after.records → (s : Stop) → IfRefused s (IsRefusedBy tells course edges phases at.stands.on.steps new) → StoppedThere tells course edges graph after new s
  stops_at same known (stop.Refused refusal) cause =
      load_refused tells course edges phases graph graph state after file now new refusal at looks
      (stopped_there tells course edges phases graph state now at.stands file at.next stays new looks after same known refusal cause)
  stops_at same known (stop.Fault fault) cause = cut_here tells course edges phases graph state now at.stands file at.next stays new looks after same.plan at.asked

  pub stops_undone : (grown : Graph) → IsUndone graph grown state after → (s : Stop) → IfRefused s (IsRefusedBy tells course edges phases at.stands.on.steps new) → StoppedThere tells course (declared_by grown).edges grown after new s
  stops_undone grown undone s cause =
      subst (λ (g : Graph). StoppedThere tells course (declared_by g).edges g after new s) (sym {A = Graph} undone.graph_is)
      (subst (λ (es : List Edge). StoppedThere tells course es graph after new s) (ap (λ (b : BuildGraph). b.edges) at.stands.suits.same) (stops_at undone.state undone.known s cause))

-- a refusal leaves each build where it stood, too, of which it is not known that nothing was missing
pub refuses_undone : (tells : Bool) (course : Course) (edges : List Edge) (phases : List Phase) (graph : Graph) (state : Work) (file : ℕ) (now : World) (stands : StandsAt tells course edges phases graph state now)
    → IsLoadNext course edges graph state stands.on.steps file → LogStays → (new : World) → OnlyLooks tells now new → (after : Work) (grown : Graph) → IsUndone graph grown state after
    → (refusal : Refusal) → IsRefusedBy tells course edges phases stands.on.steps new refusal → IsStopped tells course edges phases grown after new refusal
refuses_undone tells course edges phases graph state file now stands to_load stays new looks after grown undone refusal cause =
    subst (λ (g : Graph). IsStopped tells course edges phases g after new refusal) (sym {A = Graph} undone.graph_is)
    (stopped_there tells course edges phases graph state now stands file to_load stays new looks after undone.state undone.known refusal cause)
