-- How a run of a graph is stopped: by a missing source, by a load that is refused, or by a fault; and what is taken in behind that.
use Rattle.std.proofs.Common.{◌≡◌, inl, inr, ℕ, suc, Bool, List, [], ◌<◌, length, Vec, Global, MatchOption, Option, Some, None, refl, sym, ◌∙◌, ap, subst}
use Rattle.model.specs.declared.event.Moment.{Moment}
use Rattle.model.specs.declared.graph.Edge.{Edge}
use Rattle.model.specs.World.{World}
use Rattle.model.specs.Calls.{OnlyLooks}
use Rattle.model.specs.Graph.{maker, later_number}
use Rattle.model.specs.Phases.{Phase, IsNextLoad, GoesBefore, BySource, ByNamer, IsPointAfter}
use Rattle.model.specs.Schedule.{Task, Step as Done}
use Rattle.model.specs.SingleBuild.{IsNamedMissing, asked_with}
use Rattle.theory.specs.Ledger.{IsCutOff}
use Rattle.theory.proofs.PhasesGoOn.{phased_on}
use Rattle.graph.specs.declared.cone.Cone.{Cone}
use Rattle.graph.specs.declared.graph.Graph.{Graph}
use Rattle.graph.specs.Links.{links_of}
use Rattle.graph.specs.Told.{declared_by}
use Rattle.judge.specs.declared.looks.Looks.{Looks}
use Rattle.judge.specs.Looking.{HasLooked}
use Rattle.paths.specs.Told.{text_at}
use Rattle.plan.specs.declared.plan.Plan.{Plan}
use Rattle.plan.specs.declared.step.Step.TheVariants.{Load}
use Rattle.plan.specs.Planned.{IsOffered, IsDueNext, IsNext}
use Rattle.records.specs.declared.records.Records.{Records}
use Rattle.records.specs.Laws.{LogStays}
use Rattle.work.specs.Shown.{Showing}
use Rattle.work.specs.declared.cut.Cut.{Cut}
use Rattle.work.specs.declared.state.Work.{Work}
use Rattle.work.specs.After.{ComesAfter}
use Rattle.work.specs.Going.{IsCut}
use Rattle.work.specs.Course.{Course}
use Rattle.work.specs.Cut.{fault_of, IsLeft}
use Rattle.work.proofs.After.{after_looks}
use Rattle.work.proofs.Noticed.{with_looks}
use Rattle.work.specs.declared.report.Refusal.{Refusal}
use Rattle.work.specs.declared.stop.Stop.{Stop}
use Rattle.work.specs.declared.stop.Stop.TheVariants as stop
use Rattle.work.specs.Standing.{grown_course, task_over, StandsAt, HadAsked, BeginsAt, IsAtNextLoad, HasSourcesAt, IsLacking, IsMissingAfter, IsStopped, IsRefusedAt, IsCutThere, WasCut, StoppedThere, NoSourceIsDue, IsStopThere, IfFault}
use Rattle.work.specs.Loads.{NamesSource}
use Rattle.work.specs.Ends.{IsMissingFor}
use Rattle.work.specs.Sources.{HasSources, LacksSource}
use Rattle.work.proofs.Asking.{fresh_steps, asked_on, had_asked_on, asked_in, asked_also, under, same_edges, run_new, found_at, found_at_entry, nothing_missing_now}
use Rattle.work.proofs.Halting.{with_sources, stands_looked, cut_looked}
use Rattle.work.proofs.Faults.{faulted_call, well_looks}
use Rattle.work.proofs.LoadPoints.{point_now}

-- ---- files that no edge makes

-- where the next load is of a made file, none of a source is due
pub made_next : (graph : Graph) (plan : Plan) (file e : ℕ) → IsOffered plan (Load file) → IsDueNext plan (Load file) → (links_of graph).maker file ≡ Some e → NoSourceIsDue graph plan
made_next graph plan file e wanted due made task steps planned taken other other_due source = elim (next.lowest other other_due) [
  | inl same ↦ some_none (sym maker_is ∙ (ap (maker task.graph.edges) (sym same) ∙ source))
  | inr before ↦ not_before before
]
  where
    next : IsNextLoad task steps (text_at graph.manifest.paths file)
    next = due task graph steps planned taken

    some_none : Some (suc e) ≡ None → ⊥
    some_none none = cc

    maker_is : maker task.graph.edges (text_at graph.manifest.paths file) ≡ Some (suc e)
    maker_is =
        let named = planned.over.loading.loads_are.named file wanted in
        planned.stated.makers file (planned.stated.known named.edge file named.names) ∙ ap later_number made

    not_before : GoesBefore task.graph.edges (text_at graph.manifest.paths file) other → ⊥
    not_before (BySource j none is) = some_none (sym maker_is ∙ none)
    not_before (ByNamer i k first named other_named less) = some_none (sym maker_is ∙ first source)

-- the file that is loaded next, where no edge makes it, or that of sources none is due
pub source_said : (graph : Graph) (plan : Plan) (file : ℕ) (found : Option ℕ) → IsNext plan (Load file)
    → MatchOption found ((edge : ℕ) × ((links_of graph).maker file ≡ Some edge)) (λ source. (source ≡ file) × ((links_of graph).maker file ≡ None))
    → MatchOption found (NoSourceIsDue graph plan) (λ source. IsNext plan (Load source) × ((links_of graph).maker source ≡ None))
source_said graph plan file None next made = made_next graph plan file made.0 next.offered next.loads made.1
source_said graph plan file (Some source) next is = subst (λ (p : ℕ). IsNext plan (Load p) × ((links_of graph).maker p ≡ None)) (sym is.0) (next, is.1)

-- ---- where a phase begins

-- why a path is missing right behind the last start or finish
missing_after : (course : Course) (edges : List Edge) (done : List Done) (now : World) (path : List ℕ) (needed_by : Option (List ℕ)) (at : List Moment) → IsPointAfter done course.entry.history now.history at
    → IsMissingFor edges course.store done (task_over course edges).targets at path needed_by → IsMissingAfter course edges done now path needed_by
missing_after course edges done now path None at point missing = (at, point, missing)
missing_after course edges done now path (Some output) at point missing = (missing.0, missing.1, (at, point, missing.2))

module _ (tells : Bool) (course : Course) (edges : List Edge) (phases : List Phase) (graph : Graph) (state : Work) (now : World) (begins : BeginsAt tells course edges phases graph state now) where
  abbrev stands : StandsAt tells course edges phases graph state now
  stands = begins.stands

  abbrev task : Task
  task = task_over course edges

  abbrev here : Course
  here = grown_course course edges phases

  none_taken_in : stands.on.carried.phased.build.taken_in ≡ []
  none_taken_in = stands.on.carried.goes stands.goes

  -- a file that no edge makes is loaded next: of sources nothing is asked
  pub source_next : (file : ℕ) → IsNext state.plan (Load file) → (links_of graph).maker file ≡ None → IsAtNextLoad tells course edges phases graph state file now
  source_next file said none = record {
    stands = stands;
    next = record { next = next; wanted = said.offered; known = known };
    asked = asked_also tells course edges phases stands.on.steps now stands.on.carried.run stands.on.carried.phased now begins.fresh none_taken_in begins.asked
        (λ tell files needed loaded apart at point. absurd (loaded (text_at graph.manifest.paths file) next.due (stands.on.planned.stated.makers file known ∙ ap later_number none)));
  }
    where
      next : IsNextLoad task stands.on.steps (text_at graph.manifest.paths file)
      next = said.loads task graph stands.on.steps stands.on.planned stands.on.taken

      known : file < length graph.manifest.paths
      known =
          let named = stands.on.planned.over.loading.loads_are.named file said.offered in
          stands.on.planned.stated.known named.edge file named.names

  module _ (stays : LogStays) (new : World) (after : Looks) (looked : HasLooked tells graph now new state.looks after) where
    had_now : HadAsked tells course edges phases [] new
    had_now = had_asked_on tells course edges phases stands.on.steps now stands.on.carried.run stands.on.carried.phased new (after_looks tells now new looked.looks) [] begins.asked

    had_last : HadAsked tells course edges phases stands.on.carried.phased.build.last new
    had_last = subst (λ (l : List Done). HadAsked tells course edges phases l new) (sym begins.fresh) had_now

    -- no source is missing
    pub sources_at : (display : Showing) (due : Vec Bool Global) → HasSources tells graph state.records state.cone state.plan now new state.looks
        → HasSourcesAt tells course edges phases graph (with_sources tells course edges phases graph state now stands stays new after looked display due) new
    sources_at display due found = record {
      stands = stands_looked tells course edges phases graph state now stands stays new after looked display due;
      asked = asked_also tells course edges phases stands.on.steps now stands.on.carried.run stands.on.carried.phased new begins.fresh none_taken_in had_now
          (λ tell files needed. nothing_missing_now tells course edges phases graph state now stands stays new looked.looks tell files
          (found course.store task.targets stands.on.steps (under tells course edges phases graph state now stands)) needed);
    }

    -- one is missing, or a fault was met
    pub lacking_there : NoSourceIsDue graph state.plan → (stopped : Stop) → LacksSource tells graph state.records state.cone state.plan now new state.looks stopped
        → StoppedThere tells course edges graph (with_looks tells here graph state after) new stopped
    lacking_there made stopped (inl fault) =
        subst (λ (s : Stop). StoppedThere tells course edges graph (with_looks tells here graph state after) new s) (sym {A = Stop} fault.says)
        (cut_looked tells course edges phases graph state now stands stays new after looked (with_looks tells here graph state after) refl had_last)
    lacking_there made stopped (inr lack) =
        subst (λ (s : Stop). StoppedThere tells course edges graph (with_looks tells here graph state after) new s) (sym {A = Stop} lack.says)
        (record {
          phases = phases;
          stopped = record { stands = stands_looked tells course edges phases graph state now stands stays new after looked state.display state.due; cause = cause };
          asked = had_last;
        })
      where
        cause : IsLacking tells course edges phases stands.on.steps new lack.missing
        cause = record {
          asked = record {
            at_once = fresh_steps tells course edges phases stands.on.steps now stands.on.carried.run stands.on.carried.phased begins.fresh none_taken_in;
            loaded = λ file due source. made task stands.on.steps stands.on.planned stands.on.taken file due source;
          };
          named = subst (λ (es : List Edge). NamesSource es lack.missing.path lack.missing.needed_by) (sym (same_edges tells course edges phases graph state now stands)) lack.named;
          needed = subst (λ (es : List Edge). IsNamedMissing es course.store task.targets lack.missing.path lack.missing.needed_by) (sym (same_edges tells course edges phases graph state now stands))
              (lack.needed course.store task.targets stands.on.steps (under tells course edges phases graph state now stands));
          at_entry = λ tell none free edits needed apart.
              subst (λ (es : List Edge). IsMissingFor es course.store stands.on.steps task.targets course.entry.history lack.missing.path lack.missing.needed_by) (sym (same_edges tells course edges phases graph state now stands))
              (found_at_entry tells course edges phases graph state now stands new looked.looks tell none free edits
              (λ at. IsMissingFor (declared_by graph).edges course.store stands.on.steps task.targets at lack.missing.path lack.missing.needed_by)
              (lack.is course.store task.targets stands.on.steps (under tells course edges phases graph state now stands)) needed apart);
          is = λ tell files needed apart.
              let last = point_now tells course.own task stands.on.steps course.entry new (run_new tells course edges phases graph state now stands stays new looked.looks tell files) tell in
              missing_after course edges stands.on.steps new lack.missing.path lack.missing.needed_by last.0 last.1
              (subst (λ (es : List Edge). IsMissingFor es course.store stands.on.steps task.targets last.0 lack.missing.path lack.missing.needed_by) (sym (same_edges tells course edges phases graph state now stands))
              (found_at tells course edges phases graph state now stands stays new looked.looks tell files
              (λ at. IsMissingFor (declared_by graph).edges course.store stands.on.steps task.targets at lack.missing.path lack.missing.needed_by)
              (lack.is course.store task.targets stands.on.steps (under tells course edges phases graph state now stands)) needed apart last.0 last.1));
        }

    pub lacking_met : NoSourceIsDue graph state.plan → (stopped : Stop) → LacksSource tells graph state.records state.cone state.plan now new state.looks stopped → IfFault stopped (λ fault. (of : Course) × (at : Graph) × IsCut tells of at state.plan new)
    lacking_met made stopped lacks = met stopped (lacking_there made stopped lacks)
      where
        met : (s : Stop) → StoppedThere tells course edges graph (with_looks tells here graph state after) new s → IfFault s (λ fault. (of : Course) × (at : Graph) × IsCut tells of at state.plan new)
        met (stop.Refused refusal) there = tt
        met (stop.Fault fault) there = (grown_course course edges there.phases, there.graph, there.cut)

-- what the site shows of that
pub lacking_stop : (tells : Bool) (graph : Graph) (records : Records) (cone : Cone) (plan : Plan) (now new : World) (seen : Looks) (stopped : Stop) → OnlyLooks tells now new → LacksSource tells graph records cone plan now new seen stopped → IsStopThere now new stopped
lacking_stop tells graph records cone plan now new seen stopped looks (inl fault) = subst (λ (s : Stop). IsStopThere now new s) (sym {A = Stop} fault.says) (faulted_call tells now new fault.fault looks fault.cause)
lacking_stop tells graph records cone plan now new seen stopped looks (inr lack) = subst (λ (s : Stop). IsStopThere now new s) (sym {A = Stop} lack.says) (well_looks tells now new looks lack.unrefused)

-- ---- a load that is not made

-- the load is refused where the build stands
pub load_refused : (tells : Bool) (course : Course) (edges : List Edge) (phases : List Phase) (graph grown : Graph) (state after : Work) (file : ℕ) (now new : World) (refusal : Refusal)
    → IsAtNextLoad tells course edges phases graph state file now → OnlyLooks tells now new → IsStopped tells course edges phases grown after new refusal → IsRefusedAt tells course edges grown after new refusal
load_refused tells course edges phases graph grown state after file now new refusal at looks stopped = record {
  phases = phases;
  stopped = stopped;
  asked = asked_in tells course edges phases at.stands.on.steps now at.stands.on.carried.run at.stands.on.carried.phased stopped.stands.on.carried.phased.build.last new
      (asked_on tells course edges phases at.stands.on.steps now at.stands.on.carried.run at.stands.on.carried.phased new (after_looks tells now new looks) at.asked);
}

-- ---- behind a fault

-- what runs was taken in
pub given_up_cut : (tells : Bool) (course : Course) (grown : List Edge) (state : Work) (now new : World) (cut : Cut) → IsCutThere tells course grown state now → IsLeft new cut → ComesAfter tells now new
    → ((of : Course) (steps : List Done) (met : Option ℕ) → IsCutOff tells of.behaviour of.format of.own of.asked of.store of.phases steps met of.entry now → IsCutOff tells of.behaviour of.format of.own of.asked of.store of.phases steps met of.entry new)
    → WasCut tells course grown new (fault_of cut)
given_up_cut tells course grown state now new cut there left after rest = record {
  phases = there.phases;
  cut = cut;
  is = refl;
  left = left;
  ran = record {
    steps = there.cut.steps;
    met = there.cut.met;
    cut = record {
      phased = phased_on tells course.behaviour course.own (asked_with course.asked grown) course.store course.entry there.phases there.cut.steps now new (λ tell. (after.history tell).0) (λ tell. (after.history tell).1) there.cut.cut.phased;
      run = off.run;
      beside = off.beside;
    };
    in_hand = there.cut.in_hand;
    since = there.cut.since;
    ends = tt;
    goes = tt;
    removed = tt;
  };
  once = there.once;
  acyclic = there.acyclic;
  asked = had_asked_on tells course grown there.phases there.cut.steps now there.cut.run there.cut.cut.phased new after there.cut.cut.phased.build.last there.asked;
}
  where
    off : IsCutOff tells course.behaviour course.format course.own (asked_with course.asked grown) course.store there.phases there.cut.steps there.cut.met course.entry new
    off = rest (grown_course course grown there.phases) there.cut.steps there.cut.met there.cut.cut
