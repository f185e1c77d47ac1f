-- What is taken in behind a refusal: the phases are those of before, and what was found is still so.
use Rattle.std.proofs.Common.{◌≡◌, inl, inr, ℕ, Bool, false, List, [], ◌++◌, Some, None, Err, refl, sym, ◌∙◌, ap, subst}
use Rattle.std.proofs.lemmas.List.{append-nil}
use Rattle.model.specs.declared.graph.Edge.{Edge}
use Rattle.model.specs.World.{World}
use Rattle.model.specs.Phases.{Phase, steps_of, IsDueLoad}
use Rattle.model.specs.Schedule.{Task, Step as Done, started_in}
use Rattle.model.specs.SingleBuild.{asked_with}
use Rattle.theory.proofs.Lists.{same_rest}
use Rattle.theory.specs.Ledger.{IsRefused}
use Rattle.graph.specs.declared.graph.Graph.{Graph}
use Rattle.work.specs.declared.cut.Cut.{Cut}
use Rattle.work.specs.declared.state.Work.{Work}
use Rattle.work.specs.After.{ComesAfter, LooksUnlessMore}
use Rattle.work.specs.Course.{Course, IsSince, Suits, IsOn}
use Rattle.work.specs.Cut.{fault_of, IsLeft}
use Rattle.work.specs.Going.{IsGoing, IsFinished}
use Rattle.work.specs.Ran.{HasRun}
use Rattle.work.proofs.Onward.{since_goes}
use Rattle.work.proofs.Refused.{HasPhases, on_refused, phased_finished}
use Rattle.work.specs.declared.report.Refusal.{Refusal}
use Rattle.work.specs.declared.report.Refusal.TheVariants.{File, MadeTwice, NoDyndepInput, Occupied, NoDyndep, BadVersion, BadStatement, Unfit, UnknownTarget, Cycle, Missing}
use Rattle.work.specs.Standing.{grown_course, ended_course, task_over, StandsAt, HadAsked, IsRefusedBy, IsRefusedAt, HasStopped, WasCut}
use Rattle.work.proofs.Asking.{had_asked_on, whole}
use Rattle.work.proofs.Halting.{still_unstarted}

module _ (tells : Bool) (course : Course) (edges : List Edge) (graph : Graph) (state : Work) (now : World) (refusal : Refusal) (refused : IsRefusedAt tells course edges graph state now refusal) where
  abbrev phases : List Phase
  phases = refused.phases

  abbrev stands : StandsAt tells course edges phases graph state now
  stands = refused.stopped.stands

  abbrev task : Task
  task = task_over course edges

  abbrev here : Course
  here = grown_course course edges phases

  abbrev done : List Done
  done = stands.on.steps

  abbrev last : List Done
  last = stands.on.carried.phased.build.last

  -- the course that ends there
  abbrev pub ends : Course
  ends = ended_course here done

  none_taken_in : stands.on.carried.phased.build.taken_in ≡ []
  none_taken_in = stands.on.carried.goes stands.goes

  up_to : steps_of phases ++ last ≡ done
  up_to =
      sym (whole tells course edges phases done now stands.on.carried.run stands.on.carried.phased ∙ (ap (λ (l : List Done). steps_of phases ++ (last ++ l)) none_taken_in ∙ ap (λ (l : List Done). steps_of phases ++ l) (append-nil last)))

  due : (file : List ℕ) → IsDueLoad task done file → IsDueLoad task (steps_of stands.on.carried.phased.build.earlier ++ last) file
  due file is = subst (λ (l : List Done). IsDueLoad task l file) (sym (ap (λ (earlier : List Phase). steps_of earlier ++ last) stands.on.carried.phased.so ∙ up_to)) is

  -- a load is due; or one was made just before, and a source is missing
  cause_of : (of : Refusal) → IsRefusedBy tells course edges phases done now of → IsRefused stands.on.carried.phased
  cause_of (File fault) cause = absurd cause
  cause_of (NoDyndepInput path) cause = absurd cause
  cause_of (Occupied occupied) cause = absurd cause
  cause_of (UnknownTarget target) cause = absurd cause
  cause_of (MadeTwice path) cause = inr (cause.1.file, due cause.1.file cause.1.is_next.due)
  cause_of (Cycle paths) cause = inr (cause.1.file, due cause.1.file cause.1.is_next.due)
  cause_of (NoDyndep path) cause = inr (path, due path cause.next.due)
  cause_of (BadVersion path) cause = inr (path, due path cause.next.due)
  cause_of (BadStatement path) cause = inr (path, due path cause.next.due)
  cause_of (Unfit unfit) cause = inr (unfit.file, due unfit.file cause.next.due)
  cause_of (Missing missing) cause = inl (no_last last (same_rest (steps_of phases) last [] (up_to ∙ (cause.asked.at_once ∙ sym (append-nil (steps_of phases))))))
    where
      no_last : (l : List Done) → l ≡ [] → l ≡ []
      no_last l is = is

  cause : IsRefused stands.on.carried.phased
  cause = cause_of refusal refused.stopped.cause

  pub ends_suits : Suits ends graph
  ends_suits = record {
    same = stands.suits.same;
    recorded = stands.suits.recorded;
    once = stands.suits.once;
    some = stands.suits.some;
    depfiles = stands.suits.depfiles;
    log_owned = stands.suits.log_owned;
    deps_owned = stands.suits.deps_owned;
    idle = stands.suits.idle;
  }

  pub ends_on : IsOn tells ends graph None state now
  ends_on = on_refused tells here graph state now stands.on cause

  pub ends_going : IsGoing tells false graph state now
  ends_going = record { course = ends; suits = ends_suits; is = refl; on = ends_on }

  module _ (new : World) (grows : ComesAfter tells now new) where
    had_new : HadAsked tells course edges phases last new
    had_new = had_asked_on tells course edges phases done now stands.on.carried.run stands.on.carried.phased new grows last refused.asked

    -- the phases are those of the refusal, whatever was taken in since then
    phases_since : (steps : List Done) → IsSince (Some done) steps → HasPhases tells course.behaviour course.own (asked_with course.asked edges) course.store phases course.entry stands.on.carried.phased.texts last steps new
    phases_since steps since =
        subst (λ (l : List Done). HasPhases tells course.behaviour course.own (asked_with course.asked edges) course.store phases course.entry stands.on.carried.phased.texts last l new) (sym since.1)
        (phased_finished tells course.behaviour course.own (asked_with course.asked edges) course.store phases course.entry since.0 done now stands.on.carried.phased cause since.2 new (λ tell. (grows.history tell).0) (λ tell. (grows.history tell).1))

    -- all that ran was taken in
    pub stopped_finished : (after : Work) → LooksUnlessMore tells graph now new state.looks after.looks → IsFinished tells ends graph after new → HasStopped tells course edges new refusal
    stopped_finished after looked finished = record {
      phases = phases;
      done = done;
      graph = graph;
      state = after;
      finished = finished;
      phased = since.phased;
      up_to = ap (λ (l : List Done). steps_of phases ++ l) since.last_is ∙ up_to;
      untouched = λ none. (still_unstarted tells course task graph state after done finished.on.steps now new stands.on.carried.run finished.on.carried.run grows looked stands.unstarted stands.suits.idle (ap started_in none)).looks;
      there = now;
      run = stands.on.carried.run;
      after = grows;
      cause = refused.stopped.cause;
      once = stands.suits.once;
      acyclic = stands.acyclic;
      asked = subst (λ (l : List Done). HadAsked tells course edges phases l new) (sym since.last_is) had_new;
    }
      where
        since : HasPhases tells course.behaviour course.own (asked_with course.asked edges) course.store phases course.entry stands.on.carried.phased.texts last finished.on.steps new
        since = phases_since finished.on.steps finished.on.since

    -- a fault was met
    pub stopped_cut : (cut : Cut) → IsLeft new cut → HasRun tells ends new (Err cut) → WasCut tells course edges new (fault_of cut)
    stopped_cut cut left ran = record {
      phases = phases;
      cut = cut;
      is = refl;
      left = left;
      ran = record { steps = ran.steps; met = ran.met; cut = record { phased = since.phased; run = ran.cut.run; beside = ran.cut.beside }; in_hand = ran.in_hand; since = since_goes course.refused stands.goes ran.steps; ends = tt; goes = tt; removed = tt };
      once = stands.suits.once;
      acyclic = stands.acyclic;
      asked = subst (λ (l : List Done). HadAsked tells course edges phases l new) (sym since.last_is) had_new;
    }
      where
        since : HasPhases tells course.behaviour course.own (asked_with course.asked edges) course.store phases course.entry stands.on.carried.phased.texts last ran.steps new
        since = phases_since ran.steps ran.since
