-- A load is refused: where a run stands then, and its phases when all that ran was taken in.
use Rattle.std.proofs.Common.{◌≡◌, Bool, IsTrue, List, [], ◌∷◌, ◌++◌, Some, None, refl, sym, subst, append_assoc}
use Rattle.std.proofs.lemmas.List.{append-nil}
use Rattle.std.proofs.lemmas.Bool.{false≢true}
use Rattle.model.specs.declared.event.Moment.{Moment}
use Rattle.model.specs.World.{World, View}
use Rattle.model.specs.Outcome.{Behaviour}
use Rattle.model.specs.Records.{Store, OwnFiles}
use Rattle.model.specs.Schedule.{Step as Done, Judged, Started, Ended}
use Rattle.model.specs.Phases.{Phase, AreTakenIn}
use Rattle.model.specs.SingleBuild.{Asked}
use Rattle.graph.specs.declared.graph.Graph.{Graph}
use Rattle.theory.specs.Ledger.{IsPhased, IsRefused}
use Rattle.theory.proofs.PhasesGoOn.{phased_on, phased_taken_in}
use Rattle.work.specs.declared.state.Work.{Work}
use Rattle.work.specs.Course.{Course, IsOn}

-- the run ends there
abbrev pub refused_at : Course → List Done → Course
refused_at course steps = record {
  behaviour = course.behaviour;
  format = course.format;
  own = course.own;
  asked = course.asked;
  store = course.store;
  entry = course.entry;
  phases = course.phases;
  refused = Some steps;
}

-- a load is due that was refused; or one was made just before, and an input is missing
pub on_refused : (tells : Bool) (course : Course) (graph : Graph) (state : Work) (now : World) (on : IsOn tells course graph None state now) → IsRefused on.carried.phased → IsOn tells (refused_at course on.steps) graph None state now
on_refused tells course graph state now on cause = record {
  steps = on.steps;
  planned = on.planned;
  taken = on.taken;
  since = ([], sym (append-nil on.steps), tt);
  carried = record {
    run = on.carried.run;
    phased = on.carried.phased;
    goes = λ goes. absurd (false≢true goes);
    refused = λ ends. cause;
    beside = on.carried.beside;
  };
  logging = on.logging;
  told = record { records = on.told.records; deps = on.told.deps; known = on.told.known; same = on.told.same };
  seen = on.seen;
  anew = on.anew;
  before = on.before;
  started = on.started;
  removed = on.removed;
  room = on.room;
  cone = on.cone;
  ticking = on.ticking;
  noted = on.noted;
}

module _ (tells : Bool) (B : Behaviour) (own : OwnFiles) (asked : Asked) (store : Store) (phases : List Phase) (old : World) where
  -- these phases, with these texts, and this last one
  pub record HasPhases (texts : View) (last steps : List Done) (now : World) : Type 0 where
    pub phased : IsPhased tells B own asked store phases steps old now
    pub texts_are : phased.texts ≡ texts
    pub last_is : phased.build.last ≡ last

  -- Commands were taken in since then: the phases are those of the refusal.
  pub phased_finished : (ended steps : List Done) (now : World) (phased : IsPhased tells B own asked store phases steps old now) → IsRefused phased → AreTakenIn steps ended → (new : World) (more : IsTrue tells → List Moment)
      → ((tell : IsTrue tells) → new.history ≡ now.history ++ more tell) → HasPhases phased.texts phased.build.last (steps ++ ended) new
  phased_finished [] steps now phased cause taken new more grows =
      subst (λ (l : List Done). HasPhases phased.texts phased.build.last l new) (sym (append-nil steps))
      (record { phased = phased_on tells B own asked store old phases steps now new more grows phased; texts_are = refl; last_is = refl })
  phased_finished (Judged i stale ∷ ended) steps now phased cause taken new more grows = absurd taken
  phased_finished (Started i ∷ ended) steps now phased cause taken new more grows = absurd taken
  phased_finished (Ended i well ∷ ended) steps now phased cause taken new more grows =
      subst (λ (l : List Done). HasPhases phased.texts phased.build.last l new) (append_assoc steps (Ended i well ∷ []) ended)
      (phased_finished ended (steps ++ Ended i well ∷ []) now (phased_taken_in tells B own asked store old phases steps now phased i well taken.0 cause) cause taken.1 new more grows)
