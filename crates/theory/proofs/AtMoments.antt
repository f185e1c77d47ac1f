-- Verdicts by the edges and files of then, and what a call saw of a file: at moments of the build's history.
use Rattle.std.proofs.Common.{◌≡◌, ℕ, suc, Bool, IsTrue, List, [], ◌∷◌, ◌++◌, length, Option, refl, sym, ◌∙◌, ap, append_assoc}
use Rattle.std.proofs.lemmas.List.{append-nil}
use Rattle.model.specs.declared.event.Event.{Event}
use Rattle.model.specs.declared.event.Moment.{Moment}
use Rattle.model.specs.declared.event.Moment.TheVariants.{Wrote, Happened}
use Rattle.model.specs.declared.graph.Edge.{Edge}
use Rattle.model.specs.World.{World, View, view_of, IsIdle, IsRunning, events_in}
use Rattle.model.specs.Calls.{OthersWrote, OnlyLooks, Sees}
use Rattle.model.specs.Outcome.{Behaviour}
use Rattle.model.specs.Records.{Store, OwnFiles, recorded_inputs}
use Rattle.model.specs.Schedule.{Task, Step, Judged, Started, Ended}
use Rattle.model.specs.Phases.{Phase, happened_in, steps_of, task_with, ArePhasesFrom, IsMomentAfter}
use Rattle.model.specs.Premises.{FilesAreKept, RecordedApart}
use Rattle.model.specs.SingleBuild.{Asked, task_of, JudgedAt, AreJudgedAt, ArePhasesJudgedAt, HeldAt}
use Rattle.theory.specs.Run.{IsToldBy, IsRun}
use Rattle.theory.proofs.Events.{as_many}
use Rattle.theory.proofs.Growth.{HasGrown, grown_same}
use Rattle.theory.proofs.Lists.{same_rest}
use Rattle.theory.proofs.Looks.{kept_before}
use Rattle.theory.proofs.Moments.{events_in-append, no_events}
use Rattle.theory.proofs.Orderly.{IsKept, kept_orderly}
use Rattle.theory.proofs.Runs.{rest_begins}
use Rattle.theory.proofs.Loads.{rest_has_grown}
use Rattle.theory.specs.Judged.{JudgedOver, AreJudgedOver, ArePhasesJudged, VerdictsAtMoments}
use Rattle.theory.proofs.Turned.{kept_then, recorded_before}

happened_are : (ms : List Moment) → happened_in ms ≡ length (events_in ms)
happened_are [] = refl
happened_are (Wrote by path content stamp ∷ ms) = happened_are ms
happened_are (Happened event ∷ ms) = ap (λ (n : ℕ). suc n) (happened_are ms)

-- where a run stands, just its steps are done
moment_of_run : (tells : Bool) (own : OwnFiles) (task : Task) (steps : List Step) (old mid : World) (new more : List Moment) → IsRun tells own task steps old mid → IsTrue tells → new ≡ mid.history ++ more
    → IsMomentAfter steps old.history new mid.history
moment_of_run tells own task steps old mid new more run tell grows =
    let told = run.history tell in
    record {
      so_far = told.more;
      later = more;
      is = told.grows;
      grows = grows;
      happened = happened_are told.more ∙ (ap (λ (l : List Event). length l) told.happened ∙ as_many task.graph.edges steps run.events run.of_steps);
    }

none_first : (xs ys : List Event) → xs ++ ys ≡ [] → xs ≡ []
none_first [] ys is = refl
none_first (x ∷ xs) ys is = cc

-- what a call saw of a file that only looked was so when just the steps before it were done
pub held_seen : (tells : Bool) (own : OwnFiles) (task : Task) (steps : List Step) (old now new : World) (file : List ℕ) (held : Option (List ℕ)) → IsRun tells own task steps old now → OnlyLooks tells now new → IsTrue tells
    → Sees (λ history. view_of history file) held now.history new.history → HeldAt file held steps old.history new.history
held_seen tells own task steps old now new file held run looks tell sees = record {
  at = now.history ++ sees.earlier;
  moment = record {
    so_far = told.more ++ sees.earlier;
    later = sees.later;
    is = ap (λ (l : List Moment). l ++ sees.earlier) told.grows ∙ append_assoc old.history told.more sees.earlier;
    grows = sees.grows ∙ sym (append_assoc now.history sees.earlier sees.later);
    happened = happened_are (told.more ++ sees.earlier) ∙ (ap (λ (l : List Event). length l) events_are ∙ as_many task.graph.edges steps run.events run.of_steps);
  };
  holds = sym sees.is;
}
  where
    told : IsToldBy own task.graph.edges steps old.events run.events old.history now.history
    told = run.history tell

    call : OthersWrote (IsRunning now.events) now.history new.history
    call = looks.history tell

    same : call.more ≡ sees.earlier ++ sees.later
    same = same_rest now.history call.more (sees.earlier ++ sees.later) (sym call.grows ∙ sees.grows)

    none : events_in sees.earlier ++ events_in sees.later ≡ []
    none = sym (events_in-append sees.earlier sees.later) ∙ (ap events_in (sym same) ∙ no_events own task.graph.edges (IsRunning now.events) call.more call.all)

    events_are : events_in (told.more ++ sees.earlier) ≡ run.events
    events_are = events_in-append told.more sees.earlier
        ∙ (ap (λ (l : List Event). events_in told.more ++ l) (none_first (events_in sees.earlier) (events_in sees.later) none) ∙ (append-nil (events_in told.more) ∙ told.happened))

module _ (tells : Bool) (own : OwnFiles) (asked : Asked) (store : Store) (old now : World) (tell : IsTrue tells) (idle : IsIdle old.events) (files : FilesAreKept own asked.graph.edges old.history now.history)
    (apart : RecordedApart own (recorded_inputs store asked.graph.edges)) where
  one_at : (edges : List Edge) → HasGrown edges asked.graph.edges → (before : List Step) (i : ℕ) (b : Bool) → JudgedOver tells own asked store edges before i b old now → JudgedAt files.free edges store before i b old.history now.history
  one_at edges grown before i b was = record {
    at = was.mid.history;
    moment = moment_of_run tells own (task_with (task_of asked store) store edges) before old was.mid now.history was.more was.run tell (was.grows tell);
    right = was.right tell (kept_then tells own (task_with (task_of asked store) store edges) asked.graph.edges grown before old was.mid tell idle
        (rest_begins tells own (task_with (task_of asked store) store edges) old before was.mid was.run)
        (λ k started. was.loaded k (kept.out_of_date k (kept.started k started)))
        (kept_before own asked.graph.edges old.history was.mid.history now.history was.more (was.grows tell) files))
        (recorded_before own edges asked.graph.edges grown store apart);
  }
    where
      kept : IsKept edges before
      kept = kept_orderly edges before was.run.orderly

  steps_at : (edges : List Edge) → HasGrown edges asked.graph.edges → (before steps : List Step) → AreJudgedOver tells own asked store edges before steps old now → AreJudgedAt files.free edges store before steps old.history now.history
  steps_at edges grown before [] judged = tt
  steps_at edges grown before (Judged i b ∷ steps) judged = (one_at edges grown before i b judged.0, steps_at edges grown (before ++ Judged i b ∷ []) steps judged.1)
  steps_at edges grown before (Started i ∷ steps) judged = steps_at edges grown (before ++ Started i ∷ []) steps judged
  steps_at edges grown before (Ended i w ∷ steps) judged = steps_at edges grown (before ++ Ended i w ∷ []) steps judged

  phases_at : (B : Behaviour) (texts : View) (before : List Step) (phases : List Phase) → ArePhasesFrom B.dyndep texts (task_of asked store) store before phases → ArePhasesJudged tells own asked store before phases old now
      → ArePhasesJudgedAt files.free store before phases old.history now.history
  phases_at B texts before [] lawful judged = tt
  phases_at B texts before (phase ∷ phases) lawful judged = (
    steps_at phase.edges (rest_has_grown B.dyndep texts asked.declared (task_of asked store) store before (phase ∷ phases) lawful) before phase.steps judged.0,
    phases_at B texts (before ++ phase.steps) phases lawful.3 judged.1,
  )

pub verdicts_at_moments : VerdictsAtMoments
verdicts_at_moments tells B own texts asked store steps old now tell idle build phases last files apart = (
  phases_at tells own asked store old now tell idle files apart B texts [] build.earlier build.phases phases,
  steps_at tells own asked store old now tell idle files apart asked.graph.edges (grown_same asked.graph.edges) (steps_of build.earlier) build.last last,
)
