-- Calls in which the program writes at one path alone: which calls are such, and what goes on through them.
use Rattle.std.proofs.Common.{◌≡◌, ◌≢◌, inl, inr, ℕ, Bool, true, false, IsTrue, List, [], ◌∷◌, ◌++◌, length, Option, Some, bytes_eq, refl, sym, ◌∙◌, ap, subst, append_assoc}
use Rattle.std.specs.List.{AllByRecursion}
use Rattle.std.proofs.lemmas.List.{append-nil}
use Rattle.std.proofs.lemmas.Bool.{false≢true, false_from_ne_true}
use Rattle.model.specs.declared.event.Event.{Event}
use Rattle.model.specs.declared.event.Moment.{Moment}
use Rattle.model.specs.declared.event.Moment.TheVariants.{Wrote, Happened}
use Rattle.model.specs.declared.event.Writer.TheVariants.{Program, Command, Someone}
use Rattle.model.specs.declared.graph.Edge.{Edge}
use Rattle.model.specs.World.{World, file_at, content_of, view_of, runs, IsRunning, events_in}
use Rattle.model.specs.Calls.{IsByOthers, AllByOthers, Adds, OnlyLooks, content_or_empty, Ticks, Writes, WritesOrNot, SpoilsOrNot, Appends, AppendsOrNot}
use Rattle.model.specs.Graph.{IsCommand}
use Rattle.model.specs.Outcome.{Behaviour}
use Rattle.model.specs.Records.{OwnFiles, LogFormat, Store, store_in}
use Rattle.model.specs.Schedule.{Task, Step}
use Rattle.model.specs.Premises.{FilesAreKept, IsWithinEdge, IsNoEdit}
use Rattle.model.specs.SingleBuild.{IsOwnWrite}
use Rattle.theory.specs.Run.{steps_until, AreOfRun, IsToldBy, IsRun}
use Rattle.theory.proofs.Lists.{same_bytes, all_append, all_weaker}
use Rattle.theory.proofs.Files.{IsElsewhere, file_stays}
use Rattle.theory.proofs.Moments.{until_all, told_on}
use Rattle.theory.proofs.Runs.{run_writes}
use Rattle.theory.specs.Logged.{IsLoggedAt}
use Rattle.theory.specs.Writes.{IsAtOrByOthers, GrewAt, WritesAt}
use Rattle.theory.proofs.LoggedCalls.{log_elsewhere, within, edits, same_logs}
use Rattle.theory.proofs.Growing.{logged_quiet}

-- ---- which calls are such

module _ (path : List ℕ) (running : ℕ → Type 0) where
  others_at : (ms : List Moment) → AllByOthers running ms → AllByRecursion (IsAtOrByOthers path running) ms
  others_at ms all = all_weaker (IsByOthers running) (IsAtOrByOthers path running) weaker ms all
    where
      weaker : (m : Moment) → IsByOthers running m → IsAtOrByOthers path running m
      weaker (Wrote Program at content stamp) h = absurd h
      weaker (Wrote (Command job) at content stamp) h = h
      weaker (Wrote Someone at content stamp) h = tt
      weaker (Happened event) h = absurd h

  grew_by : (content : Option (List ℕ)) (stamp : ℕ) (old new : List Moment) → Adds running running (Wrote Program path content stamp) old new → GrewAt path running old new
  grew_by content stamp old new adds = record {
    more = adds.earlier ++ Wrote Program path content stamp ∷ adds.later;
    grows = adds.grows;
    all = all_append (IsAtOrByOthers path running) adds.earlier (Wrote Program path content stamp ∷ adds.later) (others_at adds.earlier adds.all_earlier) (refl, others_at adds.later adds.all_later);
  }

module _ (tells : Bool) (path : List ℕ) where
  pub looks_at : (old new : World) → OnlyLooks tells old new → WritesAt tells path old new
  looks_at old new looks = record {
    events = looks.events;
    ticked = looks.ticked;
    at_start = looks.at_start;
    history = λ tell.
        let call = looks.history tell in
        record { more = call.more; grows = call.grows; all = others_at path (IsRunning old.events) call.more call.all };
  }

  pub then_at : (a b c : World) → WritesAt tells path a b → WritesAt tells path b c → WritesAt tells path a c
  then_at a b c first second = record {
    events = second.events ∙ first.events;
    ticked = second.ticked ∙ first.ticked;
    at_start = second.at_start ∙ first.at_start;
    history = λ tell.
        let f = first.history tell in
        let s : GrewAt path (IsRunning a.events) b.history c.history = subst (λ (l : List Event). GrewAt path (IsRunning l) b.history c.history) first.events (second.history tell) in
        record {
          more = f.more ++ s.more;
          grows = s.grows ∙ (ap (λ (l : List Moment). l ++ s.more) f.grows ∙ append_assoc a.history f.more s.more);
          all = all_append (IsAtOrByOthers path (IsRunning a.events)) f.more s.more f.all s.all;
        };
  }

  pub writes_at : (content : Option (List ℕ)) (old new : World) → Writes tells path content old new → WritesAt tells path old new
  writes_at content old new writes = record {
    events = writes.events;
    ticked = writes.ticked;
    at_start = writes.at_start;
    history = λ tell.
        let call = writes.history tell in
        grew_by path (IsRunning old.events) content call.0 old.history new.history call.1;
  }

  pub writes_or_not_at : (content : Option (List ℕ)) (old new : World) → WritesOrNot tells path content old new → WritesAt tells path old new
  writes_or_not_at content old new (inl looks) = looks_at old new looks
  writes_or_not_at content old new (inr writes) = writes_at content old new writes

  pub spoils_or_not_at : (old new : World) → SpoilsOrNot tells path old new → WritesAt tells path old new
  spoils_or_not_at old new (inl looks) = looks_at old new looks
  spoils_or_not_at old new (inr (other, writes)) = writes_at (Some other) old new writes

  pub appends_at : (bytes : List ℕ) (old new : World) → Appends tells path bytes old new → WritesAt tells path old new
  appends_at bytes old new appends = record {
    events = appends.events;
    ticked = appends.ticked;
    at_start = appends.at_start;
    history = λ tell.
        let call = appends.history tell in
        grew_by path (IsRunning old.events) (Some (content_or_empty (file_at (old.history ++ call.earlier) path) ++ bytes)) call.stamp old.history new.history
        (record { earlier = call.earlier; later = call.later; grows = call.grows; all_earlier = call.all_earlier; all_later = call.all_later });
  }

  pub appends_or_not_at : (bytes : List ℕ) (old new : World) → AppendsOrNot tells path bytes old new → WritesAt tells path old new
  appends_or_not_at bytes old new (inl looks) = looks_at old new looks
  appends_or_not_at bytes old new (inr (part, rest, is, appends)) = appends_at part old new appends

  -- a tick is one but for its stamp
  pub ticks_grew : (stamp : ℕ) (old new : World) → Ticks tells path stamp old new → IsTrue tells → GrewAt path (IsRunning old.events) old.history new.history
  ticks_grew stamp old new ticks tell =
      let touch = ticks.history tell in
      grew_by path (IsRunning old.events) (Some (content_or_empty (file_at (old.history ++ touch.earlier) path))) stamp old.history new.history
      (record { earlier = touch.earlier; later = touch.later; grows = touch.grows; all_earlier = touch.all_earlier; all_later = touch.all_later })

-- ---- nothing is started or ended

pub no_events_at : (path : List ℕ) (running : ℕ → Type 0) (ms : List Moment) → AllByRecursion (IsAtOrByOthers path running) ms → events_in ms ≡ []
no_events_at path running [] all = refl
no_events_at path running (Wrote by at content stamp ∷ ms) all = no_events_at path running ms all.1
no_events_at path running (Happened event ∷ ms) all = absurd all.0

-- ---- the run goes on

abbrev stamp_of_call : (tells : Bool) (X : ℕ → Type 0) → (IsTrue tells → (stamp : ℕ) × X stamp) → ℕ
stamp_of_call true X call = (call refl).0
stamp_of_call false X call = 0

of_stamp : (tells : Bool) (X : ℕ → Type 0) (call : IsTrue tells → (stamp : ℕ) × X stamp) → IsTrue tells → X (stamp_of_call tells X call)
of_stamp true X call tell = (call refl).1
of_stamp false X call tell = absurd (false≢true tell)

module _ (tells : Bool) (own : OwnFiles) (task : Task) (path : List ℕ) where
  of_run_at : (steps : List Step) (before events : List Event) → ((content : Option (List ℕ)) → IsOwnWrite own task.graph.edges (steps_until steps (length events)) path content)
      → (ms : List Moment) → AllByRecursion (IsAtOrByOthers path (IsRunning (before ++ events))) ms → AreOfRun own task.graph.edges steps before events ms
  of_run_at steps before events may [] all = tt
  of_run_at steps before events may (Wrote Program at content stamp ∷ ms) all =
      (subst (λ (p : List ℕ). IsOwnWrite own task.graph.edges (steps_until steps (length events)) p content) (sym all.0) (may content), of_run_at steps before events may ms all.1)
  of_run_at steps before events may (Wrote (Command job) at content stamp ∷ ms) all = (all.0, of_run_at steps before events may ms all.1)
  of_run_at steps before events may (Wrote Someone at content stamp ∷ ms) all = of_run_at steps before events may ms all.1
  of_run_at steps before events may (Happened event ∷ ms) all = absurd all.0

  -- the program wrote at a path where it may write anything
  pub run_at : (steps : List Step) (old now new : World) → ((content : Option (List ℕ)) → IsOwnWrite own task.graph.edges steps path content) → new.events ≡ now.events
      → (IsTrue tells → GrewAt path (IsRunning now.events) now.history new.history) → IsRun tells own task steps old now → IsRun tells own task steps old new
  run_at steps old now new may events grew run = record {
    orderly = run.orderly;
    events = run.events;
    grows = events ∙ run.grows;
    of_steps = run.of_steps;
    history = λ tell.
        let call = grew tell in
        subst (λ (l : List Event). IsToldBy own task.graph.edges steps old.events l old.history new.history) (append-nil run.events)
        (told_on own task.graph.edges steps old.events run.events [] old.history now.history new.history call.more (run.history tell) call.grows
        (no_events_at path (IsRunning now.events) call.more call.all)
        (of_run_at steps old.events run.events may_now call.more (subst (λ (l : List Event). AllByRecursion (IsAtOrByOthers path (IsRunning l)) call.more) run.grows call.all)));
  }
    where
      so_far : steps_until steps (length run.events) ≡ steps
      so_far = ap (λ (l : List Event). steps_until steps (length l)) (sym (append-nil run.events)) ∙ until_all task.graph.edges steps run.events [] run.of_steps

      may_now : (content : Option (List ℕ)) → IsOwnWrite own task.graph.edges (steps_until steps (length run.events)) path content
      may_now content = subst (λ (l : List Step). IsOwnWrite own task.graph.edges l path content) (sym so_far) (may content)

  -- the program wrote this content, or removed the file, where it may
  pub run_wrote : (steps : List Step) (old now new : World) (content : Option (List ℕ)) → IsOwnWrite own task.graph.edges steps path content → Writes tells path content now new → IsRun tells own task steps old now → IsRun tells own task steps old new
  run_wrote steps old now new content may writes run =
      run_writes tells own task old steps now new path content (stamp_of_call tells X writes.history) run may writes.events (of_stamp tells X writes.history)
    where
      X : ℕ → Type 0
      X stamp = Adds (IsRunning now.events) (IsRunning now.events) (Wrote Program path content stamp) now.history new.history

-- ---- another file stays

-- where what others write is elsewhere
pub at_elsewhere : (free : List ℕ → Bool) (edges : List Edge) (running : ℕ → Type 0) (path p : List ℕ) → path ≢ p → ((ms : List Moment) → AllByOthers running ms → AllByRecursion (IsWithinEdge free edges) ms → AllByRecursion (IsNoEdit free) ms → AllByRecursion (IsElsewhere p) ms)
    → (ms : List Moment) → AllByRecursion (IsAtOrByOthers path running) ms → AllByRecursion (IsWithinEdge free edges) ms → AllByRecursion (IsNoEdit free) ms → AllByRecursion (IsElsewhere p) ms
at_elsewhere free edges running path p other theirs [] all within edits = tt
at_elsewhere free edges running path p other theirs (Wrote Program at content stamp ∷ ms) all within edits =
    (false_from_ne_true (bytes_eq at p) (λ same. other (sym all.0 ∙ same_bytes at p same)), at_elsewhere free edges running path p other theirs ms all.1 within.1 edits.1)
at_elsewhere free edges running path p other theirs (Wrote (Command job) at content stamp ∷ ms) all within edits =
    ((theirs (Wrote (Command job) at content stamp ∷ []) (all.0, tt) (within.0, tt) (edits.0, tt)).0, at_elsewhere free edges running path p other theirs ms all.1 within.1 edits.1)
at_elsewhere free edges running path p other theirs (Wrote Someone at content stamp ∷ ms) all within edits =
    ((theirs (Wrote Someone at content stamp ∷ []) (tt, tt) (tt, tt) (edits.0, tt)).0, at_elsewhere free edges running path p other theirs ms all.1 within.1 edits.1)
at_elsewhere free edges running path p other theirs (Happened event ∷ ms) all within edits = absurd all.0

module _ (B : Behaviour) (format : LogFormat) (own : OwnFiles) (edges : List Edge) (entry : Store) (old now new : World) (so_far : List Moment) (was : now.history ≡ old.history ++ so_far)
    (kept : FilesAreKept own edges old.history new.history) (commands : (job : ℕ) → runs job now.events ≡ true → IsCommand edges job)
    (path : List ℕ) (no_build_log : path ≢ own.build_log) (no_deps_log : path ≢ own.deps_log) (grew : GrewAt path (IsRunning now.events) now.history new.history) where
  log_stays : (log : List ℕ) → own.files log ≡ true → path ≢ log → view_of new.history log ≡ view_of now.history log
  log_stays log mine other = ap content_of (ap (λ (h : List Moment). file_at h log) grew.grows
      ∙ file_stays log now.history grew.more (at_elsewhere kept.free edges (IsRunning now.events) path log other (λ ms all w e. log_elsewhere own edges kept.own_files kept.free kept.free_apart log mine (IsRunning now.events) commands ms all w e)
      grew.more grew.all (within B format own edges entry old now new so_far was kept commands grew.more grew.grows) (edits B format own edges entry old now new so_far was kept commands grew.more grew.grows)))

  pub build_log_stays : view_of new.history own.build_log ≡ view_of now.history own.build_log
  build_log_stays = log_stays own.build_log kept.own_files.build_log no_build_log

  pub deps_log_stays : view_of new.history own.deps_log ≡ view_of now.history own.deps_log
  deps_log_stays = log_stays own.deps_log kept.own_files.deps_log no_deps_log

  -- what the logs tell goes on where the path is none of them
  pub logged_at : (steps : List Step) (hand : Option ℕ) → new.events ≡ now.events → IsLoggedAt B format own edges steps hand entry old now → IsLoggedAt B format own edges steps hand entry old new
  logged_at steps hand events logged = same_logs B format own edges entry old now new so_far was kept commands steps hand build_log_stays deps_log_stays logged.readable
      (logged_quiet B edges entry old steps hand (store_in format own (view_of now.history)) now new events grew.more grew.grows logged.logged)
