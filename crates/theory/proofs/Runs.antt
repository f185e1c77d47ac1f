-- A run goes on: a judgement, and each call of the site.
use Rattle.std.proofs.Common.{◌≡◌, ℕ, Bool, true, false, IsTrue, List, [], ◌∷◌, ◌++◌, length, Option, refl, sym, ◌∙◌, ap, subst, append_assoc}
use Rattle.std.proofs.lemmas.List.{append-nil}
use Rattle.std.proofs.lemmas.Bool.{false≢true, false_from_ne_true}
use Rattle.model.specs.declared.act.Act.{Act}
use Rattle.model.specs.declared.graph.Edge.{Edge}
use Rattle.model.specs.declared.event.Event.{Event}
use Rattle.model.specs.declared.event.Event.TheVariants.{Start, Finish}
use Rattle.model.specs.declared.event.Moment.{Moment}
use Rattle.model.specs.declared.event.Moment.TheVariants.{Wrote, Happened}
use Rattle.model.specs.declared.event.Writer.TheVariants.{Program}
use Rattle.model.specs.World.{World, runs, IsRunning, IsIdle, events_in}
use Rattle.model.specs.Calls.{AllByOthers, OnlyLooks, Adds, Starts, Finishes}
use Rattle.model.specs.Graph.{has_number, edge_at}
use Rattle.model.specs.Records.{OwnFiles}
use Rattle.model.specs.SingleBuild.{IsOwnWrite}
use Rattle.model.specs.Schedule.{Task, Step, Judged, Started, Ended, IsEndOf, AreEventsOf, started_in, running_in}
use Rattle.theory.specs.Order.{IsOrderlyStep}
use Rattle.theory.specs.Run.{steps_until, AreOfRun, IsToldBy, IsRun, IsRunOrRest}
use Rattle.theory.proofs.Steps.{running_parts}
use Rattle.theory.proofs.Orderly.{orderly_push}
use Rattle.theory.proofs.Events.{events-append, events_judged, finishes_push, runs_now}
use Rattle.theory.proofs.Moments.{until_all, until_more, events_in-append, of_run_append, no_events, others_of_run, told_on, told_more, told_nothing}

module _ (own : OwnFiles) (edges : List Edge) where
  -- ---- what one call does to the history

  -- what others write while these run
  others_so_far : (steps : List Step) (before events all : List Event) (ms : List Moment) → all ≡ before ++ events → AllByOthers (IsRunning all) ms → AreOfRun own edges steps before events ms
  others_so_far steps before events all ms is others =
      others_of_run own edges steps before events ms (subst (λ (l : List Event). AllByOthers (IsRunning l) ms) is others)

  told_looks : (tells : Bool) (steps : List Step) (before events : List Event) (old : List Moment) (now new : World) → (IsTrue tells → IsToldBy own edges steps before events old now.history)
      → now.events ≡ before ++ events → OnlyLooks tells now new → IsTrue tells → IsToldBy own edges steps before events old new.history
  told_looks tells steps before events old now new told is looks tell =
      let call = looks.history tell in
      subst (λ (l : List Event). IsToldBy own edges steps before l old new.history) (append-nil events)
      (told_on own edges steps before events [] old now.history new.history call.more (told tell) call.grows
      (no_events own edges (IsRunning now.events) call.more call.all) (others_so_far steps before events now.events call.more is call.all))

  -- the program wrote, where it may, and others before and after it
  told_writes : (steps : List Step) (before events all : List Event) (old now new earlier later : List Moment) (path : List ℕ) (content : Option (List ℕ)) (stamp : ℕ)
      → IsToldBy own edges steps before events old now → all ≡ before ++ events → IsOwnWrite own edges (steps_until steps (length events)) path content
      → new ≡ now ++ (earlier ++ Wrote Program path content stamp ∷ later) → AllByOthers (IsRunning all) earlier → AllByOthers (IsRunning all) later → IsToldBy own edges steps before events old new
  told_writes steps before events all old now new earlier later path content stamp told is may grows first second =
      subst (λ (l : List Event). IsToldBy own edges steps before l old new) (append-nil events)
      (told_on own edges steps before events [] old now new (earlier ++ Wrote Program path content stamp ∷ later) told grows none
      (of_run_append own edges steps before events earlier (Wrote Program path content stamp ∷ later) (others_so_far steps before events all earlier is first)
      (subst (λ (l : List Event). IsOwnWrite own edges (steps_until steps (length l)) path content × AreOfRun own edges steps before l later) (sym same) (may, others_so_far steps before events all later is second))))
    where
      no_first : events_in earlier ≡ []
      no_first = no_events own edges (IsRunning all) earlier first

      none : events_in (earlier ++ Wrote Program path content stamp ∷ later) ≡ []
      none = events_in-append earlier (Wrote Program path content stamp ∷ later) ∙ (ap (λ (l : List Event). l ++ events_in later) no_first ∙ no_events own edges (IsRunning all) later second)

      same : events ++ events_in earlier ≡ events
      same = ap (λ (l : List Event). events ++ l) no_first ∙ append-nil events

  told_adds : (tells : Bool) (steps : List Step) (before events : List Event) (old : List Moment) (event : Event) (now new : World) → (IsTrue tells → IsToldBy own edges steps before events old now.history)
      → now.events ≡ before ++ events → new.events ≡ now.events ++ event ∷ []
      → (IsTrue tells → Adds (IsRunning now.events) (IsRunning new.events) (Happened event) now.history new.history) → IsTrue tells → IsToldBy own edges steps before (events ++ event ∷ []) old new.history
  told_adds tells steps before events old event now new told is next adds tell =
      let call = adds tell in
      let none : events_in call.earlier ≡ [] = no_events own edges (IsRunning now.events) call.earlier call.all_earlier in
      let last : events_in call.later ≡ [] = no_events own edges (IsRunning new.events) call.later call.all_later in
      let one : events_in (call.earlier ++ Happened event ∷ call.later) ≡ event ∷ [] =
      events_in-append call.earlier (Happened event ∷ call.later)
      ∙ (ap (λ (l : List Event). l ++ event ∷ events_in call.later) none ∙ ap (λ (l : List Event). event ∷ l) last) in
      let same : events ++ events_in call.earlier ≡ events = ap (λ (l : List Event). events ++ l) none ∙ append-nil events in
      let after : new.events ≡ before ++ (events ++ event ∷ []) = next ∙ (ap (λ (l : List Event). l ++ event ∷ []) is ∙ append_assoc before events (event ∷ [])) in
      told_on own edges steps before events (event ∷ []) old now.history new.history (call.earlier ++ Happened event ∷ call.later) (told tell) call.grows one
      (of_run_append own edges steps before events call.earlier (Happened event ∷ call.later) (others_so_far steps before events now.events call.earlier is call.all_earlier)
      (subst (λ (l : List Event). AreOfRun own edges steps before (l ++ event ∷ []) call.later) (sym same) (others_so_far steps before (events ++ event ∷ []) new.events call.later after call.all_later)))

module _ (tells : Bool) (own : OwnFiles) (task : Task) (old : World) where
  -- ---- a run that goes on

  -- at the entry
  pub run_begins : IsRun tells own task [] old old
  run_begins = record {
    orderly = tt;
    events = [];
    grows = sym (append-nil old.events);
    of_steps = tt;
    history = λ tell. told_nothing own task.graph.edges [] old.events old.history;
  }

  -- an edge was judged
  pub run_judged : (steps : List Step) (now : World) (i : ℕ) (out_of_date : Bool) → IsRun tells own task steps old now → IsOrderlyStep task.graph.edges steps (Judged i out_of_date)
      → IsRun tells own task (steps ++ Judged i out_of_date ∷ []) old now
  run_judged steps now i out_of_date run next = record {
    orderly = orderly_push task.graph.edges steps (Judged i out_of_date) run.orderly next;
    events = run.events;
    grows = run.grows;
    of_steps = events_judged task.graph.edges steps i out_of_date run.events run.of_steps;
    history = λ tell. told_more own task.graph.edges steps (steps ++ Judged i out_of_date ∷ []) (λ n k h. until_more steps (Judged i out_of_date ∷ []) n k h) old.events run.events old.history now.history (run.history tell);
  }

  -- a call that only looks
  pub run_looks : (steps : List Step) (now new : World) → IsRun tells own task steps old now → OnlyLooks tells now new → IsRun tells own task steps old new
  run_looks steps now new run looks = record {
    orderly = run.orderly;
    events = run.events;
    grows = looks.events ∙ run.grows;
    of_steps = run.of_steps;
    history = told_looks own task.graph.edges tells steps old.events run.events old.history now new run.history run.grows looks;
  }

  -- the program wrote or removed a file, where it may
  pub run_writes : (steps : List Step) (now new : World) (path : List ℕ) (content : Option (List ℕ)) (stamp : ℕ) → IsRun tells own task steps old now → IsOwnWrite own task.graph.edges steps path content
      → new.events ≡ now.events → (IsTrue tells → Adds (IsRunning now.events) (IsRunning now.events) (Wrote Program path content stamp) now.history new.history) → IsRun tells own task steps old new
  run_writes steps now new path content stamp run may same adds = record {
    orderly = run.orderly;
    events = run.events;
    grows = same ∙ run.grows;
    of_steps = run.of_steps;
    history = λ tell.
        let call = adds tell in
        told_writes own task.graph.edges steps old.events run.events now.events old.history now.history new.history call.earlier call.later path content stamp (run.history tell) run.grows
        (subst (λ (l : List Step). IsOwnWrite own task.graph.edges l path content) (sym (all_so_far steps run.events run.of_steps)) may) call.grows call.all_earlier call.all_later;
  }
    where
      all_so_far : (steps : List Step) (events : List Event) → AreEventsOf task.graph.edges steps events → steps_until steps (length events) ≡ steps
      all_so_far steps events of_steps = ap (λ (l : List Event). steps_until steps (length l)) (sym (append-nil events)) ∙ until_all task.graph.edges steps events [] of_steps

  -- the command of an edge was started
  pub run_starts : (steps : List Step) (now new : World) (i : ℕ) (act : Act) → IsRun tells own task steps old now → IsOrderlyStep task.graph.edges steps (Started i) → act ≡ (edge_at task.graph.edges i).act
      → Starts tells i act now new → IsRun tells own task (steps ++ Started i ∷ []) old new
  run_starts steps now new i act run next is starts = record {
    orderly = orderly_push task.graph.edges steps (Started i) run.orderly next;
    events = run.events ++ Start i act now.ticked ∷ [];
    grows = starts.events ∙ (ap (λ (l : List Event). l ++ Start i act now.ticked ∷ []) run.grows ∙ append_assoc old.events run.events (Start i act now.ticked ∷ []));
    of_steps = events-append task.graph.edges steps (Started i ∷ []) run.events (Start i act now.ticked ∷ []) run.of_steps (refl, is, tt);
    history = λ tell. told_more own task.graph.edges steps (steps ++ Started i ∷ []) (λ n k h. until_more steps (Started i ∷ []) n k h) old.events (run.events ++ Start i act now.ticked ∷ []) old.history new.history
        (told_adds own task.graph.edges tells steps old.events run.events old.history (Start i act now.ticked) now new run.history run.grows starts.events starts.history tell);
  }

  -- a command that ran has ended
  pub run_finishes : (steps : List Step) (now new : World) (i : ℕ) (well ok : Bool) → IsRun tells own task steps old now → IsOrderlyStep task.graph.edges steps (Ended i well) → IsEndOf (edge_at task.graph.edges i) well ok
      → Finishes tells i ok now new → IsRun tells own task (steps ++ Ended i well ∷ []) old new
  run_finishes steps now new i well ok run next is finish = record {
    orderly = orderly_push task.graph.edges steps (Ended i well) run.orderly next;
    events = run.events ++ Finish i ok ∷ [];
    grows = finish.events ∙ (ap (λ (l : List Event). l ++ Finish i ok ∷ []) run.grows ∙ append_assoc old.events run.events (Finish i ok ∷ []));
    of_steps = events-append task.graph.edges steps (Ended i well ∷ []) run.events (Finish i ok ∷ []) run.of_steps (refl, is, tt);
    history = λ tell. told_more own task.graph.edges steps (steps ++ Ended i well ∷ []) (λ n k h. until_more steps (Ended i well ∷ []) n k h) old.events (run.events ++ Finish i ok ∷ []) old.history new.history
        (told_adds own task.graph.edges tells steps old.events run.events old.history (Finish i ok) now new run.history run.grows finish.events finish.history tell);
  }

  -- from a site that was idle, the commands that run are those of the steps
  pub running_now : (steps : List Step) (now : World) → IsIdle old.events → IsRun tells own task steps old now → (j : ℕ) → runs j now.events ≡ has_number (running_in steps) j
  running_now steps now idle run j =
      ap (λ (l : List Event). runs j l) run.grows ∙ runs_now task steps old.events run.events idle run.orderly run.of_steps j

  -- a command that was not started does not run, so that it may be started
  pub not_running : (steps : List Step) (now : World) (i : ℕ) → IsIdle old.events → IsRun tells own task steps old now → has_number (started_in steps) i ≡ false → runs i now.events ≡ false
  not_running steps now i idle run fresh =
      running_now steps now idle run i ∙ false_from_ne_true (has_number (running_in steps) i) (λ h. false≢true (sym fresh ∙ (running_parts steps i h).0))

  -- a command that runs on the site is taken in
  pub run_takes_in : (steps : List Step) (now new : World) (job : ℕ) (well ok : Bool) → IsIdle old.events → IsRun tells own task steps old now
      → IsEndOf (edge_at task.graph.edges job) well ok → Finishes tells job ok now new → IsRun tells own task (steps ++ Ended job well ∷ []) old new
  run_takes_in steps now new job well ok idle run is finish =
      run_finishes steps now new job well ok run (sym (running_now steps now idle run job) ∙ finish.ran) is finish

  -- ---- after a fault

  -- a fault cuts the run off
  pub rest_begins : (steps : List Step) (now : World) → IsRun tells own task steps old now → IsRunOrRest tells own task steps old now
  rest_begins steps now run = record {
    orderly = run.orderly;
    first = run.events;
    later = [];
    grows = run.grows ∙ ap (λ (l : List Event). old.events ++ l) (sym (append-nil run.events));
    of_steps = run.of_steps;
    finishes = tt;
    history = λ tell. subst (λ (l : List Event). IsToldBy own task.graph.edges steps old.events l old.history now.history) (sym (append-nil run.events)) (run.history tell);
  }

  pub rest_looks : (steps : List Step) (now new : World) → IsRunOrRest tells own task steps old now → OnlyLooks tells now new → IsRunOrRest tells own task steps old new
  rest_looks steps now new rest looks = record {
    orderly = rest.orderly;
    first = rest.first;
    later = rest.later;
    grows = looks.events ∙ rest.grows;
    of_steps = rest.of_steps;
    finishes = rest.finishes;
    history = told_looks own task.graph.edges tells steps old.events (rest.first ++ rest.later) old.history now new rest.history rest.grows looks;
  }

  -- a command that ran is taken in
  pub rest_finishes : (steps : List Step) (now new : World) (job : ℕ) (ok : Bool) → IsRunOrRest tells own task steps old now → Finishes tells job ok now new → IsRunOrRest tells own task steps old new
  rest_finishes steps now new job ok rest finish = record {
    orderly = rest.orderly;
    first = rest.first;
    later = rest.later ++ Finish job ok ∷ [];
    grows = finish.events ∙ (ap (λ (l : List Event). l ++ Finish job ok ∷ []) rest.grows ∙ joined);
    of_steps = rest.of_steps;
    finishes = finishes_push (old.events ++ rest.first) rest.later job ok rest.finishes
        (subst (λ (l : List Event). runs job l ≡ true) (rest.grows ∙ sym (append_assoc old.events rest.first rest.later)) finish.ran);
    history = λ tell. subst (λ (l : List Event). IsToldBy own task.graph.edges steps old.events l old.history new.history) (append_assoc rest.first rest.later (Finish job ok ∷ []))
        (told_adds own task.graph.edges tells steps old.events (rest.first ++ rest.later) old.history (Finish job ok) now new rest.history rest.grows finish.events finish.history tell);
  }
    where
      joined : (old.events ++ (rest.first ++ rest.later)) ++ Finish job ok ∷ [] ≡ old.events ++ (rest.first ++ (rest.later ++ Finish job ok ∷ []))
      joined = append_assoc old.events (rest.first ++ rest.later) (Finish job ok ∷ []) ∙ ap (λ (l : List Event). old.events ++ l) (append_assoc rest.first rest.later (Finish job ok ∷ []))
