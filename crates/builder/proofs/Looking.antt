-- A build, with all that is promised of one; and one that has only looked.
use Rattle.std.proofs.Common.{◌≡◌, inl, inr, ℕ, Bool, true, IsTrue, List, [], ◌∷◌, ◌++◌, Some, None, Err, refl, sym, ◌∙◌, ap, subst}
use Rattle.std.proofs.lemmas.Bool.{false≢true}
use Rattle.std.proofs.lemmas.List.{append-nil}
use Rattle.model.specs.declared.event.Event.{Event}
use Rattle.model.specs.declared.event.Moment.{Moment}
use Rattle.model.specs.declared.fault.SiteFault.{SiteFault}
use Rattle.model.specs.declared.fault.SiteFault.TheVariants.{Device, Stopped, Memory}
use Rattle.model.specs.World.{World, View, view_of, IsIdle}
use Rattle.model.specs.Calls.{OnlyLooks, HasCause, is_stop}
use Rattle.model.specs.Outcome.{Behaviour}
use Rattle.model.specs.Premises.{LogsAreLeft}
use Rattle.model.specs.Records.{OwnFiles, Store, LogFormat, store_in}
use Rattle.model.specs.History.{IsHeadline}
use Rattle.model.specs.Kept.{KeepsLogs}
use Rattle.model.specs.Phases.{steps_of}
use Rattle.model.specs.Schedule.{Step as Done, Judged}
use Rattle.model.specs.SingleBuild as answer
use Rattle.model.specs.SingleBuild.{Asked, Answer, is_fault, IsSuccess, IsScheduled, IsAnswer, PassesNoFault, SingleBuild, task_of}
use Rattle.theory.specs.Run.{IsRunOrRest}
use Rattle.theory.specs.Seen.{Looked}
use Rattle.theory.proofs.SiteCalls.{seen_of}
use Rattle.theory.proofs.Looks.{edits_before, logs_left, frame_of_looks}
use Rattle.theory.proofs.Runs.{run_begins, rest_begins, rest_looks}
use Rattle.theory.proofs.Starting.{ready_nothing}
use Rattle.theory.specs.Builds.{IsRunOf}
use Rattle.theory.specs.Ledger.{IsBeside}
use Rattle.theory.specs.Logged.{IsLoggedAt}
use Rattle.theory.proofs.Alone.{alone_nothing}
use Rattle.theory.proofs.Headlines.{headline_of_run, logs_of_run}
use Rattle.theory.proofs.LoggedCalls.{entry_logged}
use Rattle.theory.proofs.AsRead.{read_nothing}
use Rattle.theory.proofs.JudgedAtExit.{taken_nothing}
use Rattle.theory.proofs.Ledger.{beside_looks}
use Rattle.theory.proofs.Ticking.{ticked_nothing}
use Rattle.work.specs.Removing.{AreRemoved}
use Rattle.work.specs.declared.report.Report.{Report}
use Rattle.work.specs.declared.report.Report.TheVariants.{Fault}
use Rattle.builder.specs.Build.{RemovesFiles, LeavesAlone}
use Rattle.work.specs.Loads.{RefusesFile}

-- the logs, up to each point before
pub left_before : (own : OwnFiles) (old mid new later : List Moment) → new ≡ mid ++ later → LogsAreLeft own old new → LogsAreLeft own old mid
left_before own old mid new later grows left =
    record { free = left.free; build_log = left.build_log; deps_log = left.deps_log; edits = edits_before left.free old mid new later grows left.edits }

none_before : (before after : List Done) (step : Done) → [] ≡ before ++ step ∷ after → ⊥
none_before [] after step is = cc
none_before (s ∷ before) after step is = cc

nothing_held : (content : List ℕ) → None ≡ Some content → ⊥
nothing_held content is = cc

none_met : (i : ℕ) → None ≡ Some i → ⊥
none_met i is = cc

-- ---- faults

-- calls that only looked, and were not refused, pass over no fault
pub passes_looking : (tells : Bool) (entry now : World) → Looked tells entry now → (answer : Answer) → PassesNoFault entry now answer
passes_looking tells entry now looked answer = record {
  refused = λ fine. looked.unrefused.failures;
  starts = inl looked.looks.at_start;
  stopped = λ stopped. absurd (false≢true (sym looked.unrefused.goes_on ∙ stopped));
  earlier = looked.unrefused.earlier;
}

-- nor do those of which the last one gave a fault, and that is answered
pub passes_fault : {T : Type 0} (tells : Bool) (entry now : World) → OnlyLooks tells entry now → (fault : SiteFault) → HasCause {T = T} entry now (Err fault) → PassesNoFault entry now (answer.Fault fault)
passes_fault {T} tells entry now looks fault cause = record {
  refused = λ fine. absurd (false≢true (sym fine));
  starts = inl looks.at_start;
  stopped = λ stopped. by_fault fault (sym cause.stopped ∙ stopped);
  earlier = cause.earlier;
}
  where
    by_fault : (f : SiteFault) → is_stop {T = T} (Err f) ≡ true → answer.Fault f ≡ answer.Fault Stopped
    by_fault Device is = absurd (false≢true is)
    by_fault Stopped is = refl
    by_fault Memory is = absurd (false≢true is)

-- what is passed over in no call of a build is passed over in none since the entry
pub passes_after : (tells : Bool) (entry old new : World) (answer : Answer) → Looked tells entry old → PassesNoFault old new answer → PassesNoFault entry new answer
passes_after tells entry old new answer looked passes = record {
  refused = λ fine. passes.refused fine ∙ looked.unrefused.failures;
  starts = elim passes.starts [
    | inl none ↦ inl (none ∙ looked.looks.at_start)
    | inr some ↦ inr (some ∙ looked.unrefused.failures)
  ];
  stopped = passes.stopped;
  earlier = passes.earlier ∙ looked.unrefused.earlier;
}

-- where no fault is passed over by a refusal, none is by any other answer
pub passes_any : (old new : World) → PassesNoFault old new answer.Refused → (said : Answer) → PassesNoFault old new said
passes_any old new passes said = record {
  refused = λ fine. passes.refused refl;
  starts = passes.starts;
  stopped = λ stopped. absurd (no_fault (passes.stopped stopped));
  earlier = passes.earlier;
}
  where
    no_fault : answer.Refused ≡ answer.Fault Stopped → ⊥
    no_fault is = false≢true (ap is_fault is)

-- ---- a build

-- a build that is reported so: a dyndep file is refused with its cause, the headline holds, and the build keeps its logs, leaves files
-- of running commands alone and removes those of commands that ended well
pub record Built (tells : Bool) (B : Behaviour) (format : LogFormat) (own : OwnFiles) (asked : Asked) (entry now : World) (answer : Answer) (report : Report) : Type 0 where
  pub build : SingleBuild tells B format own asked entry now answer
  pub refused : RefusesFile tells own asked build.store (steps_of build.schedule.lawful.earlier ++ build.schedule.lawful.last) entry now report
  pub headline : IsHeadline tells B format own asked entry now answer build
  pub logs : KeepsLogs tells B format own asked entry now answer build
  pub alone : LeavesAlone tells own asked entry now
  pub removed : RemovesFiles build

pub built_by : (tells : Bool) (B : Behaviour) (format : LogFormat) (own : OwnFiles) (asked : Asked) (entry now : World) (answer : Answer) (report : Report) (build : SingleBuild tells B format own asked entry now answer)
    → RefusesFile tells own asked build.store (steps_of build.schedule.lawful.earlier ++ build.schedule.lawful.last) entry now report
    → IsRunOf tells B format own asked build.store build.steps build.met entry now → LeavesAlone tells own asked entry now → RemovesFiles build → Built tells B format own asked entry now answer report
built_by tells B format own asked entry now answer report build refused of_run alone removed = record {
  build = build;
  refused = refused;
  headline = headline_of_run tells B format own asked entry now answer build build.met of_run;
  logs = logs_of_run tells B format own asked entry now answer build of_run;
  alone = alone;
  removed = removed;
}

-- these records are those of the store at the entry, unless somebody has written a log since
abbrev pub IsFoundAt : Bool → LogFormat → OwnFiles → Store → World → World → Type 0
IsFoundAt tells format own store entry now = IsTrue tells → LogsAreLeft own entry.history now.history → store ≡ store_in format own (view_of entry.history)

-- ---- one that has only looked

-- no dyndep file is loaded
abbrev pub none_loaded : View
none_loaded file = None

module _ (tells : Bool) (B : Behaviour) (format : LogFormat) (own : OwnFiles) (asked : Asked) (store : Store) (entry now : World) (found : IsFoundAt tells format own store entry now) (idle : IsIdle entry.events)
    (unloaded : asked.graph.edges ≡ asked.declared) (looks : OnlyLooks tells entry now) where
  -- beside its run, whose logs tell what they told at the entry
  abbrev told : Store
  told = store_in format own (view_of entry.history)

  beside_entry : IsBeside tells B format own asked told [] None None entry entry
  beside_entry = record {
    idle = idle;
    ready = λ tell. ready_nothing own asked.graph.edges entry.history;
    ticked = λ tell. ticked_nothing entry.history;
    clean = λ tell kept i h stale. false≢true h;
    taken_in = λ tell kept. taken_nothing B asked.graph.edges entry.history None entry.history;
    read = λ tell. read_nothing B asked.graph.edges entry.history None entry.history;
    logged = λ tell kept. entry_logged B format own asked.graph.edges entry;
    alone = λ tell kept. alone_nothing asked.graph.edges entry.history;
  }

  beside_now : IsBeside tells B format own asked told [] None None entry now
  beside_now = beside_looks tells B format own asked told entry [] None None entry now (rest_begins tells own (task_of asked told) entry [] entry (run_begins tells own (task_of asked told) entry)) looks beside_entry

  run_now : IsRunOrRest tells own (task_of asked store) [] entry now
  run_now = rest_looks tells own (task_of asked store) entry [] entry now (rest_begins tells own (task_of asked store) entry [] entry (run_begins tells own (task_of asked store) entry)) looks

  looked_run : IsRunOf tells B format own asked store [] None entry now
  looked_run = record {
    idle = idle;
    run = run_now;
    made_once = inr looks;
    logged = λ tell kept. subst (λ (s : Store). IsLoggedAt B format own asked.graph.edges [] None s entry now) (sym {A = Store} (found tell (logs_left own asked.graph.edges entry.history now.history kept))) (beside_now.logged tell kept);
    ticked = beside_now.ticked;
  }

  abbrev nothing_scheduled : (said : Answer) → IsScheduled B none_loaded asked store [] entry now said
  nothing_scheduled said = record {
    lawful = record { earlier = []; last = []; taken_in = []; whole = refl; begins = unloaded; phases = tt; lawful = record { lawful = tt; unloaded = tt }; rest = tt; cause = inl refl };
    first = [];
    later = [];
    grows = looks.events ∙ sym (append-nil entry.events);
    of_steps = tt;
    finishes = tt;
    whole = λ fine. refl;
    went_on = λ on. refl;
  }

  module _ (said : Answer) (report : Report) (refused : RefusesFile tells own asked store [] entry now report) (failed : IsSuccess said → ⊥) (passes : PassesNoFault entry now said)
      (is : IsAnswer tells B own none_loaded asked store [] [] [] entry now said) where
    abbrev looking : SingleBuild tells B format own asked entry now said
    looking = record {
      store = store;
      logs = found;
      texts = none_loaded;
      held = λ tell kept file content bound loaded _. absurd (nothing_held content loaded);
      steps = [];
      schedule = nothing_scheduled said;
      met = None;
      met_fault = λ i is. absurd (none_met i is);
      ended_then = beside_now.read;
      ended = beside_now.taken_in;
      judged = λ tell kept apart known. record {
        verdicts = λ before after i stale is. absurd (none_before before after (Judged i stale) is);
        ended = beside_now.taken_in tell kept;
      };
      clean = λ tell kept i h stale. false≢true h;
      judged_then = λ tell kept apart. (tt, tt);
      held_then = λ tell. (tt, λ next load. absurd (nothing_held load.content load.holds));
      answers = is;
      in_order = inl refl;
      faults = passes;
      idle = λ fine. subst IsIdle (sym {A = List Event} looks.events) idle;
      taken_in = λ goes none. subst IsIdle (sym {A = List Event} looks.events) idle;
      frame = λ tell. frame_of_looks tells own asked.graph.edges entry now idle looks tell;
      ticked = beside_now.ticked;
      from_nothing = λ tell success. absurd (failed success);
    }

    -- no command ended well
    nothing_left : AreRemoved tells own asked.graph.edges [] None entry now
    nothing_left = record { responses = λ i well. absurd (false≢true well); depfiles = λ i well. absurd (false≢true well); stay = λ i well. absurd (false≢true well) }

    pub built_looking : Built tells B format own asked entry now said report
    built_looking = built_by tells B format own asked entry now said report looking refused looked_run beside_now.alone (λ fine. nothing_left)

  pub built_fault : {T : Type 0} (fault : SiteFault) → HasCause {T = T} entry now (Err fault) → Built tells B format own asked entry now (answer.Fault fault) (Fault fault)
  built_fault Device cause = built_looking (answer.Fault Device) (Fault Device) tt (λ h. h) (passes_fault tells entry now looks Device cause) (seen_of entry now (Err Device) cause)
  built_fault Stopped cause = built_looking (answer.Fault Stopped) (Fault Stopped) tt (λ h. h) (passes_fault tells entry now looks Stopped cause) (seen_of entry now (Err Stopped) cause)
  built_fault Memory cause = built_looking (answer.Fault Memory) (Fault Memory) tt (λ h. h) (passes_fault tells entry now looks Memory cause) (seen_of entry now (Err Memory) cause)
