-- The headline of a build, and what its logs keep, from its run.
use Rattle.std.proofs.Common.{◌≡◌, inl, inr, ℕ, Bool, true, IsTrue, List, [], ◌∷◌, ◌++◌, Option, Some, None, refl, sym, ◌∙◌, ap, subst}
use Rattle.std.proofs.lemmas.List.{append-nil}
use Rattle.std.proofs.lemmas.Bool.{false≢true}
use Rattle.model.specs.declared.event.Event.{Event}
use Rattle.model.specs.World.{content_of, World, View, view_of}
use Rattle.model.specs.Calls.{OnlyLooks}
use Rattle.model.specs.Graph.{has_number, IsMadeOnce}
use Rattle.model.specs.Outcome.{Behaviour}
use Rattle.model.specs.Records.{Store, OwnFiles, LogFormat, in_force, deps_in_force, recorded_inputs}
use Rattle.model.specs.Schedule.{Step, IsSettled, done_in, started_in}
use Rattle.model.specs.Phases.{Phase, steps_of}
use Rattle.model.specs.Premises.{FilesAreKept, FilesAndReports, Premises, KeepsFaith}
use Rattle.model.specs.SingleBuild.{Asked, Answer, Success, Failed, Unknown, Cyclic, MissingTarget, MissingInput, MadeTwice, NoDyndepInput, Refused, Fault, SingleBuild, NamesOther, InCone, IsCleanlyBuilt, IsSuccess, is_fault, IsAnswer, task_of}
use Rattle.model.specs.Faithful.{DepsHaveStarted, IsFaithfulStore}
use Rattle.model.specs.Kept.{KeepsRecords, LeavesNothing, store_at}
use Rattle.theory.specs.Order.{IsOrderly}
use Rattle.theory.specs.Run.{starts_in}
use Rattle.theory.proofs.Events.{starts_of_steps}
use Rattle.theory.proofs.Lists.{same_rest}
use Rattle.theory.proofs.Loads.{build_is_orderly, declared_once}
use Rattle.theory.proofs.Looks.{logs_left, looks_keep_file}
use Rattle.theory.proofs.Less.{store_same}
use Rattle.theory.proofs.Orderly.{IsKept, kept_orderly}
use Rattle.theory.proofs.Ready.{stale_starts}
use Rattle.theory.proofs.RunLawsStated.{loads_come_first}
use Rattle.theory.specs.Logged.{IsLogged}
use Rattle.theory.specs.Builds.{IsRunOf, HeadlineOfRun, LogsOfRun}
use Rattle.theory.proofs.Edits.{nothing_keeps}
use Rattle.theory.proofs.NothingLeft.{nothing_is_left}
use Rattle.theory.proofs.Recorded.{records_are_kept}
use Rattle.theory.proofs.LogLawsStated.{clean_with_loads, faithful_at_exit}

-- what a success says
record IsSettledWell (tells : Bool) (own : OwnFiles) (asked : Asked) (store : Store) (steps : List Step) : Type 0 where
  once : IsMadeOnce asked.graph.edges
  named : (file : List ℕ) → NamesOther asked.declared file → ⊥
  settled : (i : ℕ) → InCone asked store i → IsSettled asked.graph.edges (done_in steps) i

success_says : (tells : Bool) (B : Behaviour) (own : OwnFiles) (texts : View) (asked : Asked) (store : Store) (phases : List Phase) (done steps : List Step) (old new : World) (answer : Answer)
    → IsSuccess answer → IsAnswer tells B own texts asked store phases done steps old new answer → IsSettledWell tells own asked store steps
success_says tells B own texts asked store phases done steps old new (Success started) success says = record { once = says.0.made_once; named = says.0.dyndep; settled = says.2 }
success_says tells B own texts asked store phases done steps old new (Failed outs) success says = absurd success
success_says tells B own texts asked store phases done steps old new (Unknown path) success says = absurd success
success_says tells B own texts asked store phases done steps old new (Cyclic paths) success says = absurd success
success_says tells B own texts asked store phases done steps old new (MissingTarget path) success says = absurd success
success_says tells B own texts asked store phases done steps old new (MissingInput path output) success says = absurd success
success_says tells B own texts asked store phases done steps old new (MadeTwice path) success says = absurd success
success_says tells B own texts asked store phases done steps old new (NoDyndepInput path) success says = absurd success
success_says tells B own texts asked store phases done steps old new Refused success says = absurd success
success_says tells B own texts asked store phases done steps old new (Fault fault) success says = absurd success

no_fault : (answer : Answer) → IsSuccess answer → is_fault answer ≡ true → ⊥
no_fault (Success started) success fault = false≢true fault
no_fault (Failed outs) success fault = success
no_fault (Unknown path) success fault = success
no_fault (Cyclic paths) success fault = success
no_fault (MissingTarget path) success fault = success
no_fault (MissingInput path output) success fault = success
no_fault (MadeTwice path) success fault = success
no_fault (NoDyndepInput path) success fault = success
no_fault Refused success fault = success
no_fault (Fault fault) success is = success

module _ (tells : Bool) (B : Behaviour) (format : LogFormat) (own : OwnFiles) (asked : Asked) (old new : World) (answer : Answer) (build : SingleBuild tells B format own asked old new answer) (hand : Option ℕ)
    (of_run : IsRunOf tells B format own asked build.store build.steps hand old new) where
  orderly : IsOrderly asked.graph.edges build.steps
  orderly = build_is_orderly B.dyndep build.texts asked.declared (task_of asked build.store) build.store build.steps build.schedule.lawful

  declared : IsMadeOnce asked.graph.edges → IsMadeOnce asked.declared
  declared once = declared_once B.dyndep build.texts asked.declared (task_of asked build.store) build.store build.steps build.schedule.lawful once

  success : IsSuccess answer → IsSettledWell tells own asked build.store build.steps
  success is = success_says tells B own build.texts asked build.store build.schedule.lawful.earlier (steps_of build.schedule.lawful.earlier ++ build.schedule.lawful.last) build.steps old new answer is build.answers

  pub stays : IsTrue tells → IsFaithfulStore B format own asked.graph.edges old
      → KeepsFaith B own asked.graph.edges build.store build.steps old.history new.history → IsFaithfulStore B format own asked.graph.edges new
  stays tell faithful keeps = elim of_run.made_once [
    | inl once ↦
        let logged = of_run.logged tell keeps.kept in
        faithful_at_exit tells B format own asked build.store build.steps hand old new tell of_run.idle of_run.run once
        (build.logs tell (logs_left own asked.graph.edges old.history new.history keeps.kept)) faithful (logged.readable (record { build_log = faithful.build_log; deps_log = faithful.deps_log })) logged.logged (of_run.ticked tell) keeps
    | inr looks ↦ nothing_keeps B format own asked.graph.edges old new faithful looks.events of_run.idle (record {
      free = keeps.kept.free;
      free_apart = keeps.kept.free_apart;
      unrecorded = λ p is. ap (λ (s : Store). in_force s.records p) (sym (build.logs tell (logs_left own asked.graph.edges old.history new.history keeps.kept))) ∙ keeps.unrecorded p is;
      logs = (keeps.kept.free_apart.set own.build_log (keeps.kept.own_files.within own.build_log keeps.kept.own_files.build_log), keeps.kept.free_apart.set own.deps_log (keeps.kept.own_files.within own.deps_log keeps.kept.own_files.deps_log));
      stamps = keeps.stamps;
      commands = keeps.kept.commands;
      edits = keeps.kept.edits;
    }) (looks.history tell)
  ]

  pub clean : IsTrue tells → IsFaithfulStore B format own asked.graph.edges old
      → (premises : Premises B own asked.declared asked.graph.edges (recorded_inputs build.store asked.graph.edges) build.steps old.history new.history) → IsSuccess answer → IsCleanlyBuilt B premises.files.quiet asked build.store (view_of new.history)
  clean tell faithful premises is =
      let well = success is in
      clean_with_loads tells B format own build.texts asked build.store build.steps build.met old new tell of_run.idle of_run.run build.schedule.lawful (declared well.once) well.once well.named
      (build.logs tell (logs_left own asked.graph.edges old.history new.history premises.files.kept)) faithful premises (of_run.ticked tell) (build.judged tell premises.files.kept premises.files.recorded_apart premises.files.dyndep.inputs) well.settled

  -- ---- the records

  -- where the build has only looked, no command was started
  none_started : OnlyLooks tells old new → started_in build.steps ≡ []
  none_started looks =
      sym (starts_of_steps asked.graph.edges build.steps of_run.run.first of_run.run.of_steps)
      ∙ ap starts_in (nothing_first of_run.run.first of_run.run.later
      (same_rest old.events (of_run.run.first ++ of_run.run.later) [] (sym of_run.run.grows ∙ (looks.events ∙ sym (append-nil old.events)))))
    where
      nothing_first : (xs ys : List Event) → xs ++ ys ≡ [] → xs ≡ []
      nothing_first [] ys is = refl
      nothing_first (x ∷ xs) ys is = cc

  kept_by_looks : OnlyLooks tells old new → IsTrue tells → FilesAreKept own asked.graph.edges old.history new.history → KeepsRecords B asked build.store (store_at format own new) build.steps hand old new
  kept_by_looks looks tell files = record {
    well = λ i stamp at o well started ended makes. absurd (unstarted i (all.ended i (all.well i well)));
    others = λ i o started not_well makes. absurd (unstarted i started);
    begun = λ i o met not_started makes. (inl (same_records o), same_deps o);
    deps = λ i o makes. inl (same_deps o);
    kept = λ o alone. (same_records o, same_deps o);
  }
    where
      all : IsKept asked.graph.edges build.steps
      all = kept_orderly asked.graph.edges build.steps of_run.run.orderly

      unstarted : (i : ℕ) → has_number (started_in build.steps) i ≡ true → ⊥
      unstarted i started = false≢true (ap (λ (l : List ℕ). has_number l i) (sym (none_started looks)) ∙ started)

      log_same : (log : List ℕ) → own.files log ≡ true → view_of new.history log ≡ view_of old.history log
      log_same log mine = ap content_of (looks_keep_file tells own asked.graph.edges old new of_run.idle looks tell files.free files.edits log (files.free_apart.set log (files.own_files.within log mine)))

      same : store_at format own new ≡ build.store
      same = store_same format own old.history new.history (log_same own.build_log files.own_files.build_log) (log_same own.deps_log files.own_files.deps_log) ∙ sym (build.logs tell (logs_left own asked.graph.edges old.history new.history files))

      same_records : (o : List ℕ) → in_force (store_at format own new).records o ≡ in_force build.store.records o
      same_records o = ap (λ (s : Store). in_force s.records o) same

      same_deps : (o : List ℕ) → deps_in_force (store_at format own new).deps o ≡ deps_in_force build.store.deps o
      same_deps o = ap (λ (s : Store). deps_in_force s.deps o) same

  pub records : IsTrue tells → FilesAreKept own asked.graph.edges old.history new.history → KeepsRecords B asked build.store (store_at format own new) build.steps hand old new
  records tell files = elim of_run.made_once [
    | inl once ↦ records_are_kept tells B format own asked build.store build.steps hand old new tell of_run.idle of_run.run once (of_run.logged tell files).logged
    | inr looks ↦ kept_by_looks looks tell files
  ]

  -- ---- nothing is left

  pub nothing_left : IsTrue tells → IsSuccess answer → (hand ≡ None) → DepsHaveStarted build.store old.history
      → (premises : FilesAndReports B own asked.declared asked.graph.edges (recorded_inputs build.store asked.graph.edges) build.steps old.history new.history)
      → LeavesNothing premises.quiet asked build.store (store_at format own new) build.steps old.history new.history
  nothing_left tell is free early premises =
      let well = success is in
      let in_order = loads_come_first B build.texts asked build.store build.steps old.history new.history build.schedule.lawful (declared well.once) well.once well.named premises.dyndep in
      nothing_is_left tells B format own asked build.store build.steps build.met old new tell of_run.idle of_run.run well.once in_order.1 early
      (subst (λ (h : Option ℕ). IsLogged B asked.graph.edges build.steps h build.store (store_at format own new) old new) free (of_run.logged tell premises.kept).logged)
      (of_run.ticked tell) premises (build.judged tell premises.kept premises.recorded_apart premises.dyndep.inputs) in_order.2 well.settled

pub headline_of_run : HeadlineOfRun
headline_of_run tells B format own asked old new answer build hand of_run = record {
  stays = λ tell faithful keeps. stays tells B format own asked old new answer build hand of_run tell faithful keeps;
  clean = λ tell faithful premises is. clean tells B format own asked old new answer build hand of_run tell faithful premises is;
  stale = λ tell files apart known. stale_starts files.free asked.graph.edges build.store build.steps old.history new.history
      (orderly tells B format own asked old new answer build hand of_run) (build.judged tell files apart known).verdicts;
}

pub logs_of_run : LogsOfRun
logs_of_run tells B format own asked old new answer build of_run = record {
  records = λ tell files. records tells B format own asked old new answer build build.met of_run tell files;
  settled = λ tell is early premises. nothing_left tells B format own asked old new answer build build.met of_run tell is (free build.met refl is) early premises;
}
  where
    free : (met : Option ℕ) → build.met ≡ met → IsSuccess answer → build.met ≡ None
    free None same is = same
    free (Some i) same is = absurd (no_fault answer is (build.met_fault i same).fault)
