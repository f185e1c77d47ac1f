-- An edge in hand is made ready to start, call by call: what one call brings about, the calls after it keep.
use Rattle.std.proofs.Common.{◌≡◌, ◌≢◌, ◌⊎◌, inl, inr, ℕ, Bool, true, false, IsTrue, List, [], ◌∷◌, ◌++◌, Option, Some, None, refl, sym, ◌∙◌, ap, subst, append_assoc}
use Rattle.std.proofs.lemmas.Bool.{false≢true}
use Rattle.model.specs.declared.event.Moment.{Moment}
use Rattle.model.specs.declared.record.Record.{Record}
use Rattle.model.specs.declared.record.Record.TheVariants.{Begun}
use Rattle.model.specs.World.{World, file_at, content_of, view_of, IsRunning}
use Rattle.model.specs.Calls.{OnlyLooks, Ticks, Writes}
use Rattle.model.specs.Graph.{has_number, outputs, edge_at, IsCommand}
use Rattle.model.specs.Outcome.{Behaviour}
use Rattle.model.specs.Records.{Store, LogFormat, OwnFiles, store_in, in_force}
use Rattle.model.specs.Schedule.{Step, started_in, out_of_date_in}
use Rattle.model.specs.Premises.{FilesAreKept, LiesIn, IsTickedAt}
use Rattle.model.specs.Phases.{Phase}
use Rattle.model.specs.SingleBuild.{Asked, task_of}
use Rattle.theory.specs.Run.{IsRunOrRest}
use Rattle.theory.proofs.Files.{file_stays}
use Rattle.theory.proofs.Looks.{kept_before}
use Rattle.theory.proofs.Runs.{rest_begins}
use Rattle.theory.proofs.Starting.{IsPrivate, OthersRun, private_elsewhere, private_looks, private_written}
use Rattle.theory.specs.Writes.{GrewAt, WritesAt}
use Rattle.theory.specs.Ledger.{IsCarried, IsTickedNow, HoldsStill, HasNoRecord, IsReadyToStart}
use Rattle.theory.proofs.LoggedCalls.{within, edits, looks_stays}
use Rattle.theory.proofs.Growing.{begun_none}
use Rattle.theory.proofs.Ledger.{command_of, stale_command, others_run}
use Rattle.theory.proofs.Less.{store_same}
use Rattle.theory.proofs.Ticking.{tick_now, tick_on}
use Rattle.theory.proofs.Writing.{no_events_at, at_elsewhere, looks_at, build_log_stays, deps_log_stays}

module _ (tells : Bool) (B : Behaviour) (format : LogFormat) (own : OwnFiles) (asked : Asked) (store : Store) (old : World) (phases : List Phase) (goes_on : Bool) (steps : List Step) (hand : Option ℕ) (now new : World)
    (carried : IsCarried tells B format own asked store phases goes_on steps hand old now) where
  abbrev rest : IsRunOrRest tells own (task_of asked store) steps old now
  rest = rest_begins tells own (task_of asked store) old steps now carried.run

  abbrev Kept : World → Type 0
  Kept world = FilesAreKept own asked.graph.edges old.history world.history

  -- the program wrote at this path alone: a tick (`ticks_grew`), or a call of `WritesAt`
  abbrev GrewWriting : List ℕ → Type 0
  GrewWriting path = IsTrue tells → GrewAt path (IsRunning now.events) now.history new.history

  commands : (job : ℕ) → IsRunning now.events job → IsCommand asked.graph.edges job
  commands = command_of tells B format own asked store old steps now carried.beside.idle rest

  -- ---- the stamp of a tick

  pub tick_given : (path : List ℕ) (stamp : ℕ) → Ticks tells path stamp now new → IsTrue tells → IsTickedNow old new
  tick_given path stamp ticks tell =
      let told = carried.run.history tell in
      let given = tick_now own asked.graph.edges tells tell path stamp now new told.more ticks in
      record {
        so_far = told.more ++ given.0;
        was = given.1 ∙ (ap (λ (l : List Moment). l ++ given.0) told.grows ∙ append_assoc old.history told.more given.0);
        tick = given.2;
      }

  pub tick_kept : (path : List ℕ) → WritesAt tells path now new → (IsTrue tells → IsTickedNow old now) → IsTrue tells → IsTickedNow old new
  tick_kept path writes ticked tell =
      let call = writes.history tell in
      let tick = ticked tell in
      record {
        so_far = tick.so_far ++ call.more;
        was = call.grows ∙ (ap (λ (l : List Moment). l ++ call.more) tick.was ∙ append_assoc old.history tick.so_far call.more);
        tick = subst (λ (s : ℕ). IsTickedAt s (tick.so_far ++ call.more)) (sym writes.ticked)
            (tick_on now.ticked tick.so_far call.more (no_events_at path (IsRunning now.events) call.more call.all) tick.tick);
      }

  -- ---- its depfile and its response file

  module _ (i : ℕ) (stale : has_number (out_of_date_in steps) i ≡ true) (unstarted : has_number (started_in steps) i ≡ false) where
    command : IsCommand asked.graph.edges i
    command = stale_command tells B format own asked store old steps now carried.beside.idle rest i stale

    others : OthersRun asked.graph.edges i (IsRunning now.events)
    others = others_run tells B format own asked store old steps now carried.beside.idle rest i unstarted

    not_own : (q : List ℕ) → IsPrivate asked.graph.edges i q → Kept new → (path : List ℕ) → own.files path ≡ true → q ≢ path
    not_own q private files path mine same = false≢true (sym (lies private.is).1 ∙ (ap own.files same ∙ mine))
      where
        lies : (q ≡ (edge_at asked.graph.edges i).act.depfile) ⊎ (q ≡ (edge_at asked.graph.edges i).act.response_path) → LiesIn own q
        lies (inl is) = subst (λ (p : List ℕ). LiesIn own p) (sym is) (files.own_files.depfiles i command)
        lies (inr is) = subst (λ (p : List ℕ). LiesIn own p) (sym is) (files.own_files.responses i command)

    module _ (q : List ℕ) (private : IsPrivate asked.graph.edges i q) (held : Option (List ℕ)) where
      -- it was written, or removed
      pub holds_written : Writes tells q held now new → HoldsStill tells own asked.graph.edges q held old new
      holds_written writes tell =
          let told = carried.run.history tell in
          let call = writes.history tell in
          private_written own asked.graph.edges old.history told.more now.history new.history told.grows i command q private (IsRunning now.events) others held call.0 call.1

      -- calls that only look keep it
      pub holds_looking : OnlyLooks tells now new → HoldsStill tells own asked.graph.edges q held old now → HoldsStill tells own asked.graph.edges q held old new
      holds_looking looks holds tell =
          let told = carried.run.history tell in
          private_looks own asked.graph.edges old.history told.more now.history new.history told.grows i command q private (IsRunning now.events) others held (looks.history tell) (holds tell)

      -- so do ticks and writes at another path
      pub holds_apart : (path : List ℕ) → (Kept new → path ≢ q) → GrewWriting path → HoldsStill tells own asked.graph.edges q held old now → HoldsStill tells own asked.graph.edges q held old new
      holds_apart path apart grew holds tell files =
          let told = carried.run.history tell in
          let call = grew tell in
          ap content_of (ap (λ (h : List Moment). file_at h q) call.grows
          ∙ file_stays q now.history call.more (at_elsewhere files.free asked.graph.edges (IsRunning now.events) path q (apart files)
          (λ ms all w e. private_elsewhere own asked.graph.edges files.own_files files.free files.free_apart i command q private (IsRunning now.events) others ms all w e) call.more call.all
          (within B format own asked.graph.edges store old now new told.more told.grows files commands call.more call.grows) (edits B format own asked.graph.edges store old now new told.more told.grows files commands call.more call.grows)))
          ∙ holds tell (kept_before own asked.graph.edges old.history now.history new.history call.more call.grows files)

      -- of the program's own files, a log or the one that a tick touches
      pub holds_over_own : (path : List ℕ) → own.files path ≡ true → GrewWriting path → HoldsStill tells own asked.graph.edges q held old now → HoldsStill tells own asked.graph.edges q held old new
      holds_over_own path mine grew holds = holds_apart path (λ files same. not_own q private files path mine (sym same)) grew holds

    -- the response file is written while the depfile holds, where they are two paths
    pub depfile_over_response : (edge_at asked.graph.edges i).act.depfile ≢ [] → (edge_at asked.graph.edges i).act.depfile ≢ (edge_at asked.graph.edges i).act.response_path → (held : Option (List ℕ)) → WritesAt tells (edge_at asked.graph.edges i).act.response_path now new
        → HoldsStill tells own asked.graph.edges (edge_at asked.graph.edges i).act.depfile held old now → HoldsStill tells own asked.graph.edges (edge_at asked.graph.edges i).act.depfile held old new
    depfile_over_response named other held writes holds =
        holds_apart (edge_at asked.graph.edges i).act.depfile (record { named = named; is = inl refl }) held (edge_at asked.graph.edges i).act.response_path
        (λ files same. other (sym same)) writes.history holds

    -- ---- the record of its outputs

    -- its begun record was put behind the others
    pub no_record_begun : (IsTrue tells → Kept new → (records : List Record) × ((store_in format own (view_of new.history)).records ≡ records ++ Begun (outputs (edge_at asked.graph.edges i)) ∷ []))
        → HasNoRecord tells format own asked.graph.edges i old new
    no_record_begun begun tell files o makes =
        let put = begun tell files in
        ap (λ (rs : List Record). in_force rs o) put.1 ∙ begun_none B asked.graph.edges store old put.0 (outputs (edge_at asked.graph.edges i)) o makes

    -- where both logs are as they were
    none_kept : (IsTrue tells → Kept new → (Kept now) × (view_of new.history own.build_log ≡ view_of now.history own.build_log) × (view_of new.history own.deps_log ≡ view_of now.history own.deps_log))
        → HasNoRecord tells format own asked.graph.edges i old now → HasNoRecord tells format own asked.graph.edges i old new
    none_kept same none tell files o makes =
        let was = same tell files in
        ap (λ (s : Store). in_force s.records o) (store_same format own now.history new.history was.1 was.2) ∙ none tell was.0 o makes

    -- calls that only look keep it so
    pub no_record_looking : OnlyLooks tells now new → HasNoRecord tells format own asked.graph.edges i old now → HasNoRecord tells format own asked.graph.edges i old new
    no_record_looking looks none = none_kept (λ tell files.
        let told = carried.run.history tell in
        let call = looks.history tell in (
          kept_before own asked.graph.edges old.history now.history new.history call.more call.grows files,
          looks_stays B format own asked.graph.edges store old now new told.more told.grows files commands tells tell looks own.build_log files.own_files.build_log,
          looks_stays B format own asked.graph.edges store old now new told.more told.grows files commands tells tell looks own.deps_log files.own_files.deps_log,
        )) none

    -- so do ticks and writes at a path that is no log
    pub no_record_apart : (path : List ℕ) → (Kept new → (path ≢ own.build_log) × (path ≢ own.deps_log)) → GrewWriting path
        → HasNoRecord tells format own asked.graph.edges i old now → HasNoRecord tells format own asked.graph.edges i old new
    no_record_apart path apart grew none = none_kept (λ tell files.
        let told = carried.run.history tell in
        let call = grew tell in (
          kept_before own asked.graph.edges old.history now.history new.history call.more call.grows files,
          build_log_stays B format own asked.graph.edges store old now new told.more told.grows files commands path (apart files).0 (apart files).1 call,
          deps_log_stays B format own asked.graph.edges store old now new told.more told.grows files commands path (apart files).0 (apart files).1 call,
        )) none

    pub no_record_over_private : (q : List ℕ) → IsPrivate asked.graph.edges i q → GrewWriting q → HasNoRecord tells format own asked.graph.edges i old now → HasNoRecord tells format own asked.graph.edges i old new
    no_record_over_private q private grew none =
        no_record_apart q (λ files. (not_own q private files own.build_log files.own_files.build_log, not_own q private files own.deps_log files.own_files.deps_log)) grew none

    -- ---- together

    -- calls that only look keep all of it
    pub ready_looking : OnlyLooks tells now new → IsReadyToStart tells format own asked.graph.edges i old now → IsReadyToStart tells format own asked.graph.edges i old new
    ready_looking looks ready = record {
      ticked = tick_kept [] (looks_at tells [] now new looks) ready.ticked;
      depfile = λ named other. holds_looking (edge_at asked.graph.edges i).act.depfile (record { named = named; is = inl refl }) None looks (ready.depfile named other);
      response = λ named. holds_looking (edge_at asked.graph.edges i).act.response_path (record { named = named; is = inr refl }) (Some (edge_at asked.graph.edges i).act.response_content) looks (ready.response named);
      begun = no_record_looking looks ready.begun;
    }
