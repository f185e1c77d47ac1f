-- What a run carries of its logs: how it begins, and how it goes on over calls that leave the logs alone.
use Rattle.std.proofs.Common.{◌≡◌, ◌⊎◌, inl, inr, ℕ, Bool, true, false, IsTrue, List, [], ◌++◌, Option, Some, None, refl, sym, ◌∙◌, ap, subst, append_assoc}
use Rattle.std.proofs.lemmas.List.{append-nil}
use Rattle.std.proofs.lemmas.Bool.{false≢true}
use Rattle.model.specs.declared.event.Event.{Event}
use Rattle.model.specs.declared.event.Moment.{Moment}
use Rattle.model.specs.declared.graph.Edge.{Edge}
use Rattle.model.specs.declared.record.Record.{Record}
use Rattle.model.specs.declared.record.DepsRecord.{DepsRecord}
use Rattle.model.specs.World.{World, file_at, content_of, view_of, runs, IsIdle}
use Rattle.model.specs.Calls.{OnlyLooks, Sees}
use Rattle.model.specs.Graph.{has_number}
use Rattle.model.specs.Records.{OwnFiles, store_in, read_log, in_force}
use Rattle.model.specs.Schedule.{well_in}
use Rattle.model.specs.Premises.{LogsAreLeft, FilesAreKept}
use Rattle.theory.proofs.Looks.{looks_then, kept_before, looks_keep_file, looks_saw}
use Rattle.theory.proofs.Makers.{one_maker}
use Rattle.log_text.specs.declared.form.Version.{Version}
use Rattle.log_text.specs.declared.form.Version.TheVariants.{Two}
use Rattle.log_text.specs.Form.{Form}
use Rattle.log_text.specs.Text.{IsLogOf}
use Rattle.log_text.specs.Laws.{Reads}
use Rattle.log_text.specs.BuildLog.{Keeps, compaction}
use Rattle.log_text.specs.BuildRecord.{forms as record_forms}
use Rattle.log_text.specs.DepsLog.{Keeps as KeepsDeps, compaction as deps_compaction}
use Rattle.log_text.specs.DepsRecordLine.{forms as deps_forms}
use Rattle.theory.specs.Logged.{KeepsBoth, HasNone, HasNew}
use Rattle.theory.proofs.LoggedCalls.{entry_logged, looks_logged}
use Rattle.records.specs.declared.file.State.{State}
use Rattle.records.specs.declared.file.State.TheVariants.{Usable, Stale}
use Rattle.site.specs.Files.{text_in}
use Rattle.records.specs.Held.{Held, IsReadFrom, WasRead, HoldsStill}
use Rattle.records.specs.Carried.{IsHeldStill}
use Rattle.records.specs.Laws.{LogBegins, LogStays, NoneWhileRunning}
use Rattle.records.proofs.States.{no_log}
use Rattle.records.proofs.Told.{records_told}
use Rattle.records.proofs.Staying.{grew, build_stays, deps_stays}

-- ---- the entry

module _ {R T : Type 0} (forms : Version → Form R) (Keeps : List R → T → Type 0) (compaction : List R → List R) where
  usable_holds : (content : Option (List ℕ)) (rs : List R) → IsLogOf (forms Two) (text_in content) rs → (text : List ℕ) × (all : List R) × (content ≡ Some text) × IsLogOf (forms Two) text all
  usable_holds None rs log = absurd (no_log forms rs log)
  usable_holds (Some text) rs log = (text, rs, refl, log)

  -- what was read is what the file holds
  pub read_holds : (content : Option (List ℕ)) (rs : List R) (file : Held T) → IsReadFrom forms Keeps compaction content rs file → HoldsStill forms Keeps file.state file.log content
  read_holds content rs file read = by_state file.state refl
    where
      by_state : (s : State) → file.state ≡ s → HoldsStill forms Keeps s file.log content
      by_state Usable is = usable_holds content rs (read.state.0 is).0
      by_state Stale is = (rs, read.records, read.keeps)

module _ (tells : Bool) (own : OwnFiles) (edges : List Edge) (first before after now : World)
    (idle : IsIdle first.events) (one : OnlyLooks tells first before) (two : OnlyLooks tells before after) (three : OnlyLooks tells after now) where
  upto : OnlyLooks tells first after
  upto = looks_then tells first before after one two

  pub all_looks : OnlyLooks tells first now
  all_looks = looks_then tells first after now upto three

  module _ (tell : IsTrue tells) (kept : FilesAreKept own edges first.history now.history) where
    abbrev kept_after : FilesAreKept own edges first.history after.history
    kept_after = let call = three.history tell in kept_before own edges first.history after.history now.history call.more call.grows kept

    module _ (path : List ℕ) (mine : own.files path ≡ true) where
      bound : kept.free path ≡ false
      bound = kept.free_apart.set path (kept.own_files.within path mine)

      now_is : view_of now.history path ≡ view_of first.history path
      now_is = ap content_of (looks_keep_file tells own edges first now idle all_looks tell kept.free kept.edits path bound)

      -- what was read of a file of the program's own at some moment is what it held at the entry
      content_is : (content : Option (List ℕ)) → Sees (λ history. content_of (file_at history path)) content before.history after.history → content ≡ view_of first.history path
      content_is content seen = looks_saw tells own edges first before after idle one two tell kept.free kept_after.edits path bound content seen

  is_own : (path : List ℕ) → FilesAreKept own edges first.history now.history → (path ≡ own.build_log) ⊎ (path ≡ own.deps_log) → own.files path ≡ true
  is_own path kept (inl is) = ap own.files is ∙ kept.own_files.build_log
  is_own path kept (inr is) = ap own.files is ∙ kept.own_files.deps_log

  module _ {R T : Type 0} (forms : Version → Form R) (Keeps : List R → T → Type 0) (compaction : List R → List R) (rs : List R) (file : Held T) (read : WasRead forms Keeps compaction tells before after rs file) where
    pub read_held : (file.path ≡ own.build_log) ⊎ (file.path ≡ own.deps_log) → IsHeldStill forms Keeps tells own edges first now file
    read_held log tell kept =
        subst (λ (c : Option (List ℕ)). HoldsStill forms Keeps file.state file.log c)
        (content_is tell kept file.path (is_own file.path kept log) read.content (read.seen tell) ∙ sym (now_is tell kept file.path (is_own file.path kept log)))
        (read_holds forms Keeps compaction read.content rs file read.read)

    -- a log that others left tells what it told at the entry
    pub read_store : (reader : List ℕ → Option (List R)) → Reads forms reader → (path : List ℕ) → file.path ≡ path → (tell : IsTrue tells) (left : LogsAreLeft own first.history after.history) → left.free path ≡ false
        → rs ≡ read_log reader (view_of first.history path)
    read_store reader reads path is tell left bound =
        sym (
        ap (read_log reader)
        (ap (view_of first.history) (sym {A = List ℕ} is)
        ∙ sym (looks_saw tells own edges first before after idle one two tell left.free left.edits file.path (ap left.free is ∙ bound) read.content (read.seen tell)))
        ∙ records_told forms reader reads read.content rs read.read.records
        )

pub log_begins_so : LogBegins
log_begins_so tells B format own edges first before after now logs rs ds idle one two three build deps apart reads read = (
  record {
    build_log = build;
    deps_log = deps;
    apart = apart;
    reads = reads;
    commands = λ job is. absurd (false≢true (sym (idle job) ∙ subst (λ (es : List Event). runs job es ≡ true) all.events is));
    grows = λ tell. let call = all.history tell in (call.more, call.grows);
    build_held = read_held tells own edges first before after now idle one two three record_forms Keeps compaction rs logs.build_log read.build_log (inl build);
    deps_held = read_held tells own edges first before after now idle one two three deps_forms KeepsDeps deps_compaction ds logs.deps_log read.deps_log (inr deps);
    logged = λ tell kept.
        looks_logged B format own edges (store_in format own (view_of first.history)) first first now [] (sym (append-nil first.history)) kept (λ job is. absurd (false≢true (sym (idle job) ∙ is)))
        [] None tells tell all (entry_logged B format own edges first);
  },
  λ tell left.
      ap (λ (l : List Record). record { records = l; deps = ds })
      (read_store tells own edges first before after now idle one two three record_forms Keeps compaction rs logs.build_log read.build_log format.records reads.records own.build_log build tell left left.build_log)
      ∙ ap (λ (l : List DepsRecord). record { records = read_log format.records (view_of first.history own.build_log); deps = l })
      (read_store tells own edges first before after now idle one two three deps_forms KeepsDeps deps_compaction ds logs.deps_log read.deps_log format.deps reads.deps own.deps_log deps tell left left.deps_log),
)
  where
    all : OnlyLooks tells first now
    all = all_looks tells own edges first before after now idle one two three

-- ---- calls that leave the logs alone

pub log_stays_so : LogStays
log_stays_so tells B format own edges steps many hand next entry first now new logs leaves commands logged l = record {
  build_log = l.build_log;
  deps_log = l.deps_log;
  apart = l.apart;
  reads = l.reads;
  commands = commands;
  grows = λ tell.
      let was = l.grows tell in
      let call = grew tells own edges first now new tell leaves in
      (was.0 ++ call.0, call.1 ∙ (ap (λ (h : List Moment). h ++ call.0) was.1 ∙ append_assoc first.history was.0 call.0));
  build_held = λ tell kept.
      subst (λ (c : Option (List ℕ)). HoldsStill record_forms Keeps logs.build_log.state logs.build_log.log c)
      (sym (subst (λ (p : List ℕ). view_of new.history p ≡ view_of now.history p) (sym l.build_log) (build_stays tells own edges first now new l.commands l.grows tell kept commands leaves)))
      (l.build_held tell (kept_now tell kept));
  deps_held = λ tell kept.
      subst (λ (c : Option (List ℕ)). HoldsStill deps_forms KeepsDeps logs.deps_log.state logs.deps_log.log c)
      (sym (subst (λ (p : List ℕ). view_of new.history p ≡ view_of now.history p) (sym l.deps_log) (deps_stays tells own edges first now new l.commands l.grows tell kept commands leaves)))
      (l.deps_held tell (kept_now tell kept));
  logged = logged;
}
  where
    kept_now : IsTrue tells → FilesAreKept own edges first.history new.history → FilesAreKept own edges first.history now.history
    kept_now tell kept = let call = grew tells own edges first now new tell leaves in kept_before own edges first.history now.history new.history call.0 call.1 kept

-- ---- a command that runs

pub none_while_running_so : NoneWhileRunning
none_while_running_so tells B format own edges steps hand entry first now logs i once started not_well l tell kept o makes = by_case ((l.logged tell kept).logged.records o)
  where
    by_case : KeepsBoth edges steps entry (store_in format own (view_of now.history)) o ⊎ HasNone edges steps hand (store_in format own (view_of now.history)) o ⊎ HasNew B edges steps (store_in format own (view_of now.history)) first now o
        → in_force (store_in format own (view_of now.history)).records o ≡ None
    by_case (inl keeps) = absurd (keeps.unstarted i started makes)
    by_case (inr (inl none)) = none.none
    by_case (inr (inr new)) = absurd (false≢true (sym not_well ∙ subst (λ (k : ℕ). has_number (well_in steps) k ≡ true) (one_maker edges o new.edge i once new.makes makes) new.well))
