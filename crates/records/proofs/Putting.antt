-- What the logs tell goes on where the file of one of them was written.
use Rattle.std.proofs.Common.{◌≡◌, ◌≢◌, inl, inr, ℕ, Bool, true, IsTrue, List, [], ◌∷◌, ◌++◌, Option, Some, None, refl, sym, ◌∙◌, ap, subst}
use Rattle.model.specs.declared.event.Moment.{Moment}
use Rattle.model.specs.declared.graph.Edge.{Edge}
use Rattle.model.specs.declared.record.Record.{Record}
use Rattle.model.specs.declared.record.DepsRecord.{DepsRecord}
use Rattle.model.specs.World.{World, view_of}
use Rattle.model.specs.Outcome.{Behaviour}
use Rattle.model.specs.Records.{OwnFiles, LogFormat, Store, store_in, read_log, in_force, deps_in_force}
use Rattle.model.specs.Schedule.{Step}
use Rattle.model.specs.Premises.{FilesAreKept}
use Rattle.theory.proofs.Looks.{kept_before}
use Rattle.log_text.specs.declared.done.Done.{Done}
use Rattle.log_text.specs.Kept.{Table}
use Rattle.log_text.specs.BuildLog.{Keeps}
use Rattle.log_text.specs.BuildRecord.{forms}
use Rattle.log_text.specs.declared.deps.Deps.{Deps}
use Rattle.log_text.specs.DepsLog.{Keeps as KeepsDeps}
use Rattle.log_text.specs.DepsRecordLine.{forms as deps_forms}
use Rattle.theory.specs.Logged.{IsLogged, IsLoggedAt}
use Rattle.theory.specs.Writes.{WritesAt}
use Rattle.theory.proofs.LoggedCalls.{same_logs}
use Rattle.theory.proofs.Growing as growing
use Rattle.records.specs.declared.logs.Logs.{Logs}
use Rattle.records.specs.Held.{Held, AreRecordsIn, HoldsStill, behind, TellsMore, MayTellMore}
use Rattle.records.specs.Carried.{WhereKept, IsCarriedLog}
use Rattle.records.specs.Logging.{IsLogging, IsLoggedStill}
use Rattle.records.proofs.Told.{text_told, records_told}
use Rattle.records.proofs.Staying.{other_stays}

same_text : (a b : List ℕ) → Some a ≡ Some b → a ≡ b
same_text a b is = cc

read_some : {R : Type 0} (reader : List ℕ → Option (List R)) (held : Option (List ℕ)) (text : List ℕ) (rs : List R) → held ≡ Some text → reader text ≡ Some rs → read_log reader held ≡ rs
read_some reader held text rs holds told = ap (λ (h : Option (List ℕ)). read_log reader h) holds ∙ rw (told, read_log) refl

module _ (tells : Bool) (B : Behaviour) (format : LogFormat) (own : OwnFiles) (edges : List Edge) (steps : List Step) (hand : Option ℕ) (entry : Store) (first now new : World) (logs : Logs)
    (l : IsLogging tells B format own edges steps hand entry first now logs) where
  abbrev pub before : Store
  before = store_in format own (view_of now.history)

  -- the files of the logs, each by itself
  pub build_carried : IsCarriedLog forms Keeps tells own edges first now logs.build_log
  build_carried = record { path = inl l.build_log; commands = l.commands; grows = l.grows; held = l.build_held }

  pub deps_carried : IsCarriedLog deps_forms KeepsDeps tells own edges first now logs.deps_log
  deps_carried = record { path = inr l.deps_log; commands = l.commands; grows = l.grows; held = l.deps_held }

  module _ (tell : IsTrue tells) (kept : FilesAreKept own edges first.history new.history) where
    logged_now : (ms : List Moment) → new.history ≡ now.history ++ ms → IsLoggedAt B format own edges steps hand entry first now
    logged_now ms grows = l.logged tell (kept_before own edges first.history now.history new.history ms grows kept)

    pub kept_now : (path : List ℕ) → WritesAt tells path now new → FilesAreKept own edges first.history now.history
    kept_now path writes = let call = writes.history tell in kept_before own edges first.history now.history new.history call.more call.grows kept

    quiet : (path : List ℕ) → WritesAt tells path now new → IsLogged B edges steps hand entry before first new
    quiet path writes = let call = writes.history tell in growing.logged_quiet B edges entry first steps hand before now new writes.events call.more call.grows (logged_now call.more call.grows).logged

    same_both : (path : List ℕ) → WritesAt tells path now new → view_of new.history own.build_log ≡ view_of now.history own.build_log → view_of new.history own.deps_log ≡ view_of now.history own.deps_log → IsLoggedAt B format own edges steps hand entry first new
    same_both path writes a b =
        let call = writes.history tell in
        same_logs B format own edges entry first now new (l.grows tell).0 (l.grows tell).1 kept l.commands steps hand a b (logged_now call.more call.grows).readable (quiet path writes)

    -- ---- the build log was written

    module _ (writes : WritesAt tells logs.build_log.path now new) where
      pub deps_same : view_of new.history own.deps_log ≡ view_of now.history own.deps_log
      deps_same = other_stays tells own edges first now new l.commands l.grows tell kept own.deps_log kept.own_files.deps_log logs.build_log.path (λ is. l.apart (sym l.build_log ∙ is)) (writes.history tell)

      module _ (added : Option Record) (m : TellsMore forms in_force added (view_of now.history logs.build_log.path) (view_of new.history logs.build_log.path)) where
        holds : view_of new.history own.build_log ≡ Some m.text
        holds = ap (λ (p : List ℕ). view_of new.history p) (sym l.build_log) ∙ m.holds

        told : format.records m.text ≡ Some (behind m.new added)
        told = text_told forms format.records l.reads.records m.text (behind m.new added) m.told

        pub new_records : (store_in format own (view_of new.history)).records ≡ behind m.new added
        new_records = read_some format.records (view_of new.history own.build_log) m.text (behind m.new added) holds told

        old_records : before.records ≡ m.old
        old_records = records_told forms format.records l.reads.records (view_of now.history own.build_log) m.old (subst (λ (p : List ℕ). AreRecordsIn forms (view_of now.history p) m.old) l.build_log m.was)

        told_anew : IsLogged B edges steps hand entry (record { records = m.new; deps = before.deps }) first new
        told_anew = growing.logged_same B edges entry first steps hand before (record { records = m.new; deps = before.deps }) new
            (λ o. (m.same o ∙ ap (λ (rs : List Record). in_force rs o) (sym old_records), refl)) (quiet logs.build_log.path writes)

        store_is : store_in format own (view_of new.history) ≡ record { records = behind m.new added; deps = before.deps }
        store_is =
            ap (λ (rs : List Record). record { records = rs; deps = read_log format.deps (view_of new.history own.deps_log) }) new_records
            ∙ ap (λ (held : Option (List ℕ)). record { records = behind m.new added; deps = read_log format.deps held }) deps_same

        pub build_more : (next : Option ℕ) → (IsLogged B edges steps hand entry (record { records = m.new; deps = before.deps }) first new → IsLogged B edges steps next entry (record { records = behind m.new added; deps = before.deps }) first new)
            → IsLoggedAt B format own edges steps next entry first new
        build_more next on = record {
          readable = λ was_so. record {
            build_log = λ c is. (behind m.new added, ap format.records (same_text c m.text (sym is ∙ holds)) ∙ told);
            deps_log = λ c is. let call = writes.history tell in ((logged_now call.more call.grows).readable was_so).deps_log c (sym deps_same ∙ is);
          };
          logged = subst (λ (s : Store). IsLogged B edges steps next entry s first new) (sym store_is) (on told_anew);
        }

      pub build_may : (r : Record) → ((rs : List Record) → IsLogged B edges steps hand entry (record { records = rs; deps = before.deps }) first new → IsLogged B edges steps hand entry (record { records = rs ++ r ∷ []; deps = before.deps }) first new)
          → MayTellMore forms in_force r (view_of now.history logs.build_log.path) (view_of new.history logs.build_log.path) → IsLoggedAt B format own edges steps hand entry first new
      build_may r on (inl (inl same)) =
          same_both logs.build_log.path writes (subst (λ (p : List ℕ). view_of new.history p ≡ view_of now.history p) l.build_log same) deps_same
      build_may r on (inl (inr more)) = build_more None more hand (λ is. is)
      build_may r on (inr more) = build_more (Some r) more hand (on more.new)

    -- ---- the deps log was written

    module _ (writes : WritesAt tells logs.deps_log.path now new) where
      pub build_same : view_of new.history own.build_log ≡ view_of now.history own.build_log
      build_same = other_stays tells own edges first now new l.commands l.grows tell kept own.build_log kept.own_files.build_log logs.deps_log.path (λ is. l.apart (sym is ∙ l.deps_log)) (writes.history tell)

      module _ (added : Option DepsRecord) (m : TellsMore deps_forms deps_in_force added (view_of now.history logs.deps_log.path) (view_of new.history logs.deps_log.path)) where
        deps_holds : view_of new.history own.deps_log ≡ Some m.text
        deps_holds = ap (λ (p : List ℕ). view_of new.history p) (sym l.deps_log) ∙ m.holds

        deps_told : format.deps m.text ≡ Some (behind m.new added)
        deps_told = text_told deps_forms format.deps l.reads.deps m.text (behind m.new added) m.told

        pub new_deps : (store_in format own (view_of new.history)).deps ≡ behind m.new added
        new_deps = read_some format.deps (view_of new.history own.deps_log) m.text (behind m.new added) deps_holds deps_told

        old_deps : before.deps ≡ m.old
        old_deps = records_told deps_forms format.deps l.reads.deps (view_of now.history own.deps_log) m.old (subst (λ (p : List ℕ). AreRecordsIn deps_forms (view_of now.history p) m.old) l.deps_log m.was)

        deps_anew : IsLogged B edges steps hand entry (record { records = before.records; deps = m.new }) first new
        deps_anew = growing.logged_same B edges entry first steps hand before (record { records = before.records; deps = m.new }) new
            (λ o. (refl, m.same o ∙ ap (λ (ds : List DepsRecord). deps_in_force ds o) (sym old_deps))) (quiet logs.deps_log.path writes)

        deps_store_is : store_in format own (view_of new.history) ≡ record { records = before.records; deps = behind m.new added }
        deps_store_is =
            ap (λ (ds : List DepsRecord). record { records = read_log format.records (view_of new.history own.build_log); deps = ds }) new_deps
            ∙ ap (λ (held : Option (List ℕ)). record { records = read_log format.records held; deps = behind m.new added }) build_same

        pub deps_more : (next : Option ℕ) → (IsLogged B edges steps hand entry (record { records = before.records; deps = m.new }) first new → IsLogged B edges steps next entry (record { records = before.records; deps = behind m.new added }) first new)
            → IsLoggedAt B format own edges steps next entry first new
        deps_more next on = record {
          readable = λ was_so. record {
            build_log = λ c is. let call = writes.history tell in ((logged_now call.more call.grows).readable was_so).build_log c (sym build_same ∙ is);
            deps_log = λ c is. (behind m.new added, ap format.deps (same_text c m.text (sym is ∙ deps_holds)) ∙ deps_told);
          };
          logged = subst (λ (s : Store). IsLogged B edges steps next entry s first new) (sym deps_store_is) (on deps_anew);
        }

      pub deps_may : (r : DepsRecord) → ((ds : List DepsRecord) → IsLogged B edges steps hand entry (record { records = before.records; deps = ds }) first new → IsLogged B edges steps hand entry (record { records = before.records; deps = ds ++ r ∷ [] }) first new)
          → MayTellMore deps_forms deps_in_force r (view_of now.history logs.deps_log.path) (view_of new.history logs.deps_log.path) → IsLoggedAt B format own edges steps hand entry first new
      deps_may r on (inl (inl same)) =
          same_both logs.deps_log.path writes build_same (subst (λ (p : List ℕ). view_of new.history p ≡ view_of now.history p) l.deps_log same)
      deps_may r on (inl (inr more)) = deps_more None more hand (λ is. is)
      deps_may r on (inr more) = deps_more (Some r) more hand (on more.new)

  -- ---- what the run carries behind such a write

  pub build_put : (next : Option ℕ) (later : Held (Table Done)) → later.path ≡ logs.build_log.path → WritesAt tells logs.build_log.path now new → IsCarriedLog forms Keeps tells own edges first new later → IsLoggedStill tells B format own edges steps next entry first new
      → IsLogging tells B format own edges steps next entry first new (record { build_log = later; deps_log = logs.deps_log })
  build_put next later path writes carried logged = record {
    build_log = path ∙ l.build_log;
    deps_log = l.deps_log;
    apart = l.apart;
    reads = l.reads;
    commands = carried.commands;
    grows = carried.grows;
    build_held = carried.held;
    deps_held = λ tell kept. subst (λ (c : Option (List ℕ)). HoldsStill deps_forms KeepsDeps logs.deps_log.state logs.deps_log.log c)
        (sym (subst (λ (p : List ℕ). view_of new.history p ≡ view_of now.history p) (sym l.deps_log) (deps_same tell kept writes))) (l.deps_held tell (kept_now tell kept logs.build_log.path writes));
    logged = logged;
  }

  pub deps_put : (next : Option ℕ) (later : Held (Table Deps)) → later.path ≡ logs.deps_log.path → WritesAt tells logs.deps_log.path now new → IsCarriedLog deps_forms KeepsDeps tells own edges first new later → IsLoggedStill tells B format own edges steps next entry first new
      → IsLogging tells B format own edges steps next entry first new (record { build_log = logs.build_log; deps_log = later })
  deps_put next later path writes carried logged = record {
    build_log = l.build_log;
    deps_log = path ∙ l.deps_log;
    apart = l.apart;
    reads = l.reads;
    commands = carried.commands;
    grows = carried.grows;
    build_held = λ tell kept. subst (λ (c : Option (List ℕ)). HoldsStill forms Keeps logs.build_log.state logs.build_log.log c)
        (sym (subst (λ (p : List ℕ). view_of new.history p ≡ view_of now.history p) (sym l.build_log) (build_same tell kept writes))) (l.build_held tell (kept_now tell kept logs.deps_log.path writes));
    deps_held = carried.held;
    logged = logged;
  }
