-- The three records of an edge are put behind the others.
use Rattle.std.proofs.Common.{◌≡◌, ℕ, Bool, true, IsTrue, List, [], ◌∷◌, ◌++◌, Option, Some, None, refl, sym, ◌∙◌, ap, append_assoc}
use Rattle.model.specs.declared.event.Event.TheVariants.{Finish}
use Rattle.model.specs.declared.event.Moment.{Moment}
use Rattle.model.specs.declared.event.Moment.TheVariants.{Happened}
use Rattle.model.specs.declared.graph.Edge.{Edge}
use Rattle.model.specs.declared.record.Record.{Record}
use Rattle.model.specs.declared.record.Record.TheVariants.{Begun, Done as DoneRecord}
use Rattle.model.specs.declared.record.DepsRecord.{DepsRecord}
use Rattle.model.specs.World.{World, view_of}
use Rattle.model.specs.Graph.{edge_at, outputs, IsMadeOnce}
use Rattle.model.specs.Outcome.{Behaviour}
use Rattle.model.specs.Records.{OwnFiles, LogFormat, Store, in_force, deps_in_force}
use Rattle.model.specs.Schedule.{Step}
use Rattle.model.specs.Premises.{FilesAreKept, EndedAt}
use Rattle.model.specs.Kept.{StartedUnder}
use Rattle.log_text.specs.declared.done.Done.{Done}
use Rattle.log_text.specs.Kept.{Table}
use Rattle.log_text.specs.BuildLog.{Keeps}
use Rattle.log_text.specs.BuildRecord.{forms}
use Rattle.log_text.specs.declared.deps.Deps.{Deps}
use Rattle.log_text.specs.DepsLog.{Keeps as KeepsDeps}
use Rattle.log_text.specs.DepsRecordLine.{forms as deps_forms}
use Rattle.theory.specs.Logged.{IsLogged}
use Rattle.theory.specs.Writes.{WritesAt}
use Rattle.theory.proofs.Growing as growing
use Rattle.records.specs.declared.logs.Logs.{Logs}
use Rattle.records.specs.Held.{Held, TellsMore, MayTellMore}
use Rattle.records.specs.Carried.{WhereKept, IsCarriedLog}
use Rattle.records.specs.Logging.{IsLogging, IsLoggedStill, NoneInForce, IsReported, MayReport, EndedWell, deps_of}
use Rattle.records.proofs.Putting.{before, kept_now, new_records, build_more, build_may, new_deps, deps_more, deps_may, build_put, deps_put}

module _ (tells : Bool) (B : Behaviour) (format : LogFormat) (own : OwnFiles) (edges : List Edge) (steps : List Step) (i : ℕ) (entry : Store) (first now new : World) (logs : Logs)
    (l : IsLogging tells B format own edges steps (Some i) entry first now logs) where
  abbrev so_far : Store
  so_far = before tells B format own edges steps (Some i) entry first now new logs l

  started_later : (stamp : ℕ) (path : List ℕ) → WritesAt tells path now new → StartedUnder i stamp first now → StartedUnder i stamp first new
  started_later stamp path writes started = record { act = started.act; before = started.before; after = started.after; splits = writes.events ∙ started.splits }

  abbrev WasPut : (r : Record) → Type 0
  WasPut r = WhereKept tells own edges first new (TellsMore forms in_force (Some r) (view_of now.history logs.build_log.path) (view_of new.history logs.build_log.path))

  abbrev MayBePut : (r : Record) → Type 0
  MayBePut r = WhereKept tells own edges first new (MayTellMore forms in_force r (view_of now.history logs.build_log.path) (view_of new.history logs.build_log.path))

  module _ (once : IsMadeOnce edges) (writes : WritesAt tells logs.build_log.path now new) where
    begun_on : (rs : List Record) → IsLogged B edges steps (Some i) entry (record { records = rs; deps = so_far.deps }) first new
        → IsLogged B edges steps (Some i) entry (record { records = rs ++ Begun (outputs (edge_at edges i)) ∷ []; deps = so_far.deps }) first new
    begun_on rs logged = growing.logged_begun B edges entry first steps (record { records = rs; deps = so_far.deps }) new i once logged

    pub begun_ok : (later : Held (Table Done)) → later.path ≡ logs.build_log.path → IsCarriedLog forms Keeps tells own edges first new later → WasPut (Begun (outputs (edge_at edges i)))
        → IsLogging tells B format own edges steps (Some i) entry first new (record { build_log = later; deps_log = logs.deps_log }) × NoneInForce tells format own edges i first new
    begun_ok later path carried put = (
      build_put tells B format own edges steps (Some i) entry first now new logs l (Some i) later path writes carried
          (λ tell kept. build_more tells B format own edges steps (Some i) entry first now new logs l tell kept writes (Some (Begun (outputs (edge_at edges i)))) (put tell kept) (Some i) (begun_on (put tell kept).new)),
      λ tell kept o makes.
          ap (λ (rs : List Record). in_force rs o) (new_records tells B format own edges steps (Some i) entry first now new logs l tell kept writes (Some (Begun (outputs (edge_at edges i)))) (put tell kept))
          ∙ growing.begun_none B edges entry first (put tell kept).new (outputs (edge_at edges i)) o makes,
    )

    pub begun_err : MayBePut (Begun (outputs (edge_at edges i))) → IsLoggedStill tells B format own edges steps (Some i) entry first new
    begun_err may tell kept = build_may tells B format own edges steps (Some i) entry first now new logs l tell kept writes (Begun (outputs (edge_at edges i))) begun_on (may tell kept)

  module _ (writes : WritesAt tells logs.build_log.path now new) (stamp : ℕ) (ended : EndedWell tells B format own edges steps i stamp first now) where
    abbrev done : Record
    done = DoneRecord (outputs (edge_at edges i)) stamp (edge_at edges i).act

    ended_later : (tell : IsTrue tells) → EndedAt i first.history new.history (ended.ended tell).0
    ended_later tell =
        let call = writes.history tell in
        let at = (ended.ended tell).1 in
        record {
          before = at.before;
          after = at.after ++ call.more;
          is = at.is;
          splits = call.grows
              ∙ (ap (λ (h : List Moment). h ++ call.more) at.splits
              ∙ (append_assoc first.history (at.before ++ Happened (Finish i true) ∷ at.after) call.more
              ∙ ap (λ (h : List Moment). first.history ++ h) (append_assoc at.before (Happened (Finish i true) ∷ at.after) call.more)));
        }

    done_on : (tell : IsTrue tells) → FilesAreKept own edges first.history new.history → (rs : List Record) → IsLogged B edges steps (Some i) entry (record { records = rs; deps = so_far.deps }) first new
        → IsLogged B edges steps None entry (record { records = rs ++ DoneRecord (outputs (edge_at edges i)) stamp (edge_at edges i).act ∷ []; deps = so_far.deps }) first new
    done_on tell kept rs logged =
        growing.logged_done B edges entry first steps (record { records = rs; deps = so_far.deps }) new i stamp (ended.ended tell).0 ended.well (started_later stamp logs.build_log.path writes ended.started) (ended_later tell)
        (λ some o makes. ended.told some tell (kept_now tells B format own edges steps (Some i) entry first now new logs l tell kept logs.build_log.path writes) o makes) logged

    pub done_ok : (later : Held (Table Done)) → later.path ≡ logs.build_log.path → IsCarriedLog forms Keeps tells own edges first new later → WasPut done
        → IsLogging tells B format own edges steps None entry first new (record { build_log = later; deps_log = logs.deps_log })
    done_ok later path carried put =
        build_put tells B format own edges steps (Some i) entry first now new logs l None later path writes carried
        (λ tell kept. build_more tells B format own edges steps (Some i) entry first now new logs l tell kept writes (Some done) (put tell kept) None (done_on tell kept (put tell kept).new))

    pub done_err : MayBePut done → IsLoggedStill tells B format own edges steps (Some i) entry first new
    done_err may tell kept =
        build_may tells B format own edges steps (Some i) entry first now new logs l tell kept writes done
        (λ rs logged. growing.logged_hand B edges entry first steps (record { records = rs ++ done ∷ []; deps = so_far.deps }) new i (done_on tell kept rs logged)) (may tell kept)

  module _ (writes : WritesAt tells logs.deps_log.path now new) (stamp : ℕ) (paths : List (List ℕ)) (report : MayReport tells format own edges steps i stamp first now) where
    deps_on : (tell : IsTrue tells) → FilesAreKept own edges first.history new.history → (ds : List DepsRecord) → IsLogged B edges steps (Some i) entry (record { records = so_far.records; deps = ds }) first new
        → IsLogged B edges steps (Some i) entry (record { records = so_far.records; deps = ds ++ deps_of edges i stamp paths ∷ [] }) first new
    deps_on tell kept ds logged =
        growing.logged_deps B edges entry first steps (Some i) (record { records = so_far.records; deps = ds }) new i (deps_of edges i stamp paths) refl report.depfile (started_later stamp logs.deps_log.path writes report.under) report.started
        (report.none tell (kept_now tells B format own edges steps (Some i) entry first now new logs l tell kept logs.deps_log.path writes)) logged

    pub report_ok : (later : Held (Table Deps)) → later.path ≡ logs.deps_log.path → IsCarriedLog deps_forms KeepsDeps tells own edges first new later
        → WhereKept tells own edges first new (TellsMore deps_forms deps_in_force (Some (deps_of edges i stamp paths)) (view_of now.history logs.deps_log.path) (view_of new.history logs.deps_log.path))
        → IsLogging tells B format own edges steps (Some i) entry first new (record { build_log = logs.build_log; deps_log = later }) × IsReported tells format own edges i stamp paths first new
    report_ok later path carried put = (
      deps_put tells B format own edges steps (Some i) entry first now new logs l (Some i) later path writes carried
          (λ tell kept. deps_more tells B format own edges steps (Some i) entry first now new logs l tell kept writes (Some (deps_of edges i stamp paths)) (put tell kept) (Some i) (deps_on tell kept (put tell kept).new)),
      λ tell kept o makes.
          ap (λ (ds : List DepsRecord). deps_in_force ds o) (new_deps tells B format own edges steps (Some i) entry first now new logs l tell kept writes (Some (deps_of edges i stamp paths)) (put tell kept))
          ∙ growing.deps_last B edges entry first (put tell kept).new (deps_of edges i stamp paths) o makes,
    )

    pub report_err : WhereKept tells own edges first new (MayTellMore deps_forms deps_in_force (deps_of edges i stamp paths) (view_of now.history logs.deps_log.path) (view_of new.history logs.deps_log.path))
        → IsLoggedStill tells B format own edges steps (Some i) entry first new
    report_err may tell kept = deps_may tells B format own edges steps (Some i) entry first now new logs l tell kept writes (deps_of edges i stamp paths) (deps_on tell kept) (may tell kept)
