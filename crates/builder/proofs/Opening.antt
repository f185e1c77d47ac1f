-- What was read of the logs, and what it is known for afterwards.
use Rattle.std.proofs.Common.{◌≡◌, ◌≢◌, ℕ, Bool, List, [], None, refl, sym, ◌∙◌, subst}
use Rattle.model.specs.declared.graph.Edge.{Edge}
use Rattle.model.specs.declared.record.Record.{Record}
use Rattle.model.specs.declared.record.DepsRecord.{DepsRecord}
use Rattle.model.specs.World.{World, view_of, IsIdle}
use Rattle.model.specs.Calls.{OnlyLooks}
use Rattle.model.specs.Outcome.{Behaviour}
use Rattle.model.specs.Records.{LogFormat, OwnFiles, Store, store_in, IsOwnIn, file_in, build_log_name, deps_log_name}
use Rattle.theory.specs.Seen.{IsSeen, Looked, Unrefused}
use Rattle.theory.proofs.SiteCalls.{seen_since, looks_none}
use Rattle.theory.proofs.Looks.{logs_left}
use Rattle.log_text.specs.DepsFormat.{ReadsLogs}
use Rattle.depfile.specs.Depfile.{IsReading}
use Rattle.theory.specs.Logged.{IsLoggedAt}
use Rattle.graph.specs.declared.graph.Graph.{Graph}
use Rattle.graph.specs.Told.{declared_by}
use Rattle.records.specs.declared.records.Records.{Records}
use Rattle.records.specs.Laws.{LogBegins, WereRead}
use Rattle.records.specs.Logging.{IsLogging}
use Rattle.builder.specs.declared.asked.Asked.{Asked as Request}
use Rattle.work.specs.declared.stop.Stop.{Stop}
use Rattle.work.specs.declared.stop.Stop.TheVariants as stop
use Rattle.builder.specs.Build.{asked_of}
use Rattle.work.specs.Standing.{IfFault}
use Rattle.work.specs.Loads.{ReadsDyndeps}
use Rattle.work.specs.Recorded.{HasJoined}
use Rattle.builder.specs.Reports.{HasRead, course_of}
use Rattle.builder.proofs.Builds.{looked_more}
use Rattle.builder.proofs.Looking.{IsFoundAt, left_before}
use Rattle.builder.proofs.Folders.{logs_apart}

-- a fault has its cause since the entry, as no call was refused before
pub cause_since : (entry old new : World) (stop : Stop) → old.failures ≡ entry.failures → IfFault stop (IsSeen old new) → IfFault stop (IsSeen entry new)
cause_since entry old new (stop.Refused refusal) same cause = tt
cause_since entry old new (stop.Fault fault) same cause = seen_since entry old new fault same cause

-- ---- what was read

module _ (law : LogBegins) (tells : Bool) (graph new : Graph) (request : Request) (records : Records) (rs : List Record) (ds : List DepsRecord) (old read : World) (looks : OnlyLooks tells old read) (passed : Unrefused old read)
    (build_log : records.logs.build_log.path ≡ file_in request.folder build_log_name) (deps_log : records.logs.deps_log.path ≡ file_in request.folder deps_log_name)
    (were : WereRead tells old read rs ds records.logs) (joined : HasJoined graph new rs ds records) where
  abbrev store_read : Store
  store_read = record { records = rs; deps = ds }

  pub has_read : (B : Behaviour) (format : LogFormat) (own : OwnFiles) (entry : World) → IsReading B.depfile → ReadsDyndeps B.dyndep → ReadsLogs format → IsOwnIn own request.folder → IsIdle entry.events → Looked tells entry old
      → HasRead tells new request records (course_of B format own (asked_of (declared_by new) request.folder request.limits request.targets) store_read entry) read
  has_read B format own entry depfiles dyndeps reads owned idle looked = record {
    asked = refl;
    reads = depfiles;
    dyndeps = dyndeps;
    owned = owned;
    found = found;
    idle = idle;
    looked = looked_more tells entry old read looked looks passed;
    in_use = joined.in_use store_read refl refl;
    logging = logging;
    known = rs;
    deps = ds;
    told = joined.known;
    store = refl;
  }
    where
      edges : List Edge
      edges = (declared_by new).edges

      build_is : records.logs.build_log.path ≡ own.build_log
      build_is = build_log ∙ sym {A = List ℕ} owned.build_log

      deps_is : records.logs.deps_log.path ≡ own.deps_log
      deps_is = deps_log ∙ sym {A = List ℕ} owned.deps_log

      apart : own.build_log ≢ own.deps_log
      apart same = logs_apart request.folder (sym {A = List ℕ} owned.build_log ∙ (same ∙ owned.deps_log))

      begun : (later : World) → OnlyLooks tells read later
          → IsLogging tells B format own edges [] None (store_in format own (view_of entry.history)) entry later records.logs × IsFoundAt tells format own store_read entry read
      begun later more = law tells B format own edges entry old read later records.logs rs ds idle looked.looks looks more build_is deps_is apart reads were

      found : IsFoundAt tells format own store_read entry read
      found = (begun read (looks_none tells read)).1

      logging : (later : World) → OnlyLooks tells read later → IsLogging tells B format own edges [] None store_read entry later records.logs
      logging later more = of_found later more (begun later more).0
        where
          of_found : (later : World) → OnlyLooks tells read later → IsLogging tells B format own edges [] None (store_in format own (view_of entry.history)) entry later records.logs → IsLogging tells B format own edges [] None store_read entry later records.logs
          of_found later more l = record {
            build_log = l.build_log;
            deps_log = l.deps_log;
            apart = l.apart;
            reads = l.reads;
            commands = l.commands;
            grows = l.grows;
            build_held = l.build_held;
            deps_held = l.deps_held;
            logged = λ tell kept.
                let call = more.history tell in
                subst (λ (s : Store). IsLoggedAt B format own edges [] None s entry later) (sym {A = Store} (found tell (left_before own entry.history read.history later.history call.more call.grows (logs_left own edges entry.history later.history kept)))) (l.logged tell kept);
          }
