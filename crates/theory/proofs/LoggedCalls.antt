-- Calls of the site keep what the logs tell, or put a record behind the others.
use Rattle.std.proofs.Common.{◌≡◌, ◌≢◌, ℕ, Bool, true, IsTrue, List, [], ◌∷◌, ◌++◌, Option, Some, None, bytes_eq, refl, sym, ◌∙◌, ap, subst}
use Rattle.std.specs.List.{AllByRecursion}
use Rattle.std.proofs.lemmas.Bool.{false_from_ne_true}
use Rattle.model.specs.declared.act.Act.{Act}
use Rattle.model.specs.declared.event.Event.{Event}
use Rattle.model.specs.declared.event.Event.TheVariants.{Start, Finish}
use Rattle.model.specs.declared.event.Moment.{Moment}
use Rattle.model.specs.declared.event.Moment.TheVariants.{Wrote, Happened}
use Rattle.model.specs.declared.event.Writer.TheVariants.{Program}
use Rattle.model.specs.declared.graph.Edge.{Edge}
use Rattle.model.specs.declared.record.Record.{Record}
use Rattle.model.specs.declared.record.DepsRecord.{DepsRecord}
use Rattle.model.specs.World.{World, file_at, written, content_of, view_of, runs, IsRunning}
use Rattle.model.specs.Calls.{AllByOthers, OthersWrote, Adds, OnlyLooks, content_or_empty, Ticks, Starts, Finishes}
use Rattle.model.specs.Graph.{has, has_number, edge_at, outputs, IsCommand}
use Rattle.model.specs.Outcome.{Behaviour}
use Rattle.model.specs.Records.{OwnFiles, LogFormat, Store, read_log, store_in, in_force}
use Rattle.model.specs.Schedule.{Step, Started, well_in}
use Rattle.model.specs.Premises.{OwnFilesApart, FreeApart, FilesAreKept, IsWithinEdge, IsNoEdit}
use Rattle.model.specs.Faithful.{IsReadable}
use Rattle.theory.proofs.Lists.{all_append, all_parts, same_bytes}
use Rattle.theory.proofs.Files.{IsElsewhere, file_stays, others_elsewhere, write_stands}
use Rattle.theory.proofs.Starting.{since}
use Rattle.theory.specs.Logged.{IsLogged, IsLoggedAt, AreReadable}
use Rattle.theory.proofs.Less.{store_same, readable_same}
use Rattle.theory.proofs.Edits.{log_apart}
use Rattle.theory.proofs.Growing as growing

-- ---- a log, while others write

module _ (own : OwnFiles) (edges : List Edge) (apart : OwnFilesApart own edges) (free : List ℕ → Bool) (free_apart : FreeApart free own edges) (log : List ℕ) (mine : own.files log ≡ true) where
  pub log_elsewhere : (running : ℕ → Type 0) → ((job : ℕ) → running job → IsCommand edges job) → (ms : List Moment) → AllByOthers running ms → AllByRecursion (IsWithinEdge free edges) ms → AllByRecursion (IsNoEdit free) ms → AllByRecursion (IsElsewhere log) ms
  log_elsewhere running commands ms all within edits =
      others_elsewhere free edges running log (free_apart.set log (apart.within log mine)) (λ job is makes. (log_apart own edges log apart mine job (commands job is)).0 makes) (λ job is same. (log_apart own edges log apart mine job (commands job is)).1 same) ms all within edits

  -- where one moment between them is elsewhere too, the log stays
  pub log_stays_at : (before after : ℕ → Type 0) → ((job : ℕ) → before job → IsCommand edges job) → ((job : ℕ) → after job → IsCommand edges job) → (m : Moment) (old new : List Moment) → IsElsewhere log m
      → (adds : Adds before after m old new) → AllByRecursion (IsWithinEdge free edges) (adds.earlier ++ m ∷ adds.later) → AllByRecursion (IsNoEdit free) (adds.earlier ++ m ∷ adds.later) → file_at new log ≡ file_at old log
  log_stays_at before after first last m old new other adds within edits =
      let w = all_parts (IsWithinEdge free edges) adds.earlier (m ∷ adds.later) within in
      let e = all_parts (IsNoEdit free) adds.earlier (m ∷ adds.later) edits in
      ap (λ (h : List Moment). file_at h log) adds.grows
      ∙ file_stays log old (adds.earlier ++ m ∷ adds.later) (all_append (IsElsewhere log) adds.earlier (m ∷ adds.later)
      (log_elsewhere before first adds.earlier adds.all_earlier w.0 e.0) (other, log_elsewhere after last adds.later adds.all_later w.1.1 e.1.1))

  -- where it is a write of the log, the log has that content
  pub log_written_at : (running : ℕ → Type 0) → ((job : ℕ) → running job → IsCommand edges job) → (content : Option (List ℕ)) (stamp : ℕ) (old new : List Moment)
      → (adds : Adds running running (Wrote Program log content stamp) old new) → AllByRecursion (IsWithinEdge free edges) (adds.earlier ++ Wrote Program log content stamp ∷ adds.later) → AllByRecursion (IsNoEdit free) (adds.earlier ++ Wrote Program log content stamp ∷ adds.later)
      → file_at new log ≡ written content stamp
  log_written_at running commands content stamp old new adds within edits =
      let w = all_parts (IsWithinEdge free edges) adds.earlier (Wrote Program log content stamp ∷ adds.later) within in
      let e = all_parts (IsNoEdit free) adds.earlier (Wrote Program log content stamp ∷ adds.later) edits in
      write_stands log Program content stamp old adds.earlier adds.later new adds.grows (log_elsewhere running commands adds.later adds.all_later w.1.1 e.1.1)

-- ---- calls

-- at the entry
pub entry_logged : (B : Behaviour) (format : LogFormat) (own : OwnFiles) (edges : List Edge) (old : World) → IsLoggedAt B format own edges [] None (store_in format own (view_of old.history)) old old
entry_logged B format own edges old = record { readable = λ was_so. was_so; logged = growing.logged_nothing B edges (store_in format own (view_of old.history)) old }

module _ (B : Behaviour) (format : LogFormat) (own : OwnFiles) (edges : List Edge) (entry : Store) (old now new : World) (so_far : List Moment) (was : now.history ≡ old.history ++ so_far)
    (kept : FilesAreKept own edges old.history new.history) (commands : (job : ℕ) → runs job now.events ≡ true → IsCommand edges job) where
  pub within : (ms : List Moment) → new.history ≡ now.history ++ ms → AllByRecursion (IsWithinEdge kept.free edges) ms
  within ms grows = since (IsWithinEdge kept.free edges) old.history so_far now.history ms new.history was grows kept.commands

  pub edits : (ms : List Moment) → new.history ≡ now.history ++ ms → AllByRecursion (IsNoEdit kept.free) ms
  edits ms grows = since (IsNoEdit kept.free) old.history so_far now.history ms new.history was grows kept.edits

  -- where both logs are as they were, they tell the same
  pub same_logs : (steps : List Step) (hand : Option ℕ) → view_of new.history own.build_log ≡ view_of now.history own.build_log → view_of new.history own.deps_log ≡ view_of now.history own.deps_log
      → (AreReadable format own old.history → AreReadable format own now.history) → IsLogged B edges steps hand entry (store_in format own (view_of now.history)) old new → IsLoggedAt B format own edges steps hand entry old new
  same_logs steps hand a b readable logged = record {
    readable = λ was_so. readable_same format own now.history new.history a b (readable was_so);
    logged = subst (λ (s : Store). IsLogged B edges steps hand entry s old new) (sym (store_same format own now.history new.history a b)) logged;
  }

  -- a call that only looks
  module _ (tells : Bool) (tell : IsTrue tells) (looks : OnlyLooks tells now new) where
    call : OthersWrote (IsRunning now.events) now.history new.history
    call = looks.history tell

    pub looks_stays : (log : List ℕ) → own.files log ≡ true → view_of new.history log ≡ view_of now.history log
    looks_stays log mine = ap content_of (ap (λ (h : List Moment). file_at h log) call.grows
        ∙ file_stays log now.history call.more (log_elsewhere own edges kept.own_files kept.free kept.free_apart log mine (IsRunning now.events) commands call.more call.all (within call.more call.grows) (edits call.more call.grows)))

  pub looks_logged : (steps : List Step) (hand : Option ℕ) (tells : Bool) → IsTrue tells → OnlyLooks tells now new → IsLoggedAt B format own edges steps hand entry old now → IsLoggedAt B format own edges steps hand entry old new
  looks_logged steps hand tells tell looks logged =
      let call = looks.history tell in
      same_logs steps hand (looks_stays tells tell looks own.build_log kept.own_files.build_log) (looks_stays tells tell looks own.deps_log kept.own_files.deps_log) logged.readable
      (growing.logged_quiet B edges entry old steps hand (store_in format own (view_of now.history)) now new looks.events call.more call.grows logged.logged)

  -- a call of one own moment that is no write of a log: a write of another file, a start or an end
  module _ (m : Moment) (adds : Adds (IsRunning now.events) (IsRunning new.events) m now.history new.history) (after : (job : ℕ) → runs job new.events ≡ true → IsCommand edges job)
      (no_build_log : IsElsewhere own.build_log m) (no_deps_log : IsElsewhere own.deps_log m) where
    pub build_log_stays : view_of new.history own.build_log ≡ view_of now.history own.build_log
    build_log_stays = ap content_of (log_stays_at own edges kept.own_files kept.free kept.free_apart own.build_log kept.own_files.build_log (IsRunning now.events) (IsRunning new.events) commands after m now.history new.history no_build_log adds
        (within (adds.earlier ++ m ∷ adds.later) adds.grows) (edits (adds.earlier ++ m ∷ adds.later) adds.grows))

    pub deps_log_stays : view_of new.history own.deps_log ≡ view_of now.history own.deps_log
    deps_log_stays = ap content_of (log_stays_at own edges kept.own_files kept.free kept.free_apart own.deps_log kept.own_files.deps_log (IsRunning now.events) (IsRunning new.events) commands after m now.history new.history no_deps_log adds
        (within (adds.earlier ++ m ∷ adds.later) adds.grows) (edits (adds.earlier ++ m ∷ adds.later) adds.grows))

    -- a write of another file: a tick, a depfile that is removed, a response file
    pub write_logged : (steps : List Step) (hand : Option ℕ) → new.events ≡ now.events → IsLoggedAt B format own edges steps hand entry old now → IsLoggedAt B format own edges steps hand entry old new
    write_logged steps hand events logged = same_logs steps hand build_log_stays deps_log_stays logged.readable
        (growing.logged_quiet B edges entry old steps hand (store_in format own (view_of now.history)) now new events (adds.earlier ++ m ∷ adds.later) adds.grows logged.logged)

  -- a tick of a file that is no log
  pub tick_logged : (steps : List Step) (hand : Option ℕ) (tells : Bool) → IsTrue tells → (path : List ℕ) (stamp : ℕ) → path ≢ own.build_log → path ≢ own.deps_log → Ticks tells path stamp now new
      → IsLoggedAt B format own edges steps hand entry old now → IsLoggedAt B format own edges steps hand entry old new
  tick_logged steps hand tells tell path stamp no_build_log no_deps_log ticks logged =
      let touch = ticks.history tell in
      write_logged (Wrote Program path (Some (content_or_empty (file_at (now.history ++ touch.earlier) path))) stamp)
      (record { earlier = touch.earlier; later = touch.later; grows = touch.grows; all_earlier = touch.all_earlier; all_later = subst (λ (l : List Event). AllByOthers (IsRunning l) touch.later) (sym ticks.events) touch.all_later })
      (λ job is. commands job (subst (λ (l : List Event). runs job l ≡ true) ticks.events is))
      (false_from_ne_true (bytes_eq path own.build_log) (λ same. no_build_log (same_bytes path own.build_log same)))
      (false_from_ne_true (bytes_eq path own.deps_log) (λ same. no_deps_log (same_bytes path own.deps_log same)))
      steps hand ticks.events logged

  -- the command of the edge in hand was started, and its begun record stands
  pub start_logged : (steps : List Step) (tells : Bool) → IsTrue tells → (i : ℕ) (act : Act) → Starts tells i act now new → ((job : ℕ) → runs job new.events ≡ true → IsCommand edges job)
      → ((o : List ℕ) → has (outputs (edge_at edges i)) o ≡ true → in_force (store_in format own (view_of now.history)).records o ≡ None) → (has_number (well_in steps) i ≡ true → ⊥)
      → IsLoggedAt B format own edges steps (Some i) entry old now → IsLoggedAt B format own edges (steps ++ Started i ∷ []) None entry old new
  start_logged steps tells tell i act starts after begun fresh logged =
      let adds = starts.history tell in
      same_logs (steps ++ Started i ∷ []) None (build_log_stays (Happened (Start i act now.ticked)) adds after tt tt) (deps_log_stays (Happened (Start i act now.ticked)) adds after tt tt) logged.readable
      (growing.logged_starts B edges entry old steps (store_in format own (view_of now.history)) now new i act now.ticked starts.events
      (adds.earlier ++ Happened (Start i act now.ticked) ∷ adds.later) adds.grows begun fresh logged.logged)

  -- a command was taken in, as no step yet
  pub rest_logged : (steps : List Step) (hand : Option ℕ) (tells : Bool) → IsTrue tells → (i : ℕ) (ok : Bool) → Finishes tells i ok now new → ((job : ℕ) → runs job new.events ≡ true → IsCommand edges job)
      → IsLoggedAt B format own edges steps hand entry old now → IsLoggedAt B format own edges steps hand entry old new
  rest_logged steps hand tells tell i ok finish after logged =
      let adds = finish.history tell in
      same_logs steps hand (build_log_stays (Happened (Finish i ok)) adds after tt tt) (deps_log_stays (Happened (Finish i ok)) adds after tt tt) logged.readable
      (growing.logged_rest B edges entry old steps hand (store_in format own (view_of now.history)) now new i ok finish.events
      (adds.earlier ++ Happened (Finish i ok) ∷ adds.later) adds.grows logged.logged)

  -- ---- a log is written

  module _ (apart : own.build_log ≢ own.deps_log) (content : List ℕ) (stamp : ℕ) where
    read_is : {A : Type 0} (reading : List ℕ → Option (List A)) (held : Option (List ℕ)) (records : List A) → held ≡ Some content → reading content ≡ Some records → read_log reading held ≡ records
    read_is reading held records is told = ap (λ (h : Option (List ℕ)). read_log reading h) is ∙ rw (told, read_log) refl

    same_content : (a b : List ℕ) → Some a ≡ Some b → a ≡ b
    same_content a b is = cc

    readable_is : {A : Type 0} (reading : List ℕ → Option (List A)) (held : Option (List ℕ)) (records : List A) → held ≡ Some content → reading content ≡ Some records → IsReadable reading held
    readable_is reading held records is told other other_is = (records, ap reading (same_content other content (sym other_is ∙ is)) ∙ told)

    -- The build log was written, by an append or anew, whole or in part, and now tells these records.
    pub build_log_logged : (steps : List Step) (hand next : Option ℕ) (records : List Record) → new.events ≡ now.events → Adds (IsRunning now.events) (IsRunning now.events) (Wrote Program own.build_log (Some content) stamp) now.history new.history
        → format.records content ≡ Some records
        → (IsLogged B edges steps hand entry (store_in format own (view_of now.history)) old new → IsLogged B edges steps next entry (record { records = records; deps = (store_in format own (view_of now.history)).deps }) old new)
        → IsLoggedAt B format own edges steps hand entry old now → IsLoggedAt B format own edges steps next entry old new
    build_log_logged steps hand next records events adds told on logged = record {
      readable = λ was_so. record {
        build_log = readable_is format.records (view_of new.history own.build_log) records build_log told;
        deps_log = λ c is. (logged.readable was_so).deps_log c (sym deps_log ∙ is);
      };
      logged = subst (λ (s : Store). IsLogged B edges steps next entry s old new) (sym store_is)
          (on (growing.logged_quiet B edges entry old steps hand (store_in format own (view_of now.history)) now new events (adds.earlier ++ Wrote Program own.build_log (Some content) stamp ∷ adds.later) adds.grows logged.logged));
    }
      where
        w : AllByRecursion (IsWithinEdge kept.free edges) (adds.earlier ++ Wrote Program own.build_log (Some content) stamp ∷ adds.later)
        w = within (adds.earlier ++ Wrote Program own.build_log (Some content) stamp ∷ adds.later) adds.grows

        e : AllByRecursion (IsNoEdit kept.free) (adds.earlier ++ Wrote Program own.build_log (Some content) stamp ∷ adds.later)
        e = edits (adds.earlier ++ Wrote Program own.build_log (Some content) stamp ∷ adds.later) adds.grows

        build_log : view_of new.history own.build_log ≡ Some content
        build_log = ap content_of (log_written_at own edges kept.own_files kept.free kept.free_apart own.build_log kept.own_files.build_log (IsRunning now.events) commands (Some content) stamp now.history new.history adds w e)

        deps_log : view_of new.history own.deps_log ≡ view_of now.history own.deps_log
        deps_log = ap content_of (log_stays_at own edges kept.own_files kept.free kept.free_apart own.deps_log kept.own_files.deps_log (IsRunning now.events) (IsRunning now.events) commands commands (Wrote Program own.build_log (Some content) stamp) now.history new.history
            (false_from_ne_true (bytes_eq own.build_log own.deps_log) (λ same. apart (same_bytes own.build_log own.deps_log same))) adds w e)

        store_is : store_in format own (view_of new.history) ≡ record { records = records; deps = (store_in format own (view_of now.history)).deps }
        store_is =
            ap (λ (rs : List Record). record { records = rs; deps = read_log format.deps (view_of new.history own.deps_log) }) (read_is format.records (view_of new.history own.build_log) records build_log told)
            ∙ ap (λ (held : Option (List ℕ)). record { records = records; deps = read_log format.deps held }) deps_log

    -- so was the deps log
    pub deps_log_logged : (steps : List Step) (hand next : Option ℕ) (records : List DepsRecord) → new.events ≡ now.events → Adds (IsRunning now.events) (IsRunning now.events) (Wrote Program own.deps_log (Some content) stamp) now.history new.history
        → format.deps content ≡ Some records
        → (IsLogged B edges steps hand entry (store_in format own (view_of now.history)) old new → IsLogged B edges steps next entry (record { records = (store_in format own (view_of now.history)).records; deps = records }) old new)
        → IsLoggedAt B format own edges steps hand entry old now → IsLoggedAt B format own edges steps next entry old new
    deps_log_logged steps hand next records events adds told on logged = record {
      readable = λ was_so. record {
        build_log = λ c is. (logged.readable was_so).build_log c (sym build_log ∙ is);
        deps_log = readable_is format.deps (view_of new.history own.deps_log) records deps_log told;
      };
      logged = subst (λ (s : Store). IsLogged B edges steps next entry s old new) (sym store_is)
          (on (growing.logged_quiet B edges entry old steps hand (store_in format own (view_of now.history)) now new events (adds.earlier ++ Wrote Program own.deps_log (Some content) stamp ∷ adds.later) adds.grows logged.logged));
    }
      where
        w : AllByRecursion (IsWithinEdge kept.free edges) (adds.earlier ++ Wrote Program own.deps_log (Some content) stamp ∷ adds.later)
        w = within (adds.earlier ++ Wrote Program own.deps_log (Some content) stamp ∷ adds.later) adds.grows

        e : AllByRecursion (IsNoEdit kept.free) (adds.earlier ++ Wrote Program own.deps_log (Some content) stamp ∷ adds.later)
        e = edits (adds.earlier ++ Wrote Program own.deps_log (Some content) stamp ∷ adds.later) adds.grows

        deps_log : view_of new.history own.deps_log ≡ Some content
        deps_log = ap content_of (log_written_at own edges kept.own_files kept.free kept.free_apart own.deps_log kept.own_files.deps_log (IsRunning now.events) commands (Some content) stamp now.history new.history adds w e)

        build_log : view_of new.history own.build_log ≡ view_of now.history own.build_log
        build_log = ap content_of (log_stays_at own edges kept.own_files kept.free kept.free_apart own.build_log kept.own_files.build_log (IsRunning now.events) (IsRunning now.events) commands commands (Wrote Program own.deps_log (Some content) stamp) now.history new.history
            (false_from_ne_true (bytes_eq own.deps_log own.build_log) (λ same. apart (sym (same_bytes own.deps_log own.build_log same)))) adds w e)

        store_is : store_in format own (view_of new.history) ≡ record { records = (store_in format own (view_of now.history)).records; deps = records }
        store_is =
            ap (λ (ds : List DepsRecord). record { records = read_log format.records (view_of new.history own.build_log); deps = ds }) (read_is format.deps (view_of new.history own.deps_log) records deps_log told)
            ∙ ap (λ (held : Option (List ℕ)). record { records = read_log format.records held; deps = records }) build_log
