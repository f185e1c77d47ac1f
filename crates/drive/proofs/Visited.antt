-- One move as a visit.
use Rattle.std.proofs.Common.{◌≡◌, inl, inr, ℕ, Bool, true, false, List, [], ◌∷◌, Option, Some, None, map, Result, Ok, Err, IfOk, OnErr, refl, sym, ◌∙◌, ap, subst}
use Rattle.std.specs.Prelude.{option_map}
use Rattle.std.proofs.lemmas.List.{append-nil}
use Rattle.std.proofs.lemmas.Bool.{false≢true}
use Rattle.model.specs.declared.act.Act.{Act}
use Rattle.model.specs.declared.event.Event.{Event}
use Rattle.model.specs.declared.fault.SiteFault.TheVariants.{Device, Stopped, Memory}
use Rattle.model.specs.declared.graph.BuildGraph.{BuildGraph}
use Rattle.model.specs.declared.graph.Edge.{Edge}
use Rattle.model.specs.declared.moves.Move.{Move}
use Rattle.model.specs.declared.moves.Move.TheVariants.{Write, Delete, Build}
use Rattle.model.specs.declared.outcome.Outcome.{Outcome}
use Rattle.model.specs.Calls.{OnlyLooks, HasCause}
use Rattle.model.specs.Driven.{IsCutNext}
use Rattle.model.specs.Graph.{Addition}
use Rattle.model.specs.History.{Edited, Built, Unread, IsHeadline, IsNotRead}
use Rattle.model.specs.Kept.{KeepsLogs}
use Rattle.model.specs.Outcome.{Behaviour}
use Rattle.model.specs.Premises.{HaveEnded}
use Rattle.model.specs.Records.{LogFormat, OwnFiles, IsOwnIn, file_in, build_log_name, deps_log_name}
use Rattle.model.specs.SingleBuild.{Asked, Answer, SingleBuild, is_fault, asked_with}
use Rattle.model.specs.World.{World, View, IsIdle}
use Rattle.log_text.specs.DepsFormat.{ReadsLogs, HasFormat}
use Rattle.depfile.specs.Depfile.{IsReading, HasReading}
use Rattle.dyndep_law.specs.Readings.{HasReading as HasDyndeps}
use Rattle.graph.specs.Extended.{addition_of}
use Rattle.manifest.specs.Answer.{site_part}
use Rattle.manifest.specs.declared.fault.ReadError.{ReadError}
use Rattle.manifest.specs.declared.fault.ReadError.TheVariants as read
use Rattle.builder.specs.Build.{Says, Builds, IsUnread, IsBuilt, IsBuild, RemovesFiles, LeavesAlone, asked_of}
use Rattle.work.specs.Ends.{unread}
use Rattle.work.specs.Loads.{ReadsDyndeps}
use Rattle.builder.specs.declared.asked.Limits.{Limits}
use Rattle.work.specs.declared.report.Report.{Report}
use Rattle.drive.specs.Driven.{unread_answer, behaving, HasCauseOf}
use Rattle.drive.specs.Moves.{reports_fault, IsEdited, IsReported, IsVisited, IsDone, IsCarried}
use Rattle.drive.proofs.Saying.{said_once, fault_same}

idle_over : (old new : World) → new.events ≡ old.events → IsIdle old.events → IsIdle new.events
idle_over old new same idle = subst (λ (events : List Event). IsIdle events) (sym same) idle

-- ---- edits

pub write_done : (tells : Bool) (outcome : Act → View → Outcome) (name : List ℕ) (limits : Limits) (path content : List ℕ) (again : Bool) (old new : World) → IsIdle old.events
    → IsEdited tells path (Some content) again old new → IsDone tells outcome name limits (Write path content) again [] old new
write_done tells outcome name limits path content again old new idle edited = record {
  counted = refl;
  ended = λ is. idle_over old new edited.edit.events idle;
  visited = λ format depfile dyndep depfiles dyndeps reads. record { visit = Edited path (Some content) old new edited.edit; entry = refl; exit = refl; does = (refl, refl); headline = tt; logs = tt; files = tt; asks = edited.stopped; reported = tt };
}

pub delete_done : (tells : Bool) (outcome : Act → View → Outcome) (name : List ℕ) (limits : Limits) (path : List ℕ) (again : Bool) (old new : World) → IsIdle old.events
    → IsEdited tells path None again old new → IsDone tells outcome name limits (Delete path) again [] old new
delete_done tells outcome name limits path again old new idle edited = record {
  counted = refl;
  ended = λ is. idle_over old new edited.edit.events idle;
  visited = λ format depfile dyndep depfiles dyndeps reads. record { visit = Edited path None old new edited.edit; entry = refl; exit = refl; does = (refl, refl); headline = tt; logs = tt; files = tt; asks = edited.stopped; reported = tt };
}

-- ---- a build that read nothing

not_read : (tells : Bool) (old new : World) (error : ReadError) → OnlyLooks tells old new → HasCause old new (site_part {T = BuildGraph} (Err error)) → IsNotRead tells old new (unread_answer error)
not_read tells old new read.Memory looks cause = record {
  looks = looks;
  answers = inr (Memory, refl);
  device = λ is. cc;
  stopped = λ is. cc;
  faults = record { refused = λ is. absurd (false≢true (sym is)); starts = inl looks.at_start; stopped = λ is. absurd (false≢true (sym cause.stopped ∙ is)); earlier = cause.earlier };
}
not_read tells old new (read.Site Device) looks cause = record {
  looks = looks;
  answers = inr (Device, refl);
  device = λ is. cause.device refl;
  stopped = λ is. cc;
  faults = record { refused = λ is. absurd (false≢true (sym is)); starts = inl looks.at_start; stopped = λ is. absurd (false≢true (sym cause.stopped ∙ is)); earlier = cause.earlier };
}
not_read tells old new (read.Site Stopped) looks cause = record {
  looks = looks;
  answers = inr (Stopped, refl);
  device = λ is. cc;
  stopped = λ is. cause.stopped;
  faults = record { refused = λ is. absurd (false≢true (sym is)); starts = inl looks.at_start; stopped = λ is. refl; earlier = cause.earlier };
}
not_read tells old new (read.Site Memory) looks cause = record {
  looks = looks;
  answers = inr (Memory, refl);
  device = λ is. cc;
  stopped = λ is. cc;
  faults = record { refused = λ is. absurd (false≢true (sym is)); starts = inl looks.at_start; stopped = λ is. absurd (false≢true (sym cause.stopped ∙ is)); earlier = cause.earlier };
}
not_read tells old new (read.Refused fault) looks cause = record {
  looks = looks;
  answers = inl refl;
  device = λ is. cc;
  stopped = λ is. cc;
  faults = record { refused = λ is. cause.others (λ met. cc); starts = inl looks.at_start; stopped = λ is. absurd (false≢true (sym cause.stopped ∙ is)); earlier = cause.earlier };
}

fault_of_unread : (error : ReadError) → is_fault (unread_answer error) ≡ reports_fault (unread error)
fault_of_unread read.Memory = refl
fault_of_unread (read.Site fault) = refl
fault_of_unread (read.Refused fault) = refl

pub unread_done : (tells : Bool) (outcome : Act → View → Outcome) (name : List ℕ) (limits : Limits) (words : List (List ℕ)) (old new : World) (report : Report) → IsIdle old.events
    → IsUnread tells name old new report → IsDone tells outcome name limits (Build words) (reports_fault report) (report ∷ []) old new
unread_done tells outcome name limits words old new report idle un = record {
  counted = refl;
  ended = λ is. idle_over old new un.looks.events idle;
  visited = λ format depfile dyndep depfiles dyndeps reads. record {
    visit = Unread old new (unread_answer un.error) (not_read tells old new un.error un.looks un.cause);
    entry = refl;
    exit = refl;
    does = (report, (un, refl));
    headline = tt;
    logs = tt;
    files = tt;
    asks = fault_of_unread un.error ∙ ap reports_fault (sym un.is);
    reported = ((un, refl), tt);
  };
}

-- ---- a build

-- own files that lie in this folder
abbrev pub some_own : List ℕ → OwnFiles
some_own folder = record { build_log = file_in folder build_log_name; deps_log = file_in folder deps_log_name; files = λ p. true; set = λ p. true }

pub some_in : (folder : List ℕ) → IsOwnIn (some_own folder) folder
some_in folder = record { build_log = refl; deps_log = refl; is_log = refl; is_deps = refl; tick = refl; new_log = refl; new_deps = refl; outputs = λ digits are. refl }

-- a reading of dyndep files, in the words of builds
pub readings : HasDyndeps → (dyndep : List ℕ → Option (List Addition)) × ReadsDyndeps dyndep
readings dyndeps = (
  λ bytes. option_map (map addition_of) (dyndeps.0 bytes),
  λ bytes. let read = dyndeps.1 bytes in (read.0, read.1, ap (λ statements. option_map (map addition_of) statements) read.2),
)

-- a build with this answer and this report, which has its cause, as the headline says, with its logs kept, and its files left alone and
-- removed as they should
record IsSound (tells : Bool) (B : Behaviour) (format : LogFormat) (own : OwnFiles) (asked : Asked) (old new : World) (report : Report) (said : Answer) : Type 0 where
  build : SingleBuild tells B format own asked old new said
  refused : HasCauseOf report build
  headline : IsHeadline tells B format own asked old new said build
  logs : KeepsLogs tells B format own asked old new said build
  alone : LeavesAlone tells own asked old new
  removed : RemovesFiles build

module _ (tells : Bool) (B : Behaviour) (format : LogFormat) (graph : BuildGraph) (folder : List ℕ) (limits : Limits) (given targets : List (List ℕ)) (grown : List Edge) (old new : World) (report : Report) where
  abbrev asked_so : Asked
  asked_so = asked_with (asked_of graph folder limits targets) grown

  -- FOR ALL OWN FILES ONE ANSWER: that of some own files
  sound_by : (own : OwnFiles) (said : Answer) → Builds tells B format own graph folder limits given targets grown old new report
      → ((a : Answer) → Says graph.edges given targets report a → a ≡ said) → IsSound tells B format own asked_so old new report said
  sound_by own said builds once =
      subst (λ (a : Answer). IsSound tells B format own asked_so old new report a) (once builds.answer builds.said)
      (record { build = builds.build; refused = builds.refused; headline = builds.headline; logs = builds.logs; alone = builds.alone; removed = builds.removed })

module _ (tells : Bool) (outcome : Act → View → Outcome) (name : List ℕ) (limits : Limits) (words : List (List ℕ)) (old new : World) (report : Report) (built : IsBuilt tells outcome name limits words old new report) where
  module _ (format : LogFormat) (depfile : List ℕ → Option (List (List ℕ))) (dyndep : List ℕ → Option (List Addition)) (depfiles : IsReading depfile) (dyndeps : ReadsDyndeps dyndep) (reads : ReadsLogs format) where
    abbrev asked : Asked
    asked = asked_with (asked_of built.graph built.folder limits built.targets) built.grown

    builds_for : (own : OwnFiles) → IsOwnIn own built.folder
        → Builds tells (behaving outcome depfile dyndep) format own built.graph built.folder limits words built.targets built.grown old new report
    builds_for own fits = built.builds own format depfile dyndep depfiles dyndeps reads fits

    first : Builds tells (behaving outcome depfile dyndep) format (some_own built.folder) built.graph built.folder limits words built.targets built.grown old new report
    first = builds_for (some_own built.folder) (some_in built.folder)

    sound : (own : OwnFiles) → IsOwnIn own built.folder → IsSound tells (behaving outcome depfile dyndep) format own asked old new report first.answer
    sound own fits = sound_by tells (behaving outcome depfile dyndep) format built.graph built.folder limits words built.targets built.grown old new report own first.answer (builds_for own fits)
        (λ a says. said_once built.graph.edges words built.targets report a first.answer says first.said)

    ended_so : reports_fault report ≡ false → HaveEnded new
    ended_so is = first.build.idle (fault_same built.graph.edges words built.targets report first.answer first.said ∙ is)

    visited_so : IsVisited tells (behaving outcome depfile dyndep) format name limits (Build words) (reports_fault report) (report ∷ []) old new
    visited_so = record {
      visit = Built asked old new first.answer (λ own fits. (sound own fits).build);
      entry = refl;
      exit = refl;
      does = record { graph = built.graph; formed = built.formed; file = built.file; targets = built.targets; canonical = built.canonical; folder = built.folder; in_folder = built.in_folder; grown = built.grown; is = refl };
      headline = λ own fits. (sound own fits).headline;
      logs = λ own fits. (sound own fits).logs;
      files = λ own fits. let one = sound own fits in (one.alone, one.removed);
      asks = fault_same built.graph.edges words built.targets report first.answer first.said;
      reported = (((first.said, first.named), λ own fits. (sound own fits).refused), tt);
    }

  built_done : HasFormat → HasReading → HasDyndeps → IsDone tells outcome name limits (Build words) (reports_fault report) (report ∷ []) old new
  built_done logs depfiles dyndeps = record {
    counted = refl;
    ended = λ is. let some = readings dyndeps in ended_so logs.0 depfiles.0 some.0 depfiles.1 some.1 logs.1 is;
    visited = λ format depfile dyndep depfiles dyndeps reads. visited_so format depfile dyndep depfiles dyndeps reads;
  }

pub build_done : (tells : Bool) (outcome : Act → View → Outcome) (name : List ℕ) (limits : Limits) (words : List (List ℕ)) (old new : World) (report : Report) → IsIdle old.events → HasFormat → HasReading → HasDyndeps
    → IsBuild tells outcome name limits words old new report → IsDone tells outcome name limits (Build words) (reports_fault report) (report ∷ []) old new
build_done tells outcome name limits words old new report idle logs depfiles dyndeps (inl un) = unread_done tells outcome name limits words old new report idle un
build_done tells outcome name limits words old new report idle logs depfiles dyndeps (inr built) = built_done tells outcome name limits words old new report built logs depfiles dyndeps

-- ---- what carrying out a move comes to

pub on_err : {A E P : Type 0} (r : Result A E) → P → OnErr r P
on_err (Ok a) p = tt
on_err (Err e) p = p

if_ok_then : {T E : Type 0} {P Q : T → Type 0} (r : Result T E) → IfOk r P → ((x : T) → P x → Q x) → IfOk r Q
if_ok_then (Ok x) p f = f x p
if_ok_then (Err e) p f = tt

-- an edit that found no memory is one, whatever moves come behind it
pub cut_before : (tells : Bool) (old new : World) (move : Move) (rest : List Move) → IsCutNext tells (move ∷ []) old new → IsCutNext tells (move ∷ rest) old new
cut_before tells old new (Write path content) rest cut = cut
cut_before tells old new (Delete path) rest cut = cut
cut_before tells old new (Build words) rest cut = absurd cut

module _ (tells : Bool) (outcome : Act → View → Outcome) (name : List ℕ) (limits : Limits) (reports : List Report) (old new : World) where
  told_nothing : (m : Move) (again : Bool) → IsDone tells outcome name limits m again [] old new → IsCarried tells outcome name limits m again reports reports old new
  told_nothing m again done = record { told = []; grows = sym (append-nil reports); done = done }

  pub write_carried : {E : Type 0} (m : Move) (path content : List ℕ) → m ≡ Write path content → IsIdle old.events → (r : Result Bool E) → IfOk r (λ again. IsEdited tells path (Some content) again old new)
      → IfOk r (λ again. IsCarried tells outcome name limits m again reports reports old new)
  write_carried m path content is idle r edited = if_ok_then r edited (λ again one. subst (λ (x : Move). IsCarried tells outcome name limits x again reports reports old new) (sym is)
      (told_nothing (Write path content) again (write_done tells outcome name limits path content again old new idle one)))

  pub delete_carried : {E : Type 0} (m : Move) (path : List ℕ) → m ≡ Delete path → IsIdle old.events → (r : Result Bool E) → IfOk r (λ again. IsEdited tells path None again old new)
      → IfOk r (λ again. IsCarried tells outcome name limits m again reports reports old new)
  delete_carried m path is idle r edited = if_ok_then r edited (λ again one. subst (λ (x : Move). IsCarried tells outcome name limits x again reports reports old new) (sym is)
      (told_nothing (Delete path) again (delete_done tells outcome name limits path again old new idle one)))

  pub build_carried : (m : Move) (words : List (List ℕ)) → m ≡ Build words → IsIdle old.events → HasFormat → HasReading → HasDyndeps → (again : Bool) (after : List Report)
      → IsReported tells outcome name limits words again reports after old new → IsCarried tells outcome name limits m again reports after old new
  build_carried m words is idle logs depfiles dyndeps again after reported = subst (λ (x : Move). IsCarried tells outcome name limits x again reports after old new) (sym is)
      (subst (λ (b : Bool). IsCarried tells outcome name limits (Build words) b reports after old new) (sym reported.asks)
      (record { told = reported.report ∷ []; grows = reported.grows; done = build_done tells outcome name limits words old new reported.report idle logs depfiles dyndeps reported.built }))
