-- Time that goes by before a build, and the build after it.
use Rattle.std.proofs.Common.{◌≡◌, inr, ℕ, Bool, true, false, IsTrue, List, ◌++◌, Option, refl, sym, subst, ap, ◌∙◌, append_assoc, map}
use Rattle.std.specs.Option.{option_map}
use Rattle.model.specs.declared.act.Act.{Act}
use Rattle.model.specs.declared.event.Event.{Event}
use Rattle.model.specs.declared.event.Moment.{Moment}
use Rattle.model.specs.declared.graph.BuildGraph.{BuildGraph}
use Rattle.model.specs.declared.graph.Edge.{Edge}
use Rattle.model.specs.declared.outcome.Outcome.{Outcome}
use Rattle.model.specs.World.{World, View, IsIdle}
use Rattle.model.specs.Calls.{OnlyLooks}
use Rattle.model.specs.Graph.{Addition}
use Rattle.model.specs.Outcome.{Behaviour}
use Rattle.model.specs.Records.{OwnFiles, IsOwnIn, file_in, build_log_name, deps_log_name}
use Rattle.theory.specs.Seen.{Looked}
use Rattle.theory.proofs.SiteCalls.{unrefused_none}
use Rattle.theory.proofs.Looks.{looks_nothing, looks_then}
use Rattle.log_text.specs.DepsFormat.{HasFormat}
use Rattle.depfile.specs.Depfile.{HasReading}
use Rattle.dyndep_law.specs.Readings.{HasReading as HasDyndeps}
use Rattle.graph.specs.Extended.{addition_of}
use Rattle.paths.specs.Told.{graph_of}
use Rattle.builder.specs.declared.asked.Limits.{Limits}
use Rattle.builder.specs.declared.reading.Reading.{Reading}
use Rattle.work.specs.declared.report.Options.{Options}
use Rattle.work.specs.declared.report.Report.{Report}
use Rattle.builder.specs.Asked.{AreTargets}
use Rattle.builder.specs.Build.{Builds, BuildsFor, IsBuild, WasRead, limits_of}
use Rattle.work.specs.Loads.{ReadsDyndeps}
use Rattle.seen.specs.Begun.{Begun, told_world}
use Rattle.nj_run.specs.Options.{Options as Asked}
use Rattle.nj_run.specs.Alone.{BuildsAlone, IsBuiltAlone, Passes, WasReadAlone, WasUnreadAlone}

pub passes_none : (tells : Bool) (w : World) → Passes tells w w
passes_none tells w = record { looks = looks_nothing tells w; failures = refl; stopped = refl; earlier = refl }

pub passes_then : (tells : Bool) (a b c : World) → Passes tells a b → Passes tells b c → Passes tells a c
passes_then tells a b c first second = record {
  looks = looks_then tells a b c first.looks second.looks;
  failures = second.failures ∙ first.failures;
  stopped = second.stopped ∙ first.stopped;
  earlier = second.earlier ∙ first.earlier;
}

-- what only looked and was not refused is time that went by, too
pub passes_looked : (tells : Bool) (a b : World) → Looked tells a b → Passes tells a b
passes_looked tells a b looked = record {
  looks = looked.looks;
  failures = looked.unrefused.failures;
  stopped = looked.unrefused.goes_on ∙ sym looked.unrefused.began;
  earlier = looked.unrefused.earlier;
}

pub looked_passes : (tells : Bool) (a b c : World) → Looked tells a b → Passes tells b c → Looked tells a c
looked_passes tells a b c looked passes = record {
  looks = looks_then tells a b c looked.looks passes.looks;
  unrefused = record {
    failures = passes.failures ∙ looked.unrefused.failures;
    began = looked.unrefused.began;
    goes_on = passes.stopped ∙ looked.unrefused.goes_on;
    earlier = passes.earlier ∙ looked.unrefused.earlier;
  };
}

pub idle_passed : (tells : Bool) (old new : World) → Passes tells old new → IsIdle old.events → IsIdle new.events
idle_passed tells old new passes idle = subst IsIdle (sym {A = List Event} passes.looks.events) idle

-- there is a function that reads each dyndep file by its grammar
reads_dyndeps : HasDyndeps → (dyndep : List ℕ → Option (List Addition)) × ReadsDyndeps dyndep
reads_dyndeps has = (λ bytes. option_map (map addition_of) (has.0 bytes), λ bytes. let said = has.1 bytes in (said.0, said.1, ap (option_map (map addition_of)) said.2))

-- own files of which none is kept, whatever is written
abbrev any_own : List ℕ → OwnFiles
any_own folder = record { build_log = file_in folder build_log_name; deps_log = file_in folder deps_log_name; files = λ p. true; set = λ p. false }

own_in : (folder : List ℕ) → IsOwnIn (any_own folder) folder
own_in folder = record { build_log = refl; deps_log = refl; is_log = refl; is_deps = refl; tick = refl; new_log = refl; new_deps = refl; outputs = λ digits are. refl }

-- the same as the site over it is told
pub passes_told : (tells : Bool) (b : Begun) (old new : World) → OnlyLooks tells (told_world tells b old) (told_world tells b new) → Passes tells old new
    → Passes tells (told_world tells b old) (told_world tells b new)
passes_told false b old new looks passes = passes
passes_told true b old new looks passes = record { looks = looks; failures = passes.failures; stopped = passes.stopped; earlier = passes.earlier }

-- it was read, and then time went by
pub read_passes : (tells : Bool) (options : Options) (old entry read new : World) (reading : Reading) → Passes tells old entry → WasRead tells options entry read reading → Passes tells read new → Passes tells old new
read_passes tells options old entry read new reading before was since =
    passes_then tells old entry new before (passes_then tells entry read new (passes_looked tells entry read was.looked) since)

module _ (tells : Bool) (outcome : Act → View → Outcome) (options : Options) (given : List (List ℕ)) (old start new : World) (idle : IsIdle old.events)
    (reading : Reading) (was : WasReadAlone tells options given old start reading) (report : Report) (grown : List Edge)
    (builds : BuildsFor tells (graph_of reading.manifest) reading.asked grown start new report) where
  abbrev graph : BuildGraph
  graph = graph_of reading.manifest

  looked : Looked tells was.entry start
  looked = looked_passes tells was.entry was.read start was.was_read.looked was.since

  idle_entry : IsIdle was.entry.events
  idle_entry = idle_passed tells old was.entry was.before idle

  idle_start : IsIdle start.events
  idle_start = idle_passed tells was.entry start (passes_looked tells was.entry start looked) idle_entry

  start_looked : Looked tells start start
  start_looked = record { looks = looks_nothing tells start; unrefused = unrefused_none start looked.unrefused.goes_on }

  -- from the end of reading the history grew
  later : HasFormat → HasReading → HasDyndeps → IsTrue tells → (later : List Moment) × (new.history ≡ was.read.history ++ later)
  later logs depfiles dyndeps tell =
      let adds = reads_dyndeps dyndeps in
      let any : Behaviour = record { outcome = outcome; depfile = depfiles.0; dyndep = adds.0 } in
      let built = builds any logs.0 (any_own reading.asked.folder) start depfiles.1 adds.1 logs.1 (own_in reading.asked.folder) idle_start start_looked in
      let frame = built.build.frame tell in
      let waited = was.since.looks.history tell in
      (waited.more ++ frame.more, frame.grows ∙ (ap (λ (l : List Moment). l ++ frame.more) waited.grows ∙ append_assoc was.read.history waited.more frame.more))

  canonical : AreTargets given reading.asked.targets
  canonical = subst (λ (g : List (List ℕ)). AreTargets g reading.asked.targets) was.given_is was.was_read.targets

  -- what was read was built
  is_build : HasFormat → HasReading → HasDyndeps → IsBuild tells outcome options.file (limits_of options) given was.entry new report
  is_build logs depfiles dyndeps = inr record {
    graph = graph;
    formed = was.was_read.formed;
    file = record { read = was.read; looked = was.was_read.looked; file = was.was_read.file; since = later logs depfiles dyndeps };
    targets = reading.asked.targets;
    canonical = canonical;
    folder = reading.asked.folder;
    in_folder = was.was_read.folder;
    grown = grown;
    builds = λ own format depfile dyndep depfiles dyndeps reads owned.
        subst (λ (l : Limits). Builds tells (record { outcome = outcome; depfile = depfile; dyndep = dyndep }) format own graph reading.asked.folder l given reading.asked.targets grown was.entry new report) was.was_read.limits_are
        (subst (λ (g : List (List ℕ)). Builds tells (record { outcome = outcome; depfile = depfile; dyndep = dyndep }) format own graph reading.asked.folder reading.asked.limits g reading.asked.targets grown was.entry new report) was.given_is
        (builds (record { outcome = outcome; depfile = depfile; dyndep = dyndep }) format own was.entry depfiles dyndeps reads owned idle_entry looked));
  }

  pub built_alone : HasFormat → HasReading → HasDyndeps → IsBuiltAlone tells outcome options given old new report
  built_alone logs depfiles dyndeps = record { entry = was.entry; before = was.before; built = is_build logs depfiles dyndeps }

-- ---- what only looked

-- where the file was not read, it was only looked
pub unread_looks : (tells : Bool) (name : List ℕ) (old new : World) (report : Report) → WasUnreadAlone tells name old new report → OnlyLooks tells old new
unread_looks tells name old new report was = looks_then tells old was.entry new was.before.looks was.unread.looks

-- and where it was read, and only looked then
pub explained_looks : (tells : Bool) (options : Options) (given : List (List ℕ)) (old read new : World) (reading : Reading) → WasReadAlone tells options given old read reading → OnlyLooks tells read new → OnlyLooks tells old new
explained_looks tells options given old read new reading was looks =
    looks_then tells old was.entry new was.before.looks (looks_then tells was.entry read new (passes_looked tells was.entry read (looked_passes tells was.entry was.read read was.was_read.looked was.since)).looks looks)

-- ---- over a site that does not tell its files

pub builds_untold : (tells : Bool) (outcome : Act → View → Outcome) (asked : Asked) (old : World) (report : Report) → tells ≡ false
    → ((later : World) × BuildsAlone tells outcome asked old later report) → (later : World) × BuildsAlone false outcome asked old later report
builds_untold tells outcome asked old report is built = subst (λ (b : Bool). (later : World) × BuildsAlone b outcome asked old later report) is built

pub builds_from : (tells : Bool) (b : Begun) (outcome : Act → View → Outcome) (asked : Asked) (other old later : World) (report : Report) → tells ≡ false → other ≡ old
    → BuildsAlone tells outcome asked (told_world tells b other) later report → (later : World) × BuildsAlone false outcome asked old later report
builds_from tells b outcome asked other old later report untold is built = (
  later,
  subst (λ (w : World). BuildsAlone false outcome asked w later report) is (subst (λ (t : Bool). BuildsAlone t outcome asked (told_world t b other) later report) untold built),
)

pub looks_later : (tells : Bool) (old : World) → tells ≡ false → ((later : World) × OnlyLooks tells old later) → (later : World) × OnlyLooks false old later
looks_later tells old is looks = subst (λ (b : Bool). (later : World) × OnlyLooks b old later) is looks

pub looks_from : (tells : Bool) (b : Begun) (other old later : World) → tells ≡ false → other ≡ old → OnlyLooks tells (told_world tells b other) later
    → (later : World) × OnlyLooks false old later
looks_from tells b other old later untold is looks =
    (later, subst (λ (w : World). OnlyLooks false w later) is (subst (λ (t : Bool). OnlyLooks t (told_world t b other) later) untold looks))

pub idle_at : (tells : Bool) (b : Begun) (other old : World) → tells ≡ false → other ≡ old → IsIdle old.events → IsIdle (told_world tells b other).events
idle_at tells b other old untold is idle = subst (λ (t : Bool). IsIdle (told_world t b other).events) (sym untold) (subst (λ (w : World). IsIdle w.events) (sym is) idle)
