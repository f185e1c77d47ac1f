-- From what stages give to what a build has come to.
use Rattle.std.specs.Prelude.{OnOk, IfErr}
use Rattle.std.proofs.Common.{Option, ◌≡◌, inr, ℕ, Bool, IsTrue, List, ◌++◌, Result, Ok, Err, ap, map, refl, subst, sym}
use Rattle.std.specs.Result.{IsErrAnd}
use Rattle.model.specs.declared.act.Act.{Act}
use Rattle.model.specs.declared.event.Moment.{Moment}
use Rattle.model.specs.declared.graph.BuildGraph.{BuildGraph}
use Rattle.model.specs.declared.graph.Edge.{Edge}
use Rattle.model.specs.declared.outcome.Outcome.{Outcome}
use Rattle.model.specs.World.{World, View, IsIdle, view_of}
use Rattle.model.specs.Calls.{OnlyLooks, HasCause}
use Rattle.model.specs.Outcome.{Behaviour}
use Rattle.model.specs.Records.{store_in}
use Rattle.theory.proofs.SiteCalls.{unrefused_call}
use Rattle.log_text.specs.DepsFormat.{HasFormat}
use Rattle.depfile.specs.Depfile.{HasReading}
use Rattle.dyndep_law.specs.Readings.{HasReading as HasDyndeps}
use Rattle.graph.specs.Extended.{addition_of}
use Rattle.model.specs.Graph.{Addition}
use Rattle.std.specs.Option.{option_map}
use Rattle.manifest.specs.Answer.{IsGraph, ReadsFile, site_part}
use Rattle.manifest.specs.declared.fault.ReadError.{ReadError}
use Rattle.manifest.specs.declared.fault.ReadError.TheVariants as error
use Rattle.builder.specs.declared.asked.Limits.{Limits}
use Rattle.builder.specs.declared.asked.Asked.{Asked}
use Rattle.builder.specs.declared.reading.Reading.{Reading}
use Rattle.work.specs.declared.report.Options.{Options}
use Rattle.work.specs.declared.report.Report.{Report}
use Rattle.graph.specs.declared.fault.GraphFault.{GraphFault}
use Rattle.graph.specs.Linked.{IsFaultOf}
use Rattle.paths.specs.declared.manifest.Manifest.{Manifest}
use Rattle.paths.specs.Told.{graph_of}
use Rattle.builder.specs.Asked.{AreTargets, IsFolder}
use Rattle.builder.specs.Build.{Builds, BuildsFor, IsBuild, IsUnread, WasRead, limits_of}
use Rattle.work.specs.Ends.{unread, ungraphed}
use Rattle.work.specs.Loads.{ReadsDyndeps}
use Rattle.builder.specs.Parts.{IsReportOfNoGraph}
use Rattle.builder.specs.Reports.{report_in}
use Rattle.builder.proofs.Builds.{looked_nothing, idle_after, any_own, own_in, builds_grow, builds_ungraphed}

-- the report of an exit by `?`
pub told_by : (told : Report) (r : Result Report Report) → IsErrAnd r (λ report. report ≡ told) → report_in r ≡ told
told_by told (Ok report) passed = absurd passed
told_by told (Err report) passed = passed

-- what is so of the report of an exit by `?`
pub refused_by : {T : Type 0} (So : Report → Type 0) (told : Report) (r : Result T Report) → IsErrAnd r (λ report. report ≡ told) → So told → IfErr r So
refused_by So told (Ok value) passed so = tt
refused_by So told (Err report) passed so = subst So (sym {A = Report} passed) so

-- edges that are no graph have one report, whatever is asked of them
pub ungraphed_always : (folder : List ℕ) (manifest : Manifest) (fault : GraphFault) → IsFaultOf folder (graph_of manifest).edges fault → IsReportOfNoGraph folder manifest (ungraphed fault)
ungraphed_always folder manifest fault is = λ tells B format own limits given targets entry now idle looked.
    builds_ungraphed tells B format own (graph_of manifest) folder limits given targets (store_in format own (view_of entry.history)) entry now (λ tell edits. refl) idle looked fault is

-- the exit by `?` where they are none
pub ungraphed_by : {T : Type 0} (folder : List ℕ) (manifest : Manifest) (fault : GraphFault) → IsFaultOf folder (graph_of manifest).edges fault
    → (r : Result T Report) → IsErrAnd r (λ report. report ≡ ungraphed fault) → IfErr r (IsReportOfNoGraph folder manifest)
ungraphed_by folder manifest fault is (Ok value) passed = tt
ungraphed_by folder manifest fault is (Err report) passed = subst (λ (r : Report). IsReportOfNoGraph folder manifest r) (sym {A = Report} passed) (ungraphed_always folder manifest fault is)

-- an exit by `?` before all was read
pub unread_by : {T : Type 0} (tells : Bool) (name : List ℕ) (old new : World) (error : ReadError) → OnlyLooks tells old new → HasCause old new (site_part {T = BuildGraph} (Err error))
    → (IsTrue tells → OnOk (site_part {T = BuildGraph} (Err error)) (ReadsFile name old.history new.history (Err error))) → (r : Result T Report) → IsErrAnd r (λ report. report ≡ unread error) → IfErr r (IsUnread tells name old new)
unread_by tells name old new error looks cause file (Ok reading) passed = tt
unread_by tells name old new error looks cause file (Err report) passed = record { error = error; is = passed; looks = looks; cause = cause; file = file }

-- of a file under the same name
pub read_named : (name other : List ℕ) (old new : World) (error : ReadError) → name ≡ other → ReadsFile name old.history new.history (Err error)
    → OnOk (site_part {T = BuildGraph} (Err error)) (ReadsFile other old.history new.history (Err error))
read_named name other old new error.Memory same is = tt
read_named name other old new (error.Site fault) same is = tt
read_named name other old new (error.Refused fault) same is = subst (λ (n : List ℕ). ReadsFile n old.history new.history (Err (error.Refused fault))) same is

-- there is a function that reads each dyndep file by its grammar
pub reads_dyndeps : HasDyndeps → (dyndep : List ℕ → Option (List Addition)) × ReadsDyndeps dyndep
reads_dyndeps has = (λ bytes. option_map (map addition_of) (has.0 bytes), λ bytes. let said = has.1 bytes in (said.0, said.1, ap (option_map (map addition_of)) said.2))

-- ---- first reading, and then building

-- what was read was not refused
pub was_read : (tells : Bool) (options : Options) (old new : World) (read : Reading) → OnlyLooks tells old new → HasCause {T = Unit {0}} old new (Ok tt) → IsGraph (graph_of read.manifest)
    → (IsTrue tells → ReadsFile options.file old.history new.history (Ok (graph_of read.manifest))) → AreTargets read.asked.given.now read.asked.targets
    → IsFolder (graph_of read.manifest).builddir read.asked.folder → read.asked.limits ≡ limits_of options → WasRead tells options old new read
was_read tells options old new read looks cause formed file targets folder limits_are = record {
  formed = formed;
  file = file;
  looked = record { looks = looks; unrefused = unrefused_call old new _ cause };
  targets = targets;
  folder = folder;
  limits_are = limits_are;
}

module _ (tells : Bool) (outcome : Act → View → Outcome) (options : Options) (given : List (List ℕ)) (old mid new : World) (idle : IsIdle old.events) (reading : Reading) (read : WasRead tells options old mid reading) (given_is : reading.asked.given.now ≡ given)
    (report : Report) (grown : List Edge) (builds : BuildsFor tells (graph_of reading.manifest) reading.asked grown mid new report) where
  abbrev graph : BuildGraph
  graph = graph_of reading.manifest

  abbrev asked : Asked
  asked = reading.asked

  -- from what was read the history grew
  later : HasFormat → HasReading → HasDyndeps → IsTrue tells → (later : List Moment) × (new.history ≡ mid.history ++ later)
  later logs depfiles dyndeps tell =
      let adds = reads_dyndeps dyndeps in
      let any : Behaviour = record { outcome = outcome; depfile = depfiles.0; dyndep = adds.0 } in
      builds_grow tells any logs.0 (any_own asked.folder) graph asked.folder asked.limits asked.given.now asked.targets grown mid new report
      (builds any logs.0 (any_own asked.folder) mid depfiles.1 adds.1 logs.1 (own_in asked.folder) (idle_after tells old mid read.looked.looks idle) (looked_nothing tells mid read.looked.unrefused.goes_on)) tell

  canonical : AreTargets given reading.asked.targets
  canonical = subst (λ (g : List (List ℕ)). AreTargets g reading.asked.targets) given_is read.targets

  -- so what was read was built
  pub built_read : HasFormat → HasReading → HasDyndeps → IsBuild tells outcome options.file (limits_of options) given old new report
  built_read logs depfiles dyndeps = inr record {
    graph = graph;
    formed = read.formed;
    file = record { read = mid; looked = read.looked; file = read.file; since = later logs depfiles dyndeps };
    targets = asked.targets;
    canonical = canonical;
    folder = asked.folder;
    in_folder = read.folder;
    grown = grown;
    builds = λ own format depfile dyndep depfiles dyndeps reads owned.
        subst (λ (l : Limits). Builds tells (record { outcome = outcome; depfile = depfile; dyndep = dyndep }) format own graph asked.folder l given asked.targets grown old new report) read.limits_are
        (subst (λ (g : List (List ℕ)). Builds tells (record { outcome = outcome; depfile = depfile; dyndep = dyndep }) format own graph asked.folder asked.limits g asked.targets grown old new report) given_is
        (builds (record { outcome = outcome; depfile = depfile; dyndep = dyndep }) format own old depfiles dyndeps reads owned idle read.looked));
  }
