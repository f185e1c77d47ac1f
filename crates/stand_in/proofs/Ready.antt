-- The last build of a run, of what was read.
use Rattle.std.proofs.Common.{◌≡◌, inl, inr, ℕ, Bool, true, false, IsTrue, List, [], ◌++◌, Option, Result, Ok, Err, refl, sym, ap, ◌∙◌, subst, append_assoc, append-nil, map}
use Rattle.std.specs.Option.{option_map}
use Rattle.model.specs.declared.act.Act.{Act}
use Rattle.model.specs.declared.event.Event.{Event}
use Rattle.model.specs.declared.event.Moment.{Moment}
use Rattle.model.specs.declared.graph.BuildGraph.{BuildGraph}
use Rattle.model.specs.declared.graph.Edge.{Edge}
use Rattle.model.specs.declared.outcome.Outcome.{Outcome}
use Rattle.model.specs.Graph.{Addition, IsMadeOnce}
use Rattle.model.specs.Outcome.{Behaviour}
use Rattle.model.specs.Records.{IsOwnIn, OwnFiles, build_log_name, deps_log_name, file_in}
use Rattle.model.specs.SingleBuild.{NamesOther}
use Rattle.model.specs.World.{IsIdle, View, World}
use Rattle.theory.specs.Seen.{Looked}
use Rattle.log_text.specs.DepsFormat.{HasFormat}
use Rattle.depfile.specs.Depfile.{HasReading}
use Rattle.dyndep_law.specs.Readings.{HasReading as HasDyndeps}
use Rattle.graph.specs.Extended.{addition_of}
use Rattle.graph.specs.Told.{declared_by}
use Rattle.graph.specs.declared.graph.Graph.{Graph}
use Rattle.manifest.specs.Answer.{IsGraph, ReadsFile}
use Rattle.tools.specs.Joined.{KeepsEdges}
use Rattle.tools.specs.declared.declared.Declared.{Declared}
use Rattle.builder.specs.Asked.{AreTargets, IsFolder}
use Rattle.builder.specs.Build.{Builds, BuildsFor, IsBuild, limits_of}
use Rattle.work.specs.Loads.{ReadsDyndeps}
use Rattle.builder.specs.declared.asked.Asked.{Asked as Request}
use Rattle.builder.specs.declared.asked.Limits.{Limits}
use Rattle.work.specs.declared.report.Options.{Options}
use Rattle.work.specs.declared.report.Report.{Report}
use Rattle.stand_in.specs.Moves.{IsEndOf, IsReady, WasReadHere}
use Rattle.stand_in.specs.declared.build.Outcome.TheVariants.{Built}
use Rattle.stand_in.proofs.Stages.{built_end, looked_nothing, looked_then}

-- what was read stays so where its paths get more numbers
read_kept : (tells : Bool) (name : List ℕ) (old new : World) (before after : Declared) → KeepsEdges before.graph after.graph → WasReadHere tells name old new before → WasReadHere tells name old new after
read_kept tells name old new before after kept was = record {
  formed = subst (λ (g : BuildGraph). IsGraph g) (sym kept.declared) was.formed;
  linked = record {
    once = subst (λ (g : BuildGraph). IsMadeOnce g.edges) (sym kept.declared) was.linked.once;
    inputs = λ file. subst (λ (g : BuildGraph). NamesOther g.edges file → ⊥) (sym kept.declared) (was.linked.inputs file);
    unrecorded = kept.recorded was.linked.unrecorded;
  };
  file = λ tell. subst (λ (g : BuildGraph). ReadsFile name old.history new.history (Ok g)) (sym kept.declared) (was.file tell);
  looked = was.looked;
}

pub ready_kept : (tells : Bool) (outcome : Act → View → Outcome) (options : Options) (old mid new : World) (before after : Declared) → IsReady tells outcome options old mid before → Looked tells mid new → KeepsEdges before.graph after.graph
    → IsReady tells outcome options old new after
ready_kept tells outcome options old mid new before after ready looked kept = record {
  entry = ready.entry;
  prepared = ready.prepared;
  read = ready.read;
  was_read = read_kept tells options.file ready.entry ready.read before after kept ready.was_read;
  since = looked_then tells ready.read mid new ready.since looked;
}

-- there is a function that reads each dyndep file by its grammar
reads_dyndeps : HasDyndeps → (dyndep : List ℕ → Option (List Addition)) × ReadsDyndeps dyndep
reads_dyndeps has = (λ bytes. option_map (map addition_of) (has.0 bytes), λ bytes. let said = has.1 bytes in (said.0, said.1, ap (option_map (map addition_of)) said.2))

-- own files of which none is kept, whatever is written
abbrev any_own : List ℕ → OwnFiles
any_own folder = record { build_log = file_in folder build_log_name; deps_log = file_in folder deps_log_name; files = λ p. true; set = λ p. false }

own_in : (folder : List ℕ) → IsOwnIn (any_own folder) folder
own_in folder = record { build_log = refl; deps_log = refl; is_log = refl; is_deps = refl; tick = refl; new_log = refl; new_deps = refl; outputs = λ digits are. refl }

module _ (tells : Bool) (outcome : Act → View → Outcome) (options : Options) (given : List (List ℕ)) (old start new : World) (idle : IsIdle start.events) (declared : Declared) (ready : IsReady tells outcome options old start declared)
    (asked : Request) (given_is : asked.given.now ≡ given) (targets : AreTargets given asked.targets) (folder : IsFolder (declared_by declared.graph).builddir asked.folder) (limits : asked.limits ≡ limits_of options)
    (report : Report) (grown : List Edge) (builds : BuildsFor tells (declared_by declared.graph) asked grown start new report) where
  looked : Looked tells ready.entry start
  looked = looked_then tells ready.entry ready.read start ready.was_read.looked ready.since

  idle_entry : IsIdle ready.entry.events
  idle_entry = subst (λ (events : List Event). IsIdle events) looked.looks.events idle

  -- from the end of reading the history grew
  later : HasFormat → HasReading → HasDyndeps → IsTrue tells → (later : List Moment) × (new.history ≡ ready.read.history ++ later)
  later logs depfiles dyndeps tell =
      let adds = reads_dyndeps dyndeps in
      let any : Behaviour = record { outcome = outcome; depfile = depfiles.0; dyndep = adds.0 } in
      let built = builds any logs.0 (any_own asked.folder) start depfiles.1 adds.1 logs.1 (own_in asked.folder) idle (looked_nothing tells start looked.unrefused.goes_on) in
      let frame = built.build.frame tell in
      let waited = ready.since.looks.history tell in
      (waited.more ++ frame.more, frame.grows ∙ (ap (λ (l : List Moment). l ++ frame.more) waited.grows ∙ append_assoc ready.read.history waited.more frame.more))

  is_build : HasFormat → HasReading → HasDyndeps → IsBuild tells outcome options.file (limits_of options) given ready.entry new report
  is_build logs depfiles dyndeps = inr record {
    graph = declared_by declared.graph;
    formed = ready.was_read.formed;
    file = record { read = ready.read; looked = ready.was_read.looked; file = ready.was_read.file; since = later logs depfiles dyndeps };
    targets = asked.targets;
    canonical = targets;
    folder = asked.folder;
    in_folder = folder;
    grown = grown;
    builds = λ own format depfile dyndep depfiles dyndeps reads owned.
        subst (λ (l : Limits). Builds tells (record { outcome = outcome; depfile = depfile; dyndep = dyndep }) format own (declared_by declared.graph) asked.folder l given asked.targets grown ready.entry new report) limits
        (subst (λ (g : List (List ℕ)). Builds tells (record { outcome = outcome; depfile = depfile; dyndep = dyndep }) format own (declared_by declared.graph) asked.folder asked.limits g asked.targets grown ready.entry new report) given_is
        (builds (record { outcome = outcome; depfile = depfile; dyndep = dyndep }) format own ready.entry depfiles dyndeps reads owned idle_entry looked));
  }

  pub ready_built : HasFormat → HasReading → HasDyndeps → IsEndOf tells outcome options old new (Built report)
  ready_built logs depfiles dyndeps = built_end tells outcome options old ready.entry new report ready.prepared (given, is_build logs depfiles dyndeps)
