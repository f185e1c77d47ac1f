-- What one build has come to that only looked, in the words of its contract.
use Rattle.std.proofs.Common.{◌≡◌, inl, inr, ℕ, zero, suc, ◌<◌, Bool, true, false, bytes_eq, ◌∷◌, IsTrue, List, [], ◌++◌, length, Some, Err, refl, sym, ◌∙◌, subst, arith}
use Rattle.model.specs.declared.graph.BuildGraph.{BuildGraph}
use Rattle.model.specs.declared.event.Event.{Event}
use Rattle.model.specs.declared.event.Moment.{Moment}
use Rattle.model.specs.declared.fault.SiteFault.{SiteFault}
use Rattle.model.specs.declared.fault.SiteFault.TheVariants.{Memory}
use Rattle.model.specs.World.{World, IsIdle}
use Rattle.model.specs.Calls.{OnlyLooks, HasCause}
use Rattle.model.specs.declared.graph.Edge.{Edge}
use Rattle.model.specs.Graph.{has, edge_at, inputs}
use Rattle.model.specs.Phases.{steps_of}
use Rattle.model.specs.Outcome.{Behaviour}
use Rattle.model.specs.Premises.{FilesAreKept}
use Rattle.model.specs.Records.{OwnFiles, Store, LogFormat, IsOwnIn, file_in, build_log_name, deps_log_name}
use Rattle.model.specs.SingleBuild as answer
use Rattle.model.specs.SingleBuild.{asked_with, Asked, Answer, IsSuccess, IsShownCycle, IsAnswer, NamesOther, SingleBuild}
use Rattle.std.proofs.lemmas.Bool.{false≢true, or_left}
use Rattle.theory.proofs.Lists.{has-left, has-right, bytes_same}
use Rattle.theory.proofs.Looks.{looks_nothing, looks_then}
use Rattle.theory.specs.Seen.{Unrefused, Looked}
use Rattle.theory.proofs.SiteCalls.{unrefused_none, unrefused_then}
use Rattle.paths.specs.Told.{text_at, texts_at}
use Rattle.graph.specs.declared.cone.ConeFault.{ConeFault}
use Rattle.graph.specs.declared.cone.ConeFault.TheVariants as cone_fault
use Rattle.graph.specs.declared.graph.Graph.{Graph}
use Rattle.graph.specs.declared.fault.GraphFault.{GraphFault}
use Rattle.graph.specs.declared.fault.GraphFault.TheVariants as graph_fault
use Rattle.graph.specs.Linked.{IsFaultOf}
use Rattle.graph.specs.Targets.{IsFirstUnknown, IsNoCone}
use Rattle.graph.specs.Told.{declared_by}
use Rattle.builder.specs.declared.asked.Limits.{Limits}
use Rattle.work.specs.declared.report.Refusal.{Refusal}
use Rattle.work.specs.declared.report.Refusal.TheVariants as refusal
use Rattle.work.specs.declared.report.Report.{Report}
use Rattle.work.specs.declared.report.Report.TheVariants.{Success, Failed, Refused, Fault}
use Rattle.builder.specs.Build.{asked_of, AreGraph, AreGraphs, Says, NamesFault, Builds}
use Rattle.builder.specs.Reports.{ShowsFault, SaysNoCone}
use Rattle.work.specs.Ends.{ungraphed}
use Rattle.work.specs.Recorded.{IsRecordedBy}
use Rattle.work.specs.Loads.{RefusesFile}
use Rattle.builder.proofs.Looking.{Built, IsFoundAt, none_loaded, passes_looking, built_looking, built_fault}

path_has : (ps : List (List ℕ)) (k : ℕ) → k < length ps → has ps (text_at ps k) ≡ true
path_has [] k lt = absurd (omega (arith, lt))
path_has (p ∷ ps) zero lt = has-left (p ∷ []) ps p (has_one p)
  where
    has_one : (p : List ℕ) → has (p ∷ []) p ≡ true
    has_one p = or_left (bytes_eq p p) false (bytes_same p)
path_has (p ∷ ps) (suc k) lt = has-right (p ∷ []) ps (text_at ps k) (path_has ps k (omega (arith, lt)))

-- edges that have as inputs the dyndep files which they name, name no other
pub names_inputs : (edges : List Edge) → ((i : ℕ) (file : List ℕ) → (edge_at edges i).dyndep ≡ Some file → has (inputs (edge_at edges i)) file ≡ true) → (file : List ℕ) → NamesOther edges file → ⊥
names_inputs edges are file names = false≢true (sym names.other ∙ are names.edge file names.names)

-- a report names no fault of edges that are a graph
names_none : (folder : List ℕ) (edges grown : List Edge) (given targets : List (List ℕ)) (report : Report) (said : Answer) → AreGraphs edges grown → ((path : List ℕ) → said ≡ answer.NoDyndepInput path → ⊥) → Says edges given targets report said → NamesFault folder edges grown report
names_none folder edges grown given targets (Success started) said graphs none says = tt
names_none folder edges grown given targets (Failed outputs) said graphs none says = tt
names_none folder edges grown given targets (Refused (refusal.File fault)) said graphs none says = tt
names_none folder edges grown given targets (Refused (refusal.MadeTwice path)) said graphs none says = inl graphs
names_none folder edges grown given targets (Refused (refusal.NoDyndepInput path)) said graphs none says = absurd (none path says)
names_none folder edges grown given targets (Refused (refusal.Occupied occupied)) said graphs none says = tt
names_none folder edges grown given targets (Refused (refusal.NoDyndep path)) said graphs none says = graphs
names_none folder edges grown given targets (Refused (refusal.BadVersion path)) said graphs none says = graphs
names_none folder edges grown given targets (Refused (refusal.BadStatement path)) said graphs none says = graphs
names_none folder edges grown given targets (Refused (refusal.Unfit unfit)) said graphs none says = graphs
names_none folder edges grown given targets (Refused (refusal.UnknownTarget target)) said graphs none says = graphs
names_none folder edges grown given targets (Refused (refusal.Cycle paths)) said graphs none says = graphs
names_none folder edges grown given targets (Refused (refusal.Missing missing)) said graphs none says = graphs
names_none folder edges grown given targets (Fault fault) said graphs none says = tt

module _ (tells : Bool) (B : Behaviour) (format : LogFormat) (own : OwnFiles) (graph : BuildGraph) (folder : List ℕ) (limits : Limits) (given targets : List (List ℕ)) (store : Store) (entry now : World) (found : IsFoundAt tells format own store entry now)
    (idle : IsIdle entry.events) where
  -- what was asked for
  abbrev The : Asked
  The = asked_of graph folder limits targets

  -- with these edges at the end
  abbrev BuildsOver : List Edge → Report → Type 0
  BuildsOver grown report = Builds tells B format own graph folder limits given targets grown entry now report

  -- where nothing was loaded
  abbrev pub BuildsAs : Report → Type 0
  BuildsAs report = Builds tells B format own graph folder limits given targets graph.edges entry now report

  -- these are the edges at the end, and the report gives the answer
  builds_named : (grown : List Edge) (report : Report) (said : Answer) → Says graph.edges given targets report said → NamesFault folder graph.edges grown report → Built tells B format own (asked_with The grown) entry now said report → BuildsOver grown report
  builds_named grown report said says named built = record {
    answer = said;
    said = says;
    named = named;
    build = built.build;
    refused = built.refused;
    headline = built.headline;
    logs = built.logs;
    alone = built.alone;
    removed = built.removed;
  }

  -- a dyndep file that is no input is answered over such edges alone
  names_other : (grown : List Edge) (said : Answer) → SingleBuild tells B format own (asked_with The grown) entry now said → (path : List ℕ) → said ≡ answer.NoDyndepInput path → NamesOther graph.edges path
  names_other grown said build path is =
      let lawful = build.schedule.lawful in
      (subst (λ (a : Answer). IsAnswer tells B own build.texts (asked_with The grown) build.store lawful.earlier (steps_of lawful.earlier ++ lawful.last) build.steps entry now a) is build.answers).2

  -- over edges that are a graph no fault of theirs is named
  pub builds_over : AreGraph graph.edges → (grown : List Edge) → AreGraph grown → (report : Report) (said : Answer) → Says graph.edges given targets report said
      → Built tells B format own (asked_with The grown) entry now said report → BuildsOver grown report
  builds_over first grown last report said says built =
      builds_named grown report said says
      (names_none folder graph.edges grown given targets report said (record { first = first; last = last }) (λ path is. first.inputs path (names_other grown said built.build path is)) says) built

  -- ---- refusals and faults before anything was loaded or judged

  builds_looked : Looked tells entry now → (report : Report) (said : Answer) → Says graph.edges given targets report said → NamesFault folder graph.edges graph.edges report → RefusesFile tells own The store [] entry now report → (IsSuccess said → ⊥)
      → IsAnswer tells B own none_loaded The store [] [] [] entry now said → BuildsAs report
  builds_looked looked report said says named refused failed is =
      builds_named graph.edges report said says named
      (built_looking tells B format own The store entry now found idle refl looked.looks said report refused failed (passes_looking tells entry now looked said) is)

  pub builds_fault : {T : Type 0} → OnlyLooks tells entry now → (fault : SiteFault) → HasCause {T = T} entry now (Err fault) → BuildsAs (Fault fault)
  builds_fault looks fault cause = builds_named graph.edges (Fault fault) (answer.Fault fault) refl tt (built_fault tells B format own The store entry now found idle refl looks fault cause)

  pub builds_memory : Looked tells entry now → BuildsAs (Fault Memory)
  builds_memory looked = builds_looked looked (Fault Memory) (answer.Fault Memory) refl tt tt (λ h. h) (inl looked.unrefused.failures)

  pub builds_ungraphed : Looked tells entry now → (fault : GraphFault) → IsFaultOf folder graph.edges fault → BuildsAs (ungraphed fault)
  builds_ungraphed looked graph_fault.Memory is = builds_memory looked
  builds_ungraphed looked (graph_fault.MadeTwice path) is =
      builds_looked looked (Refused (refusal.MadeTwice path)) (answer.MadeTwice path) refl (inr is) tt (λ h. h) ((λ none. looked.looks), (The, inl (refl, refl), is.0))
  builds_ungraphed looked (graph_fault.NoDyndepInput path) is =
      builds_looked looked (Refused (refusal.NoDyndepInput path)) (answer.NoDyndepInput path) refl is tt (λ h. h) ((λ none. looked.looks), refl, is.0)
  builds_ungraphed looked (graph_fault.Occupied occupied) is =
      builds_looked looked (Refused (refusal.Occupied occupied)) answer.Refused refl tt (refl, looked.looks, is) (λ h. h) ((λ none. looked.looks), inl refl)

  -- what is so of edges to which nothing was added
  graphs_now : AreGraph graph.edges → AreGraphs graph.edges graph.edges
  graphs_now formed = record { first = formed; last = formed }

  pub builds_unknown : AreGraph graph.edges → Looked tells entry now → (place : ℕ) → IsFirstUnknown graph.edges targets place → BuildsAs (Refused (refusal.UnknownTarget (text_at given place)))
  builds_unknown formed looked place first =
      builds_looked looked (Refused (refusal.UnknownTarget (text_at given place))) (answer.Unknown (text_at targets place))
      (text_at targets place, refl, record { place = place; first = first; text_is = refl; path_is = refl }) (graphs_now formed) tt (λ h. h)
      ((λ none. looked.looks), refl, path_has targets place first.within, first.unknown)

  pub builds_cycle : AreGraph graph.edges → Looked tells entry now → (paths : List (List ℕ)) → answer.AllNamed The → IsShownCycle The store paths → BuildsAs (Refused (refusal.Cycle paths))
  builds_cycle formed looked paths named cycle =
      builds_looked looked (Refused (refusal.Cycle paths)) (answer.Cyclic paths) refl (graphs_now formed) tt (λ h. h) ((λ none. looked.looks), named, (The, inl (refl, refl), cycle))

  of_memory : Looked tells entry now → (report : Report) → report ≡ Fault Memory → BuildsAs report
  of_memory looked report is = subst (λ (r : Report). BuildsAs r) (sym {A = Report} is) (builds_memory looked)

  of_refusal : AreGraph graph.edges → Looked tells entry now → (paths : List (List ℕ)) (fault : ConeFault) → IsNoCone The store paths fault → (refused : Refusal) → ShowsFault paths given fault refused → BuildsAs (Refused refused)
  of_refusal formed looked paths cone_fault.Memory none refused shows = absurd shows
  of_refusal formed looked paths (cone_fault.Unknown place) none refused shows =
      subst (λ (r : Refusal). BuildsAs (Refused r)) (sym {A = Refusal} shows) (builds_unknown formed looked place none)
  of_refusal formed looked paths (cone_fault.Cycle numbers) none refused shows =
      subst (λ (r : Refusal). BuildsAs (Refused r)) (sym {A = Refusal} shows) (builds_cycle formed looked (texts_at paths numbers) none.0 none.1)

  pub builds_uncut : AreGraph graph.edges → Looked tells entry now → (numbers : Graph) → graph ≡ declared_by numbers → IsRecordedBy numbers store → (report : Report) → SaysNoCone numbers given targets report → BuildsAs report
  builds_uncut formed looked numbers same in_use report (inl is) = of_memory looked report is
  builds_uncut formed looked numbers same in_use report (inr (refused, is, cause)) =
      subst (λ (r : Report). BuildsAs r) (sym {A = Report} is)
      (of_refusal formed looked numbers.manifest.paths cause.fault (cause.is The store refl same refl in_use) refused cause.shows)

-- ---- calls that only looked

pub looked_nothing : (tells : Bool) (w : World) → w.stopped ≡ false → Looked tells w w
looked_nothing tells w runs = record { looks = looks_nothing tells w; unrefused = unrefused_none w runs }

pub looked_more : (tells : Bool) (entry old new : World) → Looked tells entry old → OnlyLooks tells old new → Unrefused old new → Looked tells entry new
looked_more tells entry old new looked looks more = record { looks = looks_then tells entry old new looked.looks looks; unrefused = unrefused_then entry old new looked.unrefused more }

pub idle_after : (tells : Bool) (old new : World) → OnlyLooks tells old new → IsIdle old.events → IsIdle new.events
idle_after tells old new looks idle = subst IsIdle (sym {A = List Event} looks.events) idle

-- The program's own files may be any others beside those that lie in the folder: so that no files are kept, whatever was written.
abbrev pub any_own : List ℕ → OwnFiles
any_own folder = record { build_log = file_in folder build_log_name; deps_log = file_in folder deps_log_name; files = λ p. true; set = λ p. false }

pub own_in : (folder : List ℕ) → IsOwnIn (any_own folder) folder
own_in folder = record { build_log = refl; deps_log = refl; is_log = refl; is_deps = refl; tick = refl; new_log = refl; new_deps = refl; outputs = λ digits are. refl }

pub none_kept : (folder : List ℕ) (edges : List Edge) (old new : List Moment) → FilesAreKept (any_own folder) edges old new → ⊥
none_kept folder edges old new kept = false≢true (kept.own_files.within [] refl)

pub builds_grow : (tells : Bool) (B : Behaviour) (format : LogFormat) (own : OwnFiles) (graph : BuildGraph) (folder : List ℕ) (limits : Limits) (given targets : List (List ℕ)) (grown : List Edge) (old new : World) (report : Report)
    → Builds tells B format own graph folder limits given targets grown old new report → IsTrue tells → (later : List Moment) × (new.history ≡ old.history ++ later)
builds_grow tells B format own graph folder limits given targets grown old new report builds tell = let frame = builds.build.frame tell in (frame.more, frame.grows)
