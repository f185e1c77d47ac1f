-- Dyndep files: what they add to the edges, and builds that load them. Where an edge's dyndep file is loaded, it names none any more.
use Rattle.std.specs.Prelude.{◌≡◌, ◌≢◌, ◌⊎◌, ℕ, suc, ◌<◌, Bool, true, false, IsTrue, List, [], ◌∷◌, ◌++◌, length, Option, Some, None}
use Rattle.std.specs.List.{AllByRecursion}
use Rattle.model.specs.declared.graph.Edge.{Edge}
use Rattle.model.specs.Graph.{has, has_number, edge_at, maker, outputs, IsCommand, IsMadeOnce, Addition, grown_edge}
use Rattle.model.specs.declared.event.Moment.{Moment}
use Rattle.model.specs.declared.event.Moment.TheVariants.{Wrote, Happened}
use Rattle.model.specs.World.{View}
use Rattle.model.specs.OutOfDate.{NothingIsMissing}
use Rattle.model.specs.Reading.{needs, IsInCone, IsCycle}
use Rattle.model.specs.Records.{Store, OwnFiles, recorded_inputs}
use Rattle.model.specs.Premises.{OnlyFreeIsEdited, RecordedApart}
use Rattle.model.specs.Schedule.{Task, Step, Judged, Started, Ended, started_in, ended_in, running_in, IsLawfulFrom, IsSettledPath}

-- ---- what a file adds

-- just one statement is of the edge
pub record IsOnlyFor (e : Edge) (additions : List Addition) (a : Addition) : Type 0 where
  pub before : List Addition
  pub after : List Addition
  pub splits : additions ≡ before ++ a ∷ after
  pub fits : has (outputs e) a.output ≡ true
  pub earlier : AllByRecursion (λ b. has (outputs e) b.output ≡ false) before
  pub later : AllByRecursion (λ b. has (outputs e) b.output ≡ false) after

-- The edges after the file is loaded: each that names it has what its one statement adds, the others are as they were, and
-- no statement is of another.
pub record IsGrownBy (file : List ℕ) (additions : List Addition) (edges next : List Edge) : Type 0 where
  pub as_many : length next ≡ length edges
  pub named : (i : ℕ) → (edge_at edges i).dyndep ≡ Some file → (a : Addition) × IsOnlyFor (edge_at edges i) additions a × (edge_at next i ≡ grown_edge (edge_at edges i) a)
  pub others : (i : ℕ) → ((edge_at edges i).dyndep ≡ Some file → ⊥) → edge_at next i ≡ edge_at edges i
  pub fit : AllByRecursion (λ a. (i : ℕ) × ((edge_at edges i).dyndep ≡ Some file) × (has (outputs (edge_at edges i)) a.output ≡ true)) additions

-- ---- when a file is loaded

-- an edge of the cone names the file, and the file is settled: it has to be loaded before anything else
pub record IsDueLoad (task : Task) (before : List Step) (file : List ℕ) : Type 0 where
  pub edge : ℕ
  pub within : IsInCone task.graph.edges task.recorded task.targets edge
  pub names : (edge_at task.graph.edges edge).dyndep ≡ Some file
  pub settled : IsSettledPath task.graph.edges before file

abbrev pub NoLoadIsDue : Task → List Step → Type 0
NoLoadIsDue task before = (file : List ℕ) → IsDueLoad task before file → ⊥

-- edge i is the first that names the file
pub record IsFirstNamer (edges : List Edge) (file : List ℕ) (i : ℕ) : Type 0 where
  pub names : (edge_at edges i).dyndep ≡ Some file
  pub first : (k : ℕ) → k < i → (edge_at edges k).dyndep ≡ Some file → ⊥

-- the file goes before the other: one that no edge makes before one that is made, else the one that is named first (this project's own)
pub data GoesBefore (edges : List Edge) (file other : List ℕ) : Type 0 where
  BySource : (j : ℕ) → maker edges file ≡ None → maker edges other ≡ Some j → GoesBefore edges file other
  ByNamer : (i k : ℕ) → (maker edges other ≡ None → maker edges file ≡ None) → IsFirstNamer edges file i → IsFirstNamer edges other k → i < k → GoesBefore edges file other

-- the file is loaded next
pub record IsNextLoad (task : Task) (before : List Step) (file : List ℕ) : Type 0 where
  pub due : IsDueLoad task before file
  pub lowest : (other : List ℕ) → IsDueLoad task before other → (other ≡ file) ⊎ GoesBefore task.graph.edges file other

-- each of these steps comes where no load is due: a load goes before a judgement, a start and a finish (this project's own)
abbrev pub AreUnloadedFrom : Task → List Step → List Step → Type 0
AreUnloadedFrom task before [] = Unit {0}
AreUnloadedFrom task before (step ∷ steps) = NoLoadIsDue task before × AreUnloadedFrom task (before ++ step ∷ []) steps

-- ---- phases

-- what was done between two loads, and the edges as they were known then
pub record Phase : Type 0 where
  pub edges : List Edge
  pub steps : List Step

abbrev pub steps_of : List Phase → List Step
steps_of [] = []
steps_of (phase ∷ phases) = phase.steps ++ steps_of phases

-- the steps of a phase are lawful over the edges of then, after all steps before, and come where no load is due
pub record IsLawfulPhase (task : Task) (before steps : List Step) : Type 0 where
  pub lawful : IsLawfulFrom task before steps
  pub unloaded : AreUnloadedFrom task before steps

-- the same task over other edges
abbrev pub task_with : Task → Store → List Edge → Task
task_with task store edges = record {
  graph = record { edges = edges; pools = task.graph.pools; defaults = task.graph.defaults; builddir = task.graph.builddir };
  recorded = recorded_inputs store edges;
  targets = task.targets;
  jobs = task.jobs;
  keep = task.keep;
}

-- the next file is loaded: it can be read, and fits; `texts` are what the loaded files held
pub record IsLoad (reading : List ℕ → Option (List Addition)) (texts : View) (task : Task) (before : List Step) (next : List Edge) : Type 0 where
  pub file : List ℕ
  pub is_next : IsNextLoad task before file
  pub content : List ℕ
  pub holds : texts file ≡ Some content
  pub additions : List Addition
  pub read : reading content ≡ Some additions
  pub grown : IsGrownBy file additions task.graph.edges next

-- no path is made twice, and the cone has no cycle
pub record IsInOrderAt (store : Store) (task : Task) : Type 0 where
  pub once : IsMadeOnce task.graph.edges
  pub acyclic : (i : ℕ) → IsInCone task.graph.edges task.recorded task.targets i → IsCycle task.graph.edges task.recorded i → ⊥

abbrev pub next_edges : List Phase → List Edge → List Edge
next_edges [] last = last
next_edges (phase ∷ phases) last = phase.edges

-- each phase is lawful, and ends with a load
abbrev pub ArePhasesFrom : (List ℕ → Option (List Addition)) → View → Task → Store → List Step → List Phase → Type 0
ArePhasesFrom reading texts task store before [] = Unit {0}
ArePhasesFrom reading texts task store before (phase ∷ phases) =
    IsLawfulPhase (task_with task store phase.edges) before phase.steps
    × IsLoad reading texts (task_with task store phase.edges) (before ++ phase.steps) (next_edges phases task.graph.edges)
    × IsInOrderAt store (task_with task store (next_edges phases task.graph.edges))
    × ArePhasesFrom reading texts task store (before ++ phase.steps) phases

-- commands that run are taken in after a load that was refused, in any order
abbrev pub AreTakenIn : List Step → List Step → Type 0
AreTakenIn before [] = Unit {0}
AreTakenIn before (Judged i b ∷ steps) = ⊥
AreTakenIn before (Started i ∷ steps) = ⊥
AreTakenIn before (Ended i well ∷ steps) = (has_number (running_in before) i ≡ true) × AreTakenIn (before ++ Ended i well ∷ []) steps

-- The steps of a build that loads dyndep files: phases that end with a load, from the edges as the build files have them; a
-- last phase, over the edges of the task; and where a load was refused, the commands that were taken in after it. A build
-- without dyndep files has the last phase alone.
pub record IsLawfulBuild (reading : List ℕ → Option (List Addition)) (texts : View) (declared : List Edge) (task : Task) (store : Store) (steps : List Step) : Type 0 where
  pub earlier : List Phase
  pub last : List Step
  pub taken_in : List Step
  pub whole : steps ≡ steps_of earlier ++ (last ++ taken_in)
  pub begins : next_edges earlier task.graph.edges ≡ declared
  pub phases : ArePhasesFrom reading texts task store [] earlier
  pub lawful : IsLawfulPhase task (steps_of earlier) last
  pub rest : AreTakenIn (steps_of earlier ++ last) taken_in
  -- a load is due then, which was refused; or one was made just before, and an input is missing
  pub cause : (taken_in ≡ []) ⊎ ((last ≡ []) ⊎ ((file : List ℕ) × IsDueLoad task (steps_of earlier ++ last) file))

-- ---- when missing sources are asked for

-- how many starts and finishes are among these moments
abbrev pub happened_in : List Moment → ℕ
happened_in [] = 0
happened_in (Wrote by path content stamp ∷ moments) = happened_in moments
happened_in (Happened event ∷ moments) = suc (happened_in moments)

-- none of these moments is a write behind the last start and the last finish
abbrev pub EndsInEvent : List Moment → Type 0
EndsInEvent [] = Unit {0}
EndsInEvent (Wrote by path content stamp ∷ moments) = (moments ≢ []) × EndsInEvent moments
EndsInEvent (Happened event ∷ moments) = EndsInEvent moments

-- the site right behind the last start or finish of these steps; before the first start, at the entry
pub record IsPointAfter (before : List Step) (old new at : List Moment) : Type 0 where
  pub so_far : List Moment
  pub later : List Moment
  pub is : at ≡ old ++ so_far
  pub grows : new ≡ at ++ later
  pub happened : happened_in so_far ≡ length (started_in before ++ ended_in before)
  pub entry : started_in before ≡ [] → at ≡ old
  pub behind : EndsInEvent so_far

-- a moment at which just these steps were done: as many starts and finishes came before it as are among them
pub record IsMomentAfter (before : List Step) (old new at : List Moment) : Type 0 where
  pub so_far : List Moment
  pub later : List Moment
  pub is : at ≡ old ++ so_far
  pub grows : new ≡ at ++ later
  pub happened : happened_in so_far ≡ length (started_in before ++ ended_in before)

-- Where a command was started, the targets and the recorded inputs lie outside the set of the program's own files, depfiles and
-- response files: the program removes an old depfile, and writes a response file, before a start.
abbrev pub AreAskedApart : OwnFiles → Task → List Step → Type 0
AreAskedApart own task before =
    (started_in before ≡ []) ⊎ (RecordedApart own task.recorded × ((p : List ℕ) → has task.targets p ≡ true → own.set p ≡ false))

-- no path that an edge needs or names as an output, and no target, is one that others may write meanwhile
abbrev pub NothingNeededIsFree : (List ℕ → Bool) → Task → Type 0
NothingNeededIsFree free task =
    ((i : ℕ) (p : List ℕ) → has (needs task.graph.edges task.recorded i) p ≡ true → free p ≡ false)
    × ((p : List ℕ) → has task.targets p ≡ true → free p ≡ false)
    × ((i : ℕ) (p : List ℕ) → has (outputs (edge_at task.graph.edges i)) p ≡ true → free p ≡ false)

-- nor is a depfile that a command names
abbrev pub NoDepfileIsFree : (List ℕ → Bool) → List Edge → Type 0
NoDepfileIsFree free edges = (i : ℕ) → IsCommand edges i → (edge_at edges i).act.depfile ≢ [] → free (edge_at edges i).act.depfile ≡ false

-- So it is where nothing was started yet, and others write nothing that is needed, whatever the program's own files are named like.
abbrev pub IfUnstarted : Bool → Task → List Step → List Moment → List Moment → Type 0 → Type 0
IfUnstarted tells task before old new So =
    IsTrue tells → started_in before ≡ [] → (free : List ℕ → Bool) → OnlyFreeIsEdited free old new → NothingNeededIsFree free task → NoDepfileIsFree free task.graph.edges → So

-- nothing is missing at this point, where all files that no edge makes are loaded
abbrev pub IsNothingMissing : OwnFiles → Task → Store → List Step → List Moment → List Moment → Type 0
IsNothingMissing own task store before old new =
    ((file : List ℕ) → IsDueLoad task before file → maker task.graph.edges file ≡ None → ⊥) → AreAskedApart own task before
    → (at : List Moment) → IsPointAfter before old new at → NothingIsMissing task.graph.edges store before at task.targets

-- nor was anything missing when these phases began
abbrev pub WasNothingMissing : OwnFiles → Task → Store → List Moment → List Moment → List Step → List Phase → Type 0
WasNothingMissing own task store old new before [] = IsNothingMissing own task store before old new
WasNothingMissing own task store old new before (phase ∷ phases) =
    IsNothingMissing own (task_with task store phase.edges) store before old new × WasNothingMissing own task store old new (before ++ phase.steps) phases

-- nor was anything missing when these phases began, and a last one that has steps
abbrev pub WasNothingMissingIn : OwnFiles → Task → Store → List Moment → List Moment → List Step → List Phase → List Step → Type 0
WasNothingMissingIn own task store old new before [] [] = Unit {0}
WasNothingMissingIn own task store old new before [] (step ∷ last) = IsNothingMissing own task store before old new
WasNothingMissingIn own task store old new before (phase ∷ phases) last =
    IsNothingMissing own (task_with task store phase.edges) store before old new × WasNothingMissingIn own task store old new (before ++ phase.steps) phases last
