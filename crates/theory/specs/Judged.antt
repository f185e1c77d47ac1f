-- What a run carries of its verdicts and of the depfiles that it read: no premise is named here but where a moment needs it.
use Rattle.std.specs.Prelude.{◌≡◌, ℕ, Bool, true, IsTrue, List, [], ◌∷◌, ◌++◌, Option, None}
use Rattle.model.specs.declared.event.Moment.{Moment}
use Rattle.model.specs.declared.graph.Edge.{Edge}
use Rattle.model.specs.World.{World, View, IsIdle}
use Rattle.model.specs.Graph.{has_number, edge_at, IsMadeOnce}
use Rattle.model.specs.Outcome.{Behaviour}
use Rattle.model.specs.Records.{Store, OwnFiles, recorded_inputs}
use Rattle.model.specs.OutOfDate.{ReadsNoFree, IsVerdict}
use Rattle.model.specs.Schedule.{judged_in, Step, Judged, Started, Ended, IsLawful, well_in}
use Rattle.model.specs.Premises.{FilesAreKept, RecordedApart, InputsAreKnown}
use Rattle.model.specs.SingleBuild.{Asked, NamesOther, task_of, IsJudged, AreJudgedAt, ArePhasesJudgedAt, EndRightly}
use Rattle.model.specs.Phases.{Phase, steps_of, task_with, IsLawfulBuild}
use Rattle.theory.specs.Run.{IsRun, IsRunOrRest}

-- edge i was judged when just these steps were done, and rightly by the files of then
pub record JudgedThen (tells : Bool) (own : OwnFiles) (asked : Asked) (store : Store) (before : List Step) (i : ℕ) (out_of_date : Bool) (old now : World) : Type 0 where
  pub mid : World
  pub run : IsRunOrRest tells own (task_of asked store) before old mid
  pub more : List Moment
  pub grows : IsTrue tells → now.history ≡ mid.history ++ more
  pub right : IsTrue tells → (files : FilesAreKept own asked.graph.edges old.history mid.history) → RecordedApart own (recorded_inputs store asked.graph.edges)
      → ReadsNoFree files.free asked.graph.edges store mid.history i → IsVerdict asked.graph.edges store (well_in before) old.history mid.history i out_of_date

-- so was each edge among the steps
abbrev pub AreJudgedThen : Bool → OwnFiles → Asked → Store → List Step → World → World → Type 0
AreJudgedThen tells own asked store steps old now =
    (before after : List Step) (i : ℕ) (out_of_date : Bool) → steps ≡ before ++ Judged i out_of_date ∷ after → JudgedThen tells own asked store before i out_of_date old now

-- In a build that loads no dyndep file, verdicts that were right by the files of then are right by those of the exit.
abbrev pub VerdictsAtExit : Type 0
VerdictsAtExit =
    (tells : Bool) (B : Behaviour) (own : OwnFiles) (asked : Asked) (store : Store) (steps : List Step) (met : Option ℕ) (old now : World)
    → IsTrue tells → IsIdle old.events → IsMadeOnce asked.graph.edges → IsLawful (task_of asked store) steps
    → IsRunOrRest tells own (task_of asked store) steps old now → AreJudgedThen tells own asked store steps old now
    → (files : FilesAreKept own asked.graph.edges old.history now.history) → RecordedApart own (recorded_inputs store asked.graph.edges)
    → EndRightly B asked.graph.edges steps met old.history now.history
    → IsJudged B files.free asked store steps met old.history now.history

-- ---- builds that load dyndep files

-- edge i was judged when just these steps were done, rightly by the edges and files of then
pub record JudgedOver (tells : Bool) (own : OwnFiles) (asked : Asked) (store : Store) (edges : List Edge) (before : List Step) (i : ℕ) (out_of_date : Bool) (old now : World) : Type 0 where
  pub mid : World
  pub run : IsRun tells own (task_with (task_of asked store) store edges) before old mid
  pub loaded : (k : ℕ) → has_number (judged_in before) k ≡ true → (edge_at edges k).dyndep ≡ None
  pub more : List Moment
  pub grows : IsTrue tells → now.history ≡ mid.history ++ more
  pub right : IsTrue tells → (files : FilesAreKept own edges old.history mid.history) → RecordedApart own (recorded_inputs store edges)
      → ReadsNoFree files.free edges store mid.history i → IsVerdict edges store (well_in before) old.history mid.history i out_of_date

-- so was each edge that was judged in these steps, after those before them
abbrev pub AreJudgedOver : Bool → OwnFiles → Asked → Store → List Edge → List Step → List Step → World → World → Type 0
AreJudgedOver tells own asked store edges before [] old now = Unit {0}
AreJudgedOver tells own asked store edges before (Judged i out_of_date ∷ steps) old now =
    JudgedOver tells own asked store edges before i out_of_date old now × AreJudgedOver tells own asked store edges (before ++ Judged i out_of_date ∷ []) steps old now
AreJudgedOver tells own asked store edges before (Started i ∷ steps) old now = AreJudgedOver tells own asked store edges (before ++ Started i ∷ []) steps old now
AreJudgedOver tells own asked store edges before (Ended i well ∷ steps) old now = AreJudgedOver tells own asked store edges (before ++ Ended i well ∷ []) steps old now

-- so in each phase, over its edges
abbrev pub ArePhasesJudged : Bool → OwnFiles → Asked → Store → List Step → List Phase → World → World → Type 0
ArePhasesJudged tells own asked store before [] old now = Unit {0}
ArePhasesJudged tells own asked store before (phase ∷ phases) old now =
    AreJudgedOver tells own asked store phase.edges before phase.steps old now × ArePhasesJudged tells own asked store (before ++ phase.steps) phases old now

-- Verdicts that were right by the edges and files of then are so at these moments, whatever is known of inputs.
abbrev pub VerdictsAtMoments : Type 0
VerdictsAtMoments =
    (tells : Bool) (B : Behaviour) (own : OwnFiles) (texts : View) (asked : Asked) (store : Store) (steps : List Step) (old now : World)
    → IsTrue tells → IsIdle old.events → (build : IsLawfulBuild B.dyndep texts asked.declared (task_of asked store) store steps)
    → ArePhasesJudged tells own asked store [] build.earlier old now → AreJudgedOver tells own asked store asked.graph.edges (steps_of build.earlier) build.last old now
    → (files : FilesAreKept own asked.graph.edges old.history now.history) → RecordedApart own (recorded_inputs store asked.graph.edges)
    → ArePhasesJudgedAt files.free store [] build.earlier old.history now.history
    × AreJudgedAt files.free asked.graph.edges store (steps_of build.earlier) build.last old.history now.history

-- Verdicts that were right by the edges and files of then are right by those of the exit, where inputs are known.
abbrev pub VerdictsWithLoads : Type 0
VerdictsWithLoads =
    (tells : Bool) (B : Behaviour) (own : OwnFiles) (texts : View) (asked : Asked) (store : Store) (steps : List Step) (met : Option ℕ) (old now : World)
    → IsTrue tells → IsIdle old.events → IsMadeOnce asked.graph.edges → ((file : List ℕ) → NamesOther asked.declared file → ⊥)
    → (build : IsLawfulBuild B.dyndep texts asked.declared (task_of asked store) store steps)
    → IsRunOrRest tells own (task_of asked store) steps old now
    → ArePhasesJudged tells own asked store [] build.earlier old now → AreJudgedOver tells own asked store asked.graph.edges (steps_of build.earlier) build.last old now
    → (files : FilesAreKept own asked.graph.edges old.history now.history) → RecordedApart own (recorded_inputs store asked.graph.edges)
    → InputsAreKnown asked.declared asked.graph.edges (recorded_inputs store asked.graph.edges)
    → EndRightly B asked.graph.edges steps met old.history now.history
    → IsJudged B files.free asked store steps met old.history now.history
