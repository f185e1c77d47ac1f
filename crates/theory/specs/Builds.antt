-- What follows of one build from what its run did, as statements that this crate proves: the headline, and what its logs keep.
use Rattle.std.specs.Prelude.{◌⊎◌, ℕ, Bool, IsTrue, List, Option}
use Rattle.model.specs.World.{World, IsIdle}
use Rattle.model.specs.Calls.{OnlyLooks}
use Rattle.model.specs.Graph.{IsMadeOnce}
use Rattle.model.specs.Outcome.{Behaviour}
use Rattle.model.specs.Records.{OwnFiles, LogFormat, Store}
use Rattle.model.specs.Schedule.{Step}
use Rattle.model.specs.Premises.{FilesAreKept, StartsAreTicked}
use Rattle.model.specs.SingleBuild.{Asked, Answer, SingleBuild, task_of}
use Rattle.model.specs.History.{IsHeadline}
use Rattle.model.specs.Kept.{KeepsLogs}
use Rattle.theory.specs.Run.{IsRunOrRest}
use Rattle.theory.specs.Logged.{IsLoggedAt}

-- What the run of a build did, as it carries it from call to call: its schedule and history, what its logs tell, and the stamps of
-- its starts. Where a path is made twice, the build has only looked.
pub record IsRunOf (tells : Bool) (B : Behaviour) (format : LogFormat) (own : OwnFiles) (asked : Asked) (store : Store) (steps : List Step) (hand : Option ℕ) (old new : World) : Type 0 where
  pub idle : IsIdle old.events
  pub run : IsRunOrRest tells own (task_of asked store) steps old new
  pub made_once : IsMadeOnce asked.graph.edges ⊎ OnlyLooks tells old new
  pub logged : IsTrue tells → FilesAreKept own asked.graph.edges old.history new.history → IsLoggedAt B format own asked.graph.edges steps hand store old new
  pub ticked : IsTrue tells → StartsAreTicked old.history new.history

-- A build with such a run is as the headline says, whatever it answers.
abbrev pub HeadlineOfRun : Type 0
HeadlineOfRun =
    (tells : Bool) (B : Behaviour) (format : LogFormat) (own : OwnFiles) (asked : Asked) (old new : World) (answer : Answer)
    (build : SingleBuild tells B format own asked old new answer) (hand : Option ℕ)
    → IsRunOf tells B format own asked build.store build.steps hand old new → IsHeadline tells B format own asked old new answer build

-- A build with such a run, in which the edge that is in hand at the exit is the one that met the fault, keeps its logs.
abbrev pub LogsOfRun : Type 0
LogsOfRun =
    (tells : Bool) (B : Behaviour) (format : LogFormat) (own : OwnFiles) (asked : Asked) (old new : World) (answer : Answer)
    (build : SingleBuild tells B format own asked old new answer)
    → IsRunOf tells B format own asked build.store build.steps build.met old new → KeepsLogs tells B format own asked old new answer build
