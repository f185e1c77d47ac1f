-- What the logs tell at a point of a build, against what they told at its entry. No premise is named here, so that each call
-- carries it on.
use Rattle.std.specs.Prelude.{◌≡◌, ◌≢◌, ◌⊎◌, ℕ, true, List, [], ◌∷◌, ◌++◌, Option, Some, None}
use Rattle.model.specs.declared.event.Moment.{Moment}
use Rattle.model.specs.declared.event.Moment.TheVariants.{Wrote, Happened}
use Rattle.model.specs.declared.event.Event.TheVariants.{Start}
use Rattle.model.specs.declared.act.Act.{Act}
use Rattle.model.specs.declared.event.Writer.{Writer}
use Rattle.model.specs.declared.graph.Edge.{Edge}
use Rattle.model.specs.World.{World, view_of}
use Rattle.model.specs.Graph.{has, has_number, edge_at, outputs}
use Rattle.model.specs.Outcome.{Behaviour}
use Rattle.model.specs.Records.{Store, LogFormat, OwnFiles, Told, store_in, in_force, deps_in_force}
use Rattle.model.specs.Schedule.{Step, started_in, well_in}
use Rattle.model.specs.Premises.{EndedAt}
use Rattle.model.specs.Faithful.{IsReadable}
use Rattle.model.specs.Kept.{StartedUnder, IsRecorded}

-- since then a write was given this stamp, and then a command was started under it
pub record WasStamped (stamp : ℕ) (old new : List Moment) : Type 0 where
  pub before : List Moment
  pub by : Writer
  pub path : List ℕ
  pub content : Option (List ℕ)
  pub between : List Moment
  pub job : ℕ
  pub act : Act
  pub after : List Moment
  pub splits : new ≡ old ++ (before ++ Wrote by path content stamp ∷ (between ++ Happened (Start job act stamp) ∷ after))

-- no command that this build started makes the path, and it has the records that it had at the entry
pub record KeepsBoth (edges : List Edge) (steps : List Step) (entry store : Store) (o : List ℕ) : Type 0 where
  pub unstarted : (i : ℕ) → has_number (started_in steps) i ≡ true → has (outputs (edge_at edges i)) o ≡ true → ⊥
  pub records : in_force store.records o ≡ in_force entry.records o
  pub deps : deps_in_force store.deps o ≡ deps_in_force entry.deps o

-- no record of the path is in force, and a command makes it that was started, or is in hand
pub record HasNone (edges : List Edge) (steps : List Step) (hand : Option ℕ) (store : Store) (o : List ℕ) : Type 0 where
  pub edge : ℕ
  pub makes : has (outputs (edge_at edges edge)) o ≡ true
  pub begun : (has_number (started_in steps) edge ≡ true) ⊎ (hand ≡ Some edge)
  pub none : in_force store.records o ≡ None

-- the path has the records of a command that this build started and that ended well
pub record HasNew (B : Behaviour) (edges : List Edge) (steps : List Step) (store : Store) (old now : World) (o : List ℕ) : Type 0 where
  pub edge : ℕ
  pub stamp : ℕ
  pub at : List Moment
  pub makes : has (outputs (edge_at edges edge)) o ≡ true
  pub well : has_number (well_in steps) edge ≡ true
  pub started : StartedUnder edge stamp old now
  pub ended : EndedAt edge old.history now.history at
  pub recorded : IsRecorded B edges store edge stamp at o

-- the path has a deps record of a command with a depfile that this build started
pub record HasNewDeps (edges : List Edge) (store : Store) (old now : World) (o : List ℕ) : Type 0 where
  pub edge : ℕ
  pub deps : Told
  pub makes : has (outputs (edge_at edges edge)) o ≡ true
  pub depfile : (edge_at edges edge).act.depfile ≢ []
  pub started : StartedUnder edge deps.start old now
  pub is : deps_in_force store.deps o ≡ Some deps

-- Each path has the records of the entry, and no command was started that makes it; or none in force; or those of a command
-- that this build ran and that ended well. Each command that ended well is recorded, but for the one in hand: the edge whose
-- start or taking in is under way.
pub record IsLogged (B : Behaviour) (edges : List Edge) (steps : List Step) (hand : Option ℕ) (entry store : Store) (old now : World) : Type 0 where
  pub records : (o : List ℕ) → KeepsBoth edges steps entry store o ⊎ HasNone edges steps hand store o ⊎ HasNew B edges steps store old now o
  pub deps : (o : List ℕ) → (deps_in_force store.deps o ≡ deps_in_force entry.deps o) ⊎ HasNewDeps edges store old now o
  pub whole : (i : ℕ) (o : List ℕ) → has_number (well_in steps) i ≡ true → has (outputs (edge_at edges i)) o ≡ true → in_force store.records o ≡ None → hand ≡ Some i

-- both logs are absent or can be read
pub record AreReadable (format : LogFormat) (own : OwnFiles) (history : List Moment) : Type 0 where
  pub build_log : IsReadable format.records (view_of history own.build_log)
  pub deps_log : IsReadable format.deps (view_of history own.deps_log)

-- What the logs tell at this point, as their texts are read; logs that could be read at the entry can be read still. A run that
-- goes on keeps it, where the site tells its files and the files are kept (`IsTrue tells → FilesAreKept own edges old.history
-- now.history → IsLoggedAt ..`).
pub record IsLoggedAt (B : Behaviour) (format : LogFormat) (own : OwnFiles) (edges : List Edge) (steps : List Step) (hand : Option ℕ) (entry : Store) (old now : World) : Type 0 where
  pub readable : AreReadable format own old.history → AreReadable format own now.history
  pub logged : IsLogged B edges steps hand entry (store_in format own (view_of now.history)) old now
