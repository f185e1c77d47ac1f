-- When the records of earlier builds may be believed. All is this project's own.
use Rattle.std.specs.Prelude.{◌≡◌, ℕ, ◌≤◌, ◌<◌, true, false, List, Option, Some, None}
use Rattle.model.specs.declared.event.Moment.{Moment}
use Rattle.model.specs.declared.graph.Edge.{Edge}
use Rattle.model.specs.World.{World, File, View, file_at, view_of, next_stamp, runs}
use Rattle.model.specs.Graph.{has, edge_at, outputs}
use Rattle.model.specs.Outcome.{Behaviour, ends_well, given, reports_of}
use Rattle.model.specs.Records.{Store, LogFormat, OwnFiles, Made, Told, store_in, in_force, deps_in_force, ListsOnce}

-- A record of output o is faithful where some view explains it: the recorded act ends well in that view; o, if it is there,
-- holds what the act gives in it; a deps record of the same start lists what the act reports in it; and each file that is
-- no later than the recorded start holds what the view holds. All that is written from now on is stamped later than that start.
pub record IsFaithfulRecord (B : Behaviour) (store : Store) (history : List Moment) (o : List ℕ) (made : Made) : Type 0 where
  pub seen : View
  pub well : ends_well B made.act seen ≡ true
  pub holds : (content : List ℕ) → view_of history o ≡ Some content → given B made.act seen o ≡ Some content
  pub reports : (deps : Told) → deps_in_force store.deps o ≡ Some deps → deps.start ≡ made.start → ListsOnce deps.paths (reports_of B made.act seen)
  pub older : (p : List ℕ) (file : File) → file_at history p ≡ Some file → file.stamp ≤ made.start → seen p ≡ Some file.content
  pub clock : made.start < next_stamp history

-- a log is absent, or can be read
abbrev pub IsReadable : {A : Type 0} → (List ℕ → Option (List A)) → Option (List ℕ) → Type 0
IsReadable {A} reading held = (content : List ℕ) → held ≡ Some content → (records : List A) × (reading content ≡ Some records)

-- No deps record in force is of a start that is still to come. (A command without a depfile that is then started under that stamp
-- would seem to have told it.)
abbrev pub DepsHaveStarted : Store → List Moment → Type 0
DepsHaveStarted store history = (o : List ℕ) (deps : Told) → deps_in_force store.deps o ≡ Some deps → deps.start < next_stamp history

-- all records in force are faithful and of none of the program's own files, the logs are not damaged, no deps record is of a start
-- to come, and no output of a running command has a record in force
pub record IsFaithfulStore (B : Behaviour) (format : LogFormat) (own : OwnFiles) (edges : List Edge) (world : World) : Type 0 where
  pub build_log : IsReadable format.records (view_of world.history own.build_log)
  pub deps_log : IsReadable format.deps (view_of world.history own.deps_log)
  pub records : (o : List ℕ) (made : Made) → in_force (store_in format own (view_of world.history)).records o ≡ Some made
      → IsFaithfulRecord B (store_in format own (view_of world.history)) world.history o made × (own.set o ≡ false)
  pub deps : DepsHaveStarted (store_in format own (view_of world.history)) world.history
  pub running : (job : ℕ) (o : List ℕ) → runs job world.events ≡ true → has (outputs (edge_at edges job)) o ≡ true
      → in_force (store_in format own (view_of world.history)).records o ≡ None
