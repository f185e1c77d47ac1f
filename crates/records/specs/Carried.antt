-- What a run carries of the file of one log, whichever log that is.
use Rattle.std.specs.Prelude.{◌≡◌, ◌⊎◌, ℕ, Bool, true, IsTrue, List, ◌++◌, Some}
use Rattle.model.specs.declared.event.Moment.{Moment}
use Rattle.model.specs.declared.graph.Edge.{Edge}
use Rattle.model.specs.World.{World, view_of, runs}
use Rattle.model.specs.Graph.{IsCommand}
use Rattle.model.specs.Records.{OwnFiles}
use Rattle.model.specs.Premises.{FilesAreKept}
use Rattle.log_text.specs.declared.form.Version.{Version}
use Rattle.log_text.specs.declared.form.Version.TheVariants.{Two}
use Rattle.log_text.specs.Form.{Form, IsLineOf}
use Rattle.log_text.specs.Keeping.{Keeping}
use Rattle.records.specs.Held.{Content, Forms, InForce, Held, HoldsStill, TellsMore}

-- so it is where the site tells its files and the files are kept
abbrev pub WhereKept : Bool → OwnFiles → List Edge → World → World → Type 0 → Type 0
WhereKept tells own edges first now So = IsTrue tells → FilesAreKept own edges first.history now.history → So

-- what the file of the log holds, in this case
abbrev pub IsHeldStill : {R T : Type 0} → (Version → Form R) → (List R → T → Type 0) → Bool → OwnFiles → List Edge → World → World → Held T → Type 0
IsHeldStill forms Keeps tells own edges first now file = WhereKept tells own edges first now (HoldsStill forms Keeps file.state file.log (view_of now.history file.path))

-- The file is that of a log, behind which records may be put, and only commands run.
pub record IsCarriedLog {R T : Type 0} (forms : Version → Form R) (Keeps : List R → T → Type 0) (tells : Bool) (own : OwnFiles) (edges : List Edge) (first now : World) (file : Held T) : Type 0 where
  pub path : (file.path ≡ own.build_log) ⊎ (file.path ≡ own.deps_log)
  pub commands : (job : ℕ) → runs job now.events ≡ true → IsCommand edges job
  pub grows : IsTrue tells → (so_far : List Moment) × (now.history ≡ first.history ++ so_far)
  pub held : IsHeldStill forms Keeps tells own edges first now file

-- ---- what calls leave of the file

-- what is said of a run, by its own files, its edges and the world at its entry, which are handed round as own, es and w
abbrev pub OfRun : Type 1
OfRun = OwnFiles → List Edge → World → Type 0

abbrev pub OfEachRun : OfRun → Type 0
OfEachRun P = (own : OwnFiles) (edges : List Edge) (first : World) → P own edges first

-- where the one is so, the other is
abbrev pub Where : OfRun → OfRun → OfRun
Where P Q = λ own es w. P own es w → Q own es w

-- of each run, and each record whose line this is
abbrev pub OfEachLine : {R : Type 0} → Form R → List ℕ → (R → OfRun) → Type 0
OfEachLine {R} form line P = OfEachRun (λ own es w. (r : R) → IsLineOf form r line → P r own es w)

-- the world, and what is kept of the log
abbrev pub At : Type 0 → Type 0
At T = World × Held T

-- the run carries the file
abbrev pub Holds : {R T : Type 0} → Forms R → Keeping R T → Bool → At T → OfRun
Holds forms Keeps tells at = λ own es w. IsCarriedLog forms Keeps tells own es w at.0 at.1

-- a run that carried it carries it on
abbrev pub Lasts : {R T : Type 0} → Forms R → Keeping R T → Bool → At T → At T → OfRun
Lasts forms Keeps tells old new = Where (Holds forms Keeps tells old) (Holds forms Keeps tells new)

abbrev pub CarriesOn : {R T : Type 0} → Forms R → Keeping R T → Bool → At T → At T → Type 0
CarriesOn forms Keeps tells old new = OfEachRun (Lasts forms Keeps tells old new)

-- so it does where this is the line of a record
abbrev pub CarriesLine : {R T : Type 0} → Forms R → Keeping R T → Bool → List ℕ → At T → At T → Type 0
CarriesLine forms Keeps tells line old new = OfEachLine (forms Two) line (λ r. Lasts forms Keeps tells old new)

-- what is said of a call, from the world and the log before to the world behind it
abbrev pub OfCall : Type 0 → Type 1
OfCall T = At T → World → Type 0

-- what is said of a file by what it held and holds
abbrev pub Change : Type 1
Change = Content → Content → Type 0

abbrev pub HasChanged : {T : Type 0} → Change → At T → World → Type 0
HasChanged So old new = So (view_of old.0.history old.1.path) (view_of new.history old.1.path)

-- so the file changed, where the files of the run are kept
abbrev pub Became : {T : Type 0} → Bool → Change → At T → World → OfRun
Became tells So old new = λ own es w. WhereKept tells own es w new (HasChanged So old new)

-- so it did in a run that carried it
abbrev pub Changes : {R T : Type 0} → Forms R → Keeping R T → Bool → Change → At T → World → OfRun
Changes forms Keeps tells So old new = Where (Holds forms Keeps tells old) (Became tells So old new)

abbrev pub ChangesSo : {R T : Type 0} → Forms R → Keeping R T → Bool → Change → OfCall T
ChangesSo forms Keeps tells So old new = OfEachRun (Changes forms Keeps tells So old new)

-- so it did where this is the line of a record
abbrev pub PutsSo : {R T : Type 0} → Forms R → Keeping R T → Bool → List ℕ → (R → Change) → OfCall T
PutsSo forms Keeps tells line So old new = OfEachLine (forms Two) line (λ r. Changes forms Keeps tells (So r) old new)

-- the file tells what has the same in force, and this record
abbrev pub TellsAlso : {R X : Type 0} → Forms R → InForce R X → R → Change
TellsAlso forms in_force r = TellsMore forms in_force (Some r)
