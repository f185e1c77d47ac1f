-- What a command told in its depfile, from its end until that is recorded.
use Rattle.std.specs.Prelude.{◌≡◌, ◌≢◌, ℕ, suc, ◌&&◌, not, Bool, true, IsTrue, List, [], ◌∷◌, ◌++◌, Option, Some, None, Ok, Err, is_some, Result, OnOk, OnErr}
use Rattle.model.specs.declared.act.Act.{Act}
use Rattle.model.specs.declared.event.Event.TheVariants.{Finish}
use Rattle.model.specs.declared.event.Moment.{Moment}
use Rattle.model.specs.World.{World, file_at, content_of, view_of}
use Rattle.model.specs.Calls.{OnlyLooks, Sees, Finishes}
use Rattle.model.specs.Graph.{edge_at, has_number}
use Rattle.model.specs.Outcome.{depfile_in, listed}
use Rattle.model.specs.Records.{ListsOnce}
use Rattle.model.specs.Schedule.{Step as Done, well_in}
use Rattle.model.specs.Premises.{FilesAreKept, EndedAt}
use Rattle.model.specs.Kept.{StartedUnder}
use Rattle.depfile.specs.declared.fault.DepFault.{DepFault}
use Rattle.depfile.specs.Depfile.{IsRead}
use Rattle.graph.specs.declared.graph.Graph.{Graph}
use Rattle.graph.specs.Told.{declared_by}
use Rattle.records.specs.Logging.{NoneInForce}
use Rattle.work.specs.Course.{Course, edges_of, Suits, IsOn}
use Rattle.work.specs.Going.{MayTakeIn, IsCut}
use Rattle.work.specs.Removing.{EndsByRemoving}
use Rattle.work.specs.declared.reported.Told.{Told}
use Rattle.work.specs.declared.reported.Told.TheVariants.{Nothing, Inputs, Refused}
use Rattle.work.specs.declared.state.Work.{Work}
use Rattle.work.specs.EdgeIn.{edge_in}

-- ---- what is read

-- a file that holds this, or is absent, says so
abbrev pub Says : Option (List ℕ) → Told → Type 0
Says content Nothing = ⊥
Says None (Inputs paths) = paths ≡ []
Says None (Refused fault) = ⊥
Says (Some bytes) (Inputs paths) = IsRead bytes (Ok paths)
Says (Some bytes) (Refused fault) = IsRead bytes (Err fault)

-- The depfile of a command of this act, which ended so, was read between these worlds and says this: nothing where the command
-- failed or names no depfile.
abbrev pub WasRead : Bool → Act → Bool → World → World → Told → Type 0
WasRead tells act ok old new Nothing = ok ≡ true → act.depfile ≡ []
WasRead tells act ok old new (Inputs paths) =
    (ok ≡ true) × (act.depfile ≢ []) × (IsTrue tells → (content : Option (List ℕ)) × Sees (λ history. content_of (file_at history act.depfile)) content old.history new.history × Says content (Inputs paths))
WasRead tells act ok old new (Refused fault) =
    (ok ≡ true) × (act.depfile ≢ []) × (IsTrue tells → (content : Option (List ℕ)) × Sees (λ history. content_of (file_at history act.depfile)) content old.history new.history × Says content (Refused fault))

-- what is wrong with the depfile
abbrev pub fault_in : Told → Option DepFault
fault_in Nothing = None
fault_in (Inputs paths) = None
fault_in (Refused fault) = Some fault

-- a refused depfile makes its command a failed one
abbrev pub ended_well : Bool → Told → Bool
ended_well ok told = ok && not (is_some (fault_in told))

-- ---- a command that has ended

-- The run stood before a wait; then the command of edge i ended so, and was taken in; since then the program only looked, and found
-- what its depfile says.
pub record IsEnding (tells : Bool) (course : Course) (graph : Graph) (i : ℕ) (ok : Bool) (told : Told) (state : Work) (now : World) : Type 0 where
  pub before : World
  pub mid : World
  pub on : IsOn tells course graph None state before
  pub may : MayTakeIn course on.steps
  pub finishes : Finishes tells i ok before mid
  pub looks : OnlyLooks tells mid now
  pub read : WasRead tells (edge_at (edges_of course) i).act ok mid now told

-- so it is of some course, of the edge at this place
abbrev pub IsEndingOf : {S : Type 0} → Bool → (S → World) → S → Graph → ℕ → Bool → Told → Work → Type 0
IsEndingOf tells world now graph edge ok told state = (course : Course) × Suits course graph × IsEnding tells course graph (suc edge) ok told state (world now)

-- of each such course the run goes on,
abbrev pub EndsOn : {S T E : Type 0} → Bool → (S → World) → S → S → ℕ → Bool → Told → Work → Work → Result T E → Type 0
EndsOn tells world old new edge ok told before after result =
    OnOk result ((course : Course) → Suits course before.graph → IsEnding tells course before.graph (suc edge) ok told before (world old) → IsOn tells course before.graph None after (world new))

-- or a fault has cut it off
abbrev pub CutsEnd : {S T E : Type 0} → Bool → (S → World) → S → S → ℕ → Bool → Told → Work → Work → Result T E → Type 0
CutsEnd tells world old new edge ok told before after result =
    OnErr result ((course : Course) → Suits course before.graph → IsEnding tells course before.graph (suc edge) ok told before (world old) → IsCut tells course before.graph after.plan (world new))

-- ---- what is to be recorded

-- The command of edge i, which ended well, told these paths: those that its depfile listed when it ended, each once. One without
-- a depfile told nothing.
abbrev pub HasTold : Bool → Course → ℕ → Told → World → Type 0
HasTold tells course i Nothing now = (edge_at (edges_of course) i).act.depfile ≡ []
HasTold tells course i (Inputs paths) now =
    ((edge_at (edges_of course) i).act.depfile ≢ []) × (IsTrue tells → FilesAreKept course.own (edges_of course) course.entry.history now.history → (at : List Moment) → EndedAt i course.entry.history now.history at
    → ListsOnce paths (listed (depfile_in course.behaviour (edge_at (edges_of course) i).act (view_of at))))
HasTold tells course i (Refused fault) now = ⊥

-- The command of edge i was started under this stamp, ended well, told this, and was taken in; none of its outputs has a record
-- in force.
pub record WentWell (tells : Bool) (course : Course) (steps : List Done) (i stamp : ℕ) (said : Told) (now : World) : Type 0 where
  pub well : has_number (well_in steps) i ≡ true
  pub started : StartedUnder i stamp course.entry now
  pub ended : IsTrue tells → (at : List Moment) × EndedAt i course.entry.history now.history at
  pub none : NoneInForce tells course.format course.own (edges_of course) i course.entry now
  pub told : HasTold tells course i said now

-- where the command of the edge ended well, its response file is removed last,
abbrev pub RemovesIfWell : {S T E : Type 0} → Bool → (S → World) → S → S → Graph → ℕ → Bool → Result T E → Type 0
RemovesIfWell tells world old new graph edge ok result = OnOk result (ok ≡ true → EndsByRemoving tells (edge_in graph edge).act (world old) (world new))

-- also where its depfile says whether it did
abbrev pub RemovesIfTold : {S T E : Type 0} → Bool → (S → World) → S → S → Graph → ℕ → Bool → Told → Result T E → Type 0
RemovesIfTold tells world old new graph edge ok told result = RemovesIfWell tells world old new graph edge (ended_well ok told) result

-- the command that ended well, and was not noted as failed, has had its response file removed last
abbrev pub RemovesWhatEnded : {S T E : Type 0} → Bool → (S → World) → S → S → Work → Work → Result T E → Type 0
RemovesWhatEnded tells world old new before after result =
    OnOk result ((i : ℕ) → (world new).events ≡ (world old).events ++ Finish i true ∷ [] → after.failed ≡ before.failed → EndsByRemoving tells (edge_at (declared_by before.graph).edges i).act (world old) (world new))
