-- Whether the command of an edge is out of date, by the files now and by the records of the entry.
use Rattle.std.specs.Prelude.{◌≡◌, ◌≢◌, ◌<◌, ℕ, suc, Bool, true, IsTrue, IfOk, List, [], length, Option, Some, is_some, Result, bytes_eq}
use Rattle.model.specs.declared.event.Moment.{Moment}
use Rattle.model.specs.declared.graph.Edge.{Edge}
use Rattle.model.specs.declared.reason.Reason.{Reason}
use Rattle.model.specs.declared.record.Record.{Record}
use Rattle.model.specs.declared.record.DepsRecord.{DepsRecord}
use Rattle.model.specs.World.{World, View, file_at, stamp_of}
use Rattle.model.specs.Graph.{has, edge_at, outputs}
use Rattle.model.specs.Reading.{IsRead}
use Rattle.model.specs.Records.{Store, recorded_inputs}
use Rattle.model.specs.OutOfDate.{Counted, ListsCounted, IsStaleByOutputs, input_facts, facts_of}
use Rattle.model.specs.Judgement.{reason_of}
use Rattle.paths.specs.declared.manifest.Action.TheVariants.{Command as OfCommand}
use Rattle.paths.specs.declared.manifest.Command.{Command}
use Rattle.paths.specs.Lists.{line_at}
use Rattle.paths.specs.Told.{edge_of, text_at}
use Rattle.graph.specs.declared.graph.Graph.{Graph}
use Rattle.graph.specs.Told.{declared_by, recorded_by}
use Rattle.records.specs.declared.records.Records.{Records}
use Rattle.records.specs.Known.{AreKnown}
use Rattle.judge.specs.declared.looks.Looks.{Looks}
use Rattle.judge.specs.Seen.{AreKept, IfKept}
use Rattle.judge.specs.Facts.{flag_at}

-- why the command of edge i has to run, if it has to: the reason of the table, by all that the judgement reads
pub record IsReasonBy (edges : List Edge) (store : Store) (ran : List ℕ) (old new : List Moment) (i : ℕ) (reason : Option Reason) : Type 0 where
  pub read : List (List ℕ)
  pub counted : ListsCounted edges store new i read
  pub is : reason ≡ reason_of (facts_of edges store ran old new i read)

-- every file is there
abbrev pub everything : View
everything = λ p. Some []

-- the set has all paths that the judgement of edge i may look at: its outputs, what it reads where every file is there, and its
-- recorded inputs
pub record HasPathsOf (edges : List Edge) (store : Store) (i : ℕ) (set : List ℕ → Bool) : Type 0 where
  pub made : (p : List ℕ) → has (outputs (edge_at edges i)) p ≡ true → set p ≡ true
  pub read : (p : List ℕ) → IsRead edges everything i p → set p ≡ true
  pub recorded : (p : List ℕ) → has (recorded_inputs store edges i) p ≡ true → set p ≡ true

-- the recorded inputs that the graph has for edge i are those in use by this store
abbrev pub AreRecordedOf : Graph → Store → ℕ → Type 0
AreRecordedOf graph store i = (p : List ℕ) → has (recorded_inputs store (declared_by graph).edges i) p ≡ has (recorded_by graph i) p

-- nobody has touched the outputs of edge i since the entry
abbrev pub AreUntouched : List Edge → List Moment → List Moment → ℕ → Type 0
AreUntouched edges old new i = (o : List ℕ) → has (outputs (edge_at edges i)) o ≡ true → stamp_of (file_at new o) ≡ stamp_of (file_at old o)

-- nor its depfile, where it names one
abbrev pub HasOldDepfile : List Edge → List Moment → List Moment → ℕ → Type 0
HasOldDepfile edges old new i = (edge_at edges i).act.depfile ≢ [] → file_at new (edge_at edges i).act.depfile ≡ file_at old (edge_at edges i).act.depfile

-- the depfile of edge i, where it names one, keeps its file between these worlds
abbrev pub KeepsDepfile : Bool → List Edge → World → World → ℕ → Type 0
KeepsDepfile tells edges old new i =
    IsTrue tells → (edge_at edges i).act.depfile ≢ [] → AreKept (bytes_eq (edge_at edges i).act.depfile) old.history new.history

-- of each path that counts for edge i the flag says whether this build made it anew
abbrev pub AreFlagsOf : Graph → Store → List Bool → List ℕ → List Moment → List Moment → ℕ → Type 0
AreFlagsOf graph store flags ran old new i =
    (p : ℕ) → p < length graph.manifest.paths → Counted (declared_by graph).edges store new i (text_at graph.manifest.paths p)
    → flag_at flags p ≡ (input_facts (declared_by graph).edges ran old new (text_at graph.manifest.paths p)).changed

-- Edge i may be judged by these records, flags and files, where just these edges ran well since the entry, and as long as the paths
-- of the set keep their files.
pub record MayBeJudgedBy (graph : Graph) (rs : List Record) (ds : List DepsRecord) (flags : List Bool) (store : Store) (ran : List ℕ) (old new : List Moment) (i : ℕ) (set : List ℕ → Bool) : Type 0 where
  pub records : store.records ≡ rs
  pub deps : store.deps ≡ ds
  pub recorded : AreRecordedOf graph store i
  pub untouched : AreUntouched (declared_by graph).edges old new i
  pub depfile : HasOldDepfile (declared_by graph).edges old new i
  pub flagged : AreFlagsOf graph store flags ran old new i
  pub paths : HasPathsOf (declared_by graph).edges store i set

-- Edge i may be judged by its outputs, with these records and files, as long as these keep their files: nobody has touched them, nor its
-- depfile.
pub record MayBeStaleBy (graph : Graph) (rs : List Record) (ds : List DepsRecord) (store : Store) (old new : List Moment) (i : ℕ) (set : List ℕ → Bool) : Type 0 where
  pub records : store.records ≡ rs
  pub deps : store.deps ≡ ds
  pub untouched : AreUntouched (declared_by graph).edges old new i
  pub depfile : HasOldDepfile (declared_by graph).edges old new i
  pub made : (p : List ℕ) → has (outputs (edge_at (declared_by graph).edges i)) p ≡ true → set p ≡ true

-- the answer for the edge that counts as e in the code, where all that it reads keeps its file, whatever the store, the edges that ran and
-- the files at the entry were
abbrev pub IsReasonFor : Graph → List Record → List DepsRecord → List Bool → ℕ → Option Reason → (List ℕ → Bool) → List Moment → Type 0
IsReasonFor graph rs ds flags e reason set files =
    (store : Store) (ran : List ℕ) (old : List Moment) → MayBeJudgedBy graph rs ds flags store ran old files (suc e) set
    → IsReasonBy (declared_by graph).edges store ran old files (suc e) reason

-- and where its outputs alone do: there is a reason where one holds by these
abbrev pub IsStaleFor : Graph → List Record → List DepsRecord → ℕ → Option Reason → (List ℕ → Bool) → List Moment → Type 0
IsStaleFor graph rs ds e reason set files =
    (store : Store) (old : List Moment) → MayBeStaleBy graph rs ds store old files (suc e) set
    → IsStaleByOutputs (declared_by graph).edges store old (suc e) → is_some reason ≡ true

-- so it is by these records and flags, for each set of paths that keep their files
abbrev pub IsAnswer : Graph → List Record → List DepsRecord → List Bool → ℕ → Option Reason → (List ℕ → Bool) → List Moment → Type 0
IsAnswer graph rs ds flags e reason set files = IsReasonFor graph rs ds flags e reason set files × IsStaleFor graph rs ds e reason set files

-- the answer is one for the edge that counts as e in the code, where its depfile kept its file between these worlds, by whatever records are
-- known
abbrev pub IsReasonFound : Bool → Graph → Records → World → World → Looks → List Bool → ℕ → Option Reason → Type 0
IsReasonFound tells graph records old new before flags e reason =
    (rs : List Record) (ds : List DepsRecord) → AreKnown graph rs ds records → KeepsDepfile tells (declared_by graph).edges old new (suc e)
    → IfKept tells graph.manifest.paths old new before.seen.items (IsAnswer graph rs ds flags e reason)

-- So it is of what is answered. `world` tells the world of the site, which the call found as `old` and left as `new`.
abbrev pub FindsReason : {S E : Type 0} → Bool → (S → World) → S → S → Graph → Records → Looks → List Bool → ℕ → Result (Option Reason) E → Type 0
FindsReason tells world old new graph records before flags e result =
    IfOk result (λ reason. IsReasonFound tells graph records (world old) (world new) before flags e reason)

-- the edge that counts as e in the code does what this command says
abbrev pub DoesCommand : Graph → ℕ → Command → Type 0
DoesCommand graph e command =
    edge_at (declared_by graph).edges (suc e) ≡ edge_of graph.manifest.paths (line_at graph.manifest.lines e) (OfCommand command)
