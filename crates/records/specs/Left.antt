-- What the calls of a run leave of its logs.
use Rattle.std.specs.Prelude.{ℕ, Bool, List, Option, Some, None}
use Rattle.std.specs.Borrow.{Bor}
use Rattle.model.specs.declared.graph.Edge.{Edge}
use Rattle.model.specs.World.{World}
use Rattle.model.specs.Outcome.{Behaviour}
use Rattle.model.specs.Records.{OwnFiles, LogFormat, Store}
use Rattle.model.specs.Schedule.{Step}
use Rattle.log_text.specs.Found.{texts_in}
use Rattle.graph.specs.declared.graph.Graph.{Graph}
use Rattle.records.specs.declared.logs.Logs.{Logs}
use Rattle.records.specs.declared.records.Records.{Records}
use Rattle.records.specs.Edges.{OfEdge}
use Rattle.records.specs.Logging.{IsLogging, IsLoggedStill, NoneInForce, IsReported, MayReport, EndedWell}

-- What is said of a run by its behaviour, its format, its own files, its steps, and the store and the world at its entry. They
-- are handed round as B, f, own, ss, s and w.
abbrev pub OfLogged : Type 1
OfLogged = Behaviour → LogFormat → OwnFiles → List Step → Store → World → Type 0

abbrev pub OfEntry : (Store → World → Type 0) → Type 0
OfEntry P = (entry : Store) (first : World) → P entry first

abbrev pub OfEach : OfLogged → Type 0
OfEach P = (B : Behaviour) (f : LogFormat) (own : OwnFiles) (ss : List Step) → OfEntry (P B f own ss)

-- where the one is so, the other is
abbrev pub Where : OfLogged → OfLogged → OfLogged
Where P Q = λ B f own ss s w. P B f own ss s w → Q B f own ss s w

abbrev pub Both : OfLogged → OfLogged → OfLogged
Both P Q = λ B f own ss s w. P B f own ss s w × Q B f own ss s w

-- the world, and what is kept of the logs
abbrev pub Now : Type 0
Now = World × Logs

-- the run goes on, with this edge in hand
abbrev pub GoesOn : Bool → List Edge → Option ℕ → Now → OfLogged
GoesOn tells edges hand at = λ B f own ss s w. IsLogging tells B f own edges ss hand s w at.0 at.1

abbrev pub InHand : Bool → List Edge → ℕ → Now → OfLogged
InHand tells edges i at = GoesOn tells edges (Some i) at

-- the logs tell of the run
abbrev pub AreTelling : Bool → List Edge → ℕ → Now → OfLogged
AreTelling tells edges i at = λ B f own ss s w. IsLoggedStill tells B f own edges ss (Some i) s w at.0

-- no output of the edge has a record in force
abbrev pub HasNone : Bool → List Edge → ℕ → Now → OfLogged
HasNone tells edges i at = λ B f own ss s w. NoneInForce tells f own edges i w at.0

-- its command, which was started under this stamp, may report what it read
abbrev pub CanReport : Bool → List Edge → ℕ → ℕ → Now → OfLogged
CanReport tells edges i stamp at = λ B f own ss s w. MayReport tells f own edges ss i stamp w at.0

-- it reported these paths
abbrev pub HasRead : Bool → List Edge → ℕ → ℕ → List (List ℕ) → Now → OfLogged
HasRead tells edges i stamp ps at = λ B f own ss s w. IsReported tells f own edges i stamp ps w at.0

-- its command, which was started under this stamp, ended well
abbrev pub HasEnded : Bool → List Edge → ℕ → ℕ → Now → OfLogged
HasEnded tells edges i stamp at = λ B f own ss s w. EndedWell tells B f own edges ss i stamp w at.0

-- ---- what a call leaves

-- a run with this edge in hand goes on so, and the logs tell that nothing is in force for the edge
abbrev pub Begun : Bool → List Edge → ℕ → Now → OfLogged
Begun tells edges i at = Both (InHand tells edges i at) (HasNone tells edges i at)

abbrev pub HasBegun : Bool → List Edge → ℕ → Now → Now → Type 0
HasBegun tells edges i old new = OfEach (Where (InHand tells edges i old) (Begun tells edges i new))

-- of a run with this edge in hand the logs tell still
abbrev pub Tell : Bool → List Edge → ℕ → Now → Now → OfLogged
Tell tells edges i old new = Where (InHand tells edges i old) (AreTelling tells edges i new)

abbrev pub TellBegun : Bool → List Edge → ℕ → Now → Now → Type 0
TellBegun tells edges i old new = OfEach (Tell tells edges i old new)

-- where its command may report
abbrev pub OfReport : Bool → ℕ → List Edge → ℕ → Now → OfLogged → Type 0
OfReport tells stamp edges i old P = OfEach (Where (CanReport tells edges i stamp old) P)

-- the run goes on so, and the logs tell what it reported
abbrev pub Reported : Bool → List Edge → ℕ → ℕ → List (List ℕ) → Now → OfLogged
Reported tells edges i stamp ps at = Both (InHand tells edges i at) (HasRead tells edges i stamp ps at)

abbrev pub Report : Bool → ℕ → List (Bor (List ℕ)) → List Edge → ℕ → Now → Now → OfLogged
Report tells stamp ps edges i old new = Where (InHand tells edges i old) (Reported tells edges i stamp (texts_in ps) new)

abbrev pub HasReported : Bool → ℕ → List (Bor (List ℕ)) → List Edge → ℕ → Now → Now → Type 0
HasReported tells stamp ps edges i old new = OfReport tells stamp edges i old (Report tells stamp ps edges i old new)

abbrev pub TellReported : Bool → ℕ → List Edge → ℕ → Now → Now → Type 0
TellReported tells stamp edges i old new = OfReport tells stamp edges i old (Tell tells edges i old new)

-- where its command ended well
abbrev pub OfEnd : Bool → ℕ → List Edge → ℕ → Now → OfLogged → Type 0
OfEnd tells stamp edges i old P = OfEach (Where (HasEnded tells edges i stamp old) P)

-- the run goes on with no edge in hand
abbrev pub Ends : Bool → List Edge → ℕ → Now → Now → OfLogged
Ends tells edges i old new = Where (InHand tells edges i old) (GoesOn tells edges None new)

abbrev pub HasDone : Bool → ℕ → List Edge → ℕ → Now → Now → Type 0
HasDone tells stamp edges i old new = OfEnd tells stamp edges i old (Ends tells edges i old new)

abbrev pub TellDone : Bool → ℕ → List Edge → ℕ → Now → Now → Type 0
TellDone tells stamp edges i old new = OfEnd tells stamp edges i old (Tell tells edges i old new)

-- ---- What a call leaves that is given a site: `world` tells the world of that, which the call found as `old` and left as `new`.

-- so it is of the edge with this number
abbrev pub LeavesLogs : {S : Type 0} → (List Edge → ℕ → Now → Now → Type 0) → (S → World) → S → S → Graph → ℕ → Records → Records → Type 0
LeavesLogs So world old new graph e before after = OfEdge So graph e (world old, before.logs) (world new, after.logs)
