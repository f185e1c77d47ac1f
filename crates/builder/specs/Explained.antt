-- What is told of the commands that are due.
use Rattle.std.specs.Prelude.{◌≡◌, Bool, List, Result, IfOk, OnOk}
use Rattle.std.specs.List.{AllZip}
use Rattle.std.specs.Option.{option_map}
use Rattle.model.specs.declared.graph.BuildGraph.{BuildGraph}
use Rattle.model.specs.declared.graph.Edge.{Edge}
use Rattle.model.specs.World.{World}
use Rattle.model.specs.Calls.{OnlyLooks}
use Rattle.model.specs.Phases.{Phase}
use Rattle.paths.specs.Told.{text_at, graph_of}
use Rattle.graph.specs.declared.cone.Cone.{Cone}
use Rattle.graph.specs.declared.graph.Graph.{Graph}
use Rattle.judge.specs.declared.looks.Looks.{Looks}
use Rattle.plan.specs.declared.plan.Plan.{Plan}
use Rattle.records.specs.declared.records.Records.{Records}
use Rattle.judge.specs.Lacks.{HasDue}
use Rattle.reasons.specs.declared.told.DueCommand.{DueCommand}
use Rattle.reasons.specs.Why.{HasTold}
use Rattle.work.specs.declared.state.Work.{Work}
use Rattle.work.specs.Course.{Course}
use Rattle.builder.specs.declared.asked.Asked.{Asked as Request}
use Rattle.builder.specs.declared.explained.Explanation.{Explanation}
use Rattle.builder.specs.Build.{asked_of}
use Rattle.work.specs.Standing.{BeginsAt}
use Rattle.work.specs.Ends.{first_output_of}
use Rattle.builder.specs.declared.explained.Explained.{Explained}
use Rattle.builder.specs.declared.reading.Reading.{Reading}
use Rattle.graph.specs.Told.{declared_by}

-- this is said of the command, in texts
pub record IsSaid (graph : Graph) (command : DueCommand) (said : Explanation) : Type 0 where
  pub edge : said.edge ≡ command.edge
  pub output : said.output ≡ first_output_of graph.manifest command.edge
  pub reason : said.reason ≡ command.reason
  pub path : said.path ≡ option_map (text_at graph.manifest.paths) command.path
  pub sure : said.is_sure ≡ command.is_sure

-- of each of these commands, in their order
abbrev pub AreSaid : Graph → List DueCommand → List Explanation → Type 0
AreSaid graph told said = AllZip (IsSaid graph) told said

-- This is said of just the commands of the cone with a flag, with why each is due.
pub record SaysDue (tells : Bool) (graph : Graph) (cone : Cone) (records : Records) (due : List Bool) (old new : World) (before after : Looks) (said : List Explanation) : Type 0 where
  pub told : List DueCommand
  pub why : HasTold tells graph cone records due old new before after told
  pub said_of : AreSaid graph told said

-- It is said of just the due commands of the cone, where this is the plan and these are the records.
pub record TellsDue (tells : Bool) (graph : Graph) (cone : Cone) (plan : Plan) (records : Records) (old new : World) (before after : Looks) (said : List Explanation) : Type 0 where
  pub due : List Bool
  pub mid : World
  pub seen : Looks
  pub has : HasDue tells graph records cone plan old mid before due
  pub says : SaysDue tells graph cone records due mid new seen after said

-- so it is said of the state of a run, where these are the due edges,
abbrev pub SaysDueAt : {S E : Type 0} → Bool → (S → World) → S → S → List Bool → Work → Work → Result Explained E → Type 0
SaysDueAt tells world old new due before after result =
    IfOk result (λ explained. SaysDue tells before.graph before.cone before.records due (world old) (world new) before.looks after.looks explained.commands.items)

-- or these are found
abbrev pub TellsDueAt : {S E : Type 0} → Bool → (S → World) → S → S → Work → Work → Result Explained E → Type 0
TellsDueAt tells world old new before after result =
    IfOk result (λ explained. TellsDue tells before.graph before.cone before.plan before.records (world old) (world new) before.looks after.looks explained.commands.items)

-- So it is where a phase of some build begins, up to which it was only looked.
pub record Explains (tells : Bool) (course : Course) (old new : World) (said : List Explanation) : Type 0 where
  pub edges : List Edge
  pub phases : List Phase
  pub graph : Graph
  pub state : Work
  pub begun : World
  pub looks : OnlyLooks tells old begun
  pub begins : BeginsAt tells course edges phases graph state begun
  pub after : Looks
  pub dues : TellsDue tells graph state.cone state.plan state.records begun new state.looks after said

-- so it is of each build that begins a phase here
abbrev pub ExplainsFrom : {S E : Type 0} → Bool → (S → World) → S → S → Work → Result Explained E → Type 0
ExplainsFrom tells world old new state result =
    IfOk result (λ explained. (course : Course) (edges : List Edge) (phases : List Phase) → BeginsAt tells course edges phases state.graph state (world old)
    → Explains tells course (world old) (world new) explained.commands.items)

-- each build that began a phase here begins one there
abbrev pub BeginsStill : {S T E : Type 0} → Bool → (S → World) → S → S → Work → Work → Result T E → Type 0
BeginsStill tells world old new before after result =
    OnOk result ((course : Course) (edges : List Edge) (phases : List Phase) → BeginsAt tells course edges phases before.graph before (world old)
    → (many : List Edge) × (more : List Phase) × BeginsAt tells course many more after.graph after (world new))

-- So it is of a build of what was asked over this graph, with what the loads add that it does before it starts anything, and for some files of
-- its own, format of logs and reading of depfiles and dyndep files.
pub record ExplainsBuild (tells : Bool) (graph : BuildGraph) (request : Request) (old new : World) (said : List Explanation) : Type 0 where
  pub course : Course
  pub asked : course.asked ≡ asked_of graph request.folder request.limits request.targets
  pub entry : World
  pub looks : OnlyLooks tells old entry
  pub explains : Explains tells course entry new said

-- what is answered is so of a graph in numbers,
abbrev pub ExplainsGraph : {S E : Type 0} → Bool → (S → World) → S → S → Graph → Request → Result Explained E → Type 0
ExplainsGraph tells world old new graph request result = IfOk result (λ explained. ExplainsBuild tells (declared_by graph) request (world old) (world new) explained.commands.items)

-- and of what was read
abbrev pub ExplainsReading : {S E : Type 0} → Bool → (S → World) → S → S → Reading → Result Explained E → Type 0
ExplainsReading tells world old new reading result = IfOk result (λ explained. ExplainsBuild tells (graph_of reading.manifest) reading.asked (world old) (world new) explained.commands.items)
