-- What is so wherever a build stands, and of the recorded inputs of any graph.
use Rattle.std.specs.Prelude.{◌≡◌, ◌<◌, ℕ, Bool, true, List, [], All, length, None}
use Rattle.model.specs.declared.graph.Edge.{Edge}
use Rattle.model.specs.World.{World}
use Rattle.model.specs.Graph.{edge_at}
use Rattle.model.specs.Phases.{Phase}
use Rattle.model.specs.Records.{Store}
use Rattle.graph.specs.declared.graph.Graph.{Graph}
use Rattle.graph.specs.Links.{links_of}
use Rattle.graph.specs.Told.{declared_by, recorded_by}
use Rattle.judge.specs.KeptDues.{HasMakersFirst}
use Rattle.plan.specs.declared.step.Step.TheVariants.{Load}
use Rattle.plan.specs.Planned.{IsNext}
use Rattle.work.specs.declared.state.Work.{Work}
use Rattle.work.specs.Course.{Course}
use Rattle.work.specs.Recorded.{IsRecordedBy}
use Rattle.work.specs.Standing.{StandsAt, BeginsAt, IsAtNextLoad}

-- the order of the cone names edges of the graph
abbrev pub OrdersStand : Graph → Type 0
OrdersStand graph =
    (tells : Bool) (course : Course) (edges : List Edge) (phases : List Phase) (state : Work) (now : World)
    → StandsAt tells course edges phases graph state now → All (λ e. e < length graph.manifest.lines) state.cone.order.items

-- it is one of makers first, and its marks say which edges are listed
abbrev pub MakersStandFirst : Graph → Type 0
MakersStandFirst graph =
    (tells : Bool) (course : Course) (edges : List Edge) (phases : List Phase) (state : Work) (now : World)
    → StandsAt tells course edges phases graph state now → HasMakersFirst graph state.cone

-- where a phase begins, and the plan says a file that no edge makes, the build stands at that load
abbrev pub SourcesLoad : Type 0
SourcesLoad =
    (tells : Bool) (course : Course) (edges : List Edge) (phases : List Phase) (graph : Graph) (state : Work) (now : World)
    → BeginsAt tells course edges phases graph state now → (file : ℕ) → IsNext state.plan (Load file) → (links_of graph).maker file ≡ None
    → IsAtNextLoad tells course edges phases graph state file now

-- where they are those in use, a phony edge has none
abbrev pub PhoniesRecordNone : Type 0
PhoniesRecordNone =
    (graph : Graph) (store : Store) → IsRecordedBy graph store → (i : ℕ) → (edge_at (declared_by graph).edges i).phony ≡ true → recorded_by graph i ≡ []
