-- What targets are built, and why they have no cone.
use Rattle.std.specs.Prelude.{◌≡◌, ℕ, ◌<◌, true, false, List, [], map, length, All}
use Rattle.std.specs.List.{AllByRecursion}
use Rattle.model.specs.Graph.{is_named, targets_of}
use Rattle.model.specs.declared.graph.Edge.{Edge}
use Rattle.model.specs.Reading.{IsInCone, IsCycle}
use Rattle.model.specs.Records.{Store, recorded_inputs}
use Rattle.model.specs.SingleBuild.{Asked, AllNamed, IsShownCycle, declared_graph}
use Rattle.paths.specs.Told.{text_at, texts_at}
use Rattle.graph.specs.declared.graph.Graph.{Graph}
use Rattle.graph.specs.declared.cone.Cone.{Cone}
use Rattle.graph.specs.declared.cone.ConeFault.{ConeFault}
use Rattle.graph.specs.declared.cone.ConeFault.TheVariants.{Memory, Unknown, Cycle}
use Rattle.graph.specs.Links.{links_of}
use Rattle.graph.specs.Cone.{IsOrder}
use Rattle.graph.specs.Linked.{IsConeOf, IsLinksOf, AreMakersOf, default_targets}
use Rattle.graph.specs.Told.{declared_by, recorded_by, AreSameInputs, ForRecorded, path_texts}

-- the target at this place is the first that no build line names
pub record IsFirstUnknown (edges : List Edge) (targets : List (List ℕ)) (place : ℕ) : Type 0 where
  pub within : place < length targets
  pub unknown : is_named edges (text_at targets place) ≡ false
  pub earlier : (k : ℕ) → k < place → is_named edges (text_at targets k) ≡ true

-- by the numbers an edge waits for just the edges that it waits for, however recorded inputs are listed
abbrev pub IsLinked : Graph → Type 0
IsLinked graph = ForRecorded graph (λ recorded. IsLinksOf (declared_by graph).edges recorded (links_of graph))

-- ---- targets

-- build lines name all of these
abbrev pub LinesName : Graph → List (List ℕ) → Type 0
LinesName graph texts = AllByRecursion (λ p. is_named (declared_by graph).edges p ≡ true) texts

-- the paths that are built where these targets are asked for
abbrev pub AreTargetPaths : Graph → List (List ℕ) → List ℕ → Type 0
AreTargetPaths graph asked numbers = path_texts graph numbers ≡ targets_of (declared_by graph) asked

-- those that are built where no target is asked for and no default is declared
abbrev pub AreDefaultPaths : Graph → List ℕ → Type 0
AreDefaultPaths graph numbers = path_texts graph numbers ≡ default_targets (declared_by graph).edges

-- just the edges that make these paths
abbrev pub AreMakersIn : Graph → List ℕ → List ℕ → Type 0
AreMakersIn graph numbers edges = AreMakersOf (declared_by graph).edges (path_texts graph numbers) edges

-- ---- cones

-- by the numbers, each edge once and after the makers of all that it needs
pub record IsOrdered (graph : Graph) (cone : Cone) : Type 0 where
  pub within : All (λ e. e < length graph.manifest.lines) cone.order.items
  pub ordered : IsOrder (links_of graph) [] cone.order.items

-- the cone of these targets, each of which a build line names, and it has no cycle
pub record IsConeFor (graph : Graph) (recorded : ℕ → List (List ℕ)) (targets : List (List ℕ)) (cone : Cone) : Type 0 where
  pub listed : IsConeOf (declared_by graph).edges recorded (targets_of (declared_by graph) targets) cone.order.items cone.marks.items
  pub named : AllByRecursion (λ p. is_named (declared_by graph).edges p ≡ true) targets
  pub acyclic : (i : ℕ) → IsInCone (declared_by graph).edges recorded (targets_of (declared_by graph) targets) i → IsCycle (declared_by graph).edges recorded i → ⊥
  -- the numbers of what is built
  pub within : All (λ p. p < length graph.manifest.paths) cone.targets.items
  pub numbers : texts_at graph.manifest.paths cone.targets.items ≡ targets_of (declared_by graph) targets

-- the cone of the paths with these numbers, and it has no cycle
pub record IsConeOfNumbers (graph : Graph) (recorded : ℕ → List (List ℕ)) (targets : List ℕ) (cone : Cone) : Type 0 where
  pub listed : IsConeOf (declared_by graph).edges recorded (texts_at graph.manifest.paths targets) cone.order.items cone.marks.items
  pub acyclic : (i : ℕ) → IsInCone (declared_by graph).edges recorded (texts_at graph.manifest.paths targets) i → IsCycle (declared_by graph).edges recorded i → ⊥
  pub numbers : cone.targets.items ≡ targets

-- why what was asked for has no cone: a target that is unknown, or paths that lead round a cycle
abbrev pub IsNoCone : Asked → Store → List (List ℕ) → ConeFault → Type 0
IsNoCone asked store paths Memory = Unit {0}
IsNoCone asked store paths (Unknown place) = IsFirstUnknown asked.declared asked.targets place
IsNoCone asked store paths (Cycle numbers) = AllNamed asked × IsShownCycle asked store (map (text_at paths) numbers)

-- why what was asked for has no cone any more: paths that lead round a cycle
abbrev pub IsNoConeAgain : Asked → Store → List (List ℕ) → ConeFault → Type 0
IsNoConeAgain asked store paths Memory = Unit {0}
IsNoConeAgain asked store paths (Unknown place) = ⊥
IsNoConeAgain asked store paths (Cycle numbers) = IsShownCycle asked store (map (text_at paths) numbers)

-- the fault is a target that no build line names, or want of memory
abbrev pub IsUnknownIn : List Edge → List (List ℕ) → ConeFault → Type 0
IsUnknownIn edges targets Memory = Unit {0}
IsUnknownIn edges targets (Unknown place) = IsFirstUnknown edges targets place
IsUnknownIn edges targets (Cycle numbers) = ⊥

-- ---- for whoever asks

-- the cone of these targets, however recorded inputs are listed
abbrev pub IsConeOfTargets : Graph → List (List ℕ) → Cone → Type 0
IsConeOfTargets graph targets cone = ForRecorded graph (λ recorded. IsConeFor graph recorded targets cone)

-- the cone of the paths with these numbers
abbrev pub IsConeOfPaths : Graph → List ℕ → Cone → Type 0
IsConeOfPaths graph numbers cone = ForRecorded graph (λ recorded. IsConeOfNumbers graph recorded numbers cone)

-- whatever was asked, of whatever store
abbrev pub ForAsked : (Asked → Store → Type 0) → Type 0
ForAsked P = (asked : Asked) (store : Store) → P asked store

-- the graph that build files declare is asked for this
abbrev pub AsksOf : Graph → Asked → Type 0
AsksOf graph asked = asked.graph ≡ declared_by graph

-- no dyndep file is loaded
abbrev pub IsUnloaded : Asked → Type 0
IsUnloaded asked = asked.declared ≡ asked.graph.edges

-- the store has what is recorded of the graph
abbrev pub RecordsOf : Graph → Asked → Store → Type 0
RecordsOf graph asked store = AreSameInputs (recorded_inputs store asked.graph.edges) (recorded_by graph)

-- where these targets of the graph are asked for
abbrev pub WhenAsked : Graph → List (List ℕ) → (Asked → Store → Type 0) → Asked → Store → Type 0
WhenAsked graph targets P asked store = IsUnloaded asked → AsksOf graph asked → asked.targets ≡ targets → P asked store

abbrev pub HasNoCone : Graph → ConeFault → Asked → Store → Type 0
HasNoCone graph fault asked store = RecordsOf graph asked store → IsNoCone asked store graph.manifest.paths fault

-- why these targets have no cone, for whoever asks for them
abbrev pub LackCone : Graph → List (List ℕ) → ConeFault → Type 0
LackCone graph targets fault = ForAsked (WhenAsked graph targets (HasNoCone graph fault))

-- the paths with these numbers are built where this is asked
abbrev pub BuildsPaths : Graph → List ℕ → Asked → Type 0
BuildsPaths graph numbers asked = targets_of (declared_graph asked) asked.targets ≡ path_texts graph numbers

-- where these paths of the graph are built
abbrev pub WhenBuilt : Graph → List ℕ → (Asked → Store → Type 0) → Asked → Store → Type 0
WhenBuilt graph numbers P asked store = AsksOf graph asked → BuildsPaths graph numbers asked → P asked store

abbrev pub LosesCone : Graph → ConeFault → Asked → Store → Type 0
LosesCone graph fault asked store = RecordsOf graph asked store → IsNoConeAgain asked store graph.manifest.paths fault

-- why the paths with these numbers have no cone any more, for whoever builds them
abbrev pub LackConeAgain : Graph → List ℕ → ConeFault → Type 0
LackConeAgain graph numbers fault = ForAsked (WhenBuilt graph numbers (LosesCone graph fault))
