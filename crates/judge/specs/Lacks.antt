-- Which source is missing.
use Rattle.std.specs.Prelude.{◌≡◌, ◌↔◌, ℕ, suc, ◌<◌, Bool, true, IfOk, List, length, Option, Some, None, Result}
use Rattle.model.specs.declared.event.Moment.{Moment}
use Rattle.model.specs.declared.graph.Edge.{Edge}
use Rattle.model.specs.Graph.{has, has_number, edge_at, maker, inputs}
use Rattle.model.specs.Records.{Store}
use Rattle.model.specs.Schedule.{Step}
use Rattle.model.specs.OutOfDate.{IsMissing, NoneIsMissing, IsFirstMissing, NothingIsMissing, IsMissingInput}
use Rattle.paths.specs.Told.{text_at, texts_at}
use Rattle.graph.specs.declared.graph.Graph.{Graph}
use Rattle.graph.specs.Links.{links_of}
use Rattle.graph.specs.Told.{declared_by}
use Rattle.graph.specs.declared.cone.Cone.{Cone}
use Rattle.judge.specs.declared.looks.Looks.{Looks}
use Rattle.records.specs.declared.records.Records.{Records}
use Rattle.model.specs.World.{World}
use Rattle.judge.specs.declared.lack.Lack.{Lack}
use Rattle.judge.specs.declared.lack.Found.{Found}
use Rattle.judge.specs.declared.lack.Found.TheVariants.{Missing, Present}
use Rattle.plan.specs.declared.plan.Plan.{Plan}
use Rattle.judge.specs.Quiet.{IfQuiet, StillFinds}
use Rattle.judge.specs.UnderWay.{IsUnderWay}
use Rattle.judge.specs.Dues.{due_at, IsSourceIn, AreSourcesIn, HasAllSources, AreDue, AreFoundClean, IfUnderWay}

-- ---- what is told

-- why the path is named: it is one of the paths that were requested, or an input of this edge
abbrev pub IsLackedBy : List Edge → Store → List Step → List (List ℕ) → List Moment → List ℕ → Option ℕ → Type 0
IsLackedBy edges store before requested files path None = IsFirstMissing edges files requested path
IsLackedBy edges store before requested files path (Some e) = IsMissingInput edges store before files requested (suc e) path

-- what is told of a missing source after these steps
abbrev pub IsFound : Graph → Store → List Step → List (List ℕ) → List Moment → Option Lack → Type 0
IsFound graph store before requested files None = NothingIsMissing (declared_by graph).edges store before files requested
IsFound graph store before requested files (Some lack) =
    IsLackedBy (declared_by graph).edges store before requested files (text_at graph.manifest.paths lack.path) lack.needed_by

-- the missing source, if one is missing
abbrev pub lack_in : Found → Option Lack
lack_in (Missing lack) = Some lack
lack_in (Present due) = None

-- so it is of the flags, where no source is missing
abbrev pub IfPresent : Found → (List Bool → Type 0) → Type 0
IfPresent (Missing lack) So = Unit {0}
IfPresent (Present due) So = So due.items

-- a flag for each edge of the graph, which says whether the edge is in the cone and due; of what was not judged and is not due, no reason was
-- found why it has to run
pub record HasDue (tells : Bool) (graph : Graph) (records : Records) (cone : Cone) (plan : Plan) (old new : World) (seen : Looks) (flags : List Bool) : Type 0 where
  pub fits : length flags ≡ length graph.manifest.lines
  pub due : (store : Store) (targets : List (List ℕ)) (before : List Step) → IsUnderWay graph records cone plan store targets before
      → IfQuiet tells graph store targets before old new seen (λ files. AreDue (declared_by graph).edges store before files cone.order.items flags)
  pub clean : AreFoundClean tells graph records plan old new seen cone.order.items flags

-- the edge, if one is named, is one of so many
abbrev pub IsEdgeBelow : ℕ → Option ℕ → Type 0
IsEdgeBelow count None = Unit {0}
IsEdgeBelow count (Some e) = e < count

-- a path of the graph among these, which no edge makes
pub record IsSourceOf (graph : Graph) (numbers : List ℕ) (p : ℕ) : Type 0 where
  pub within : p < length graph.manifest.paths
  pub listed : has_number numbers p ≡ true
  pub source : maker (declared_by graph).edges (text_at graph.manifest.paths p) ≡ None

-- the edge, if one is named, has the path as an input
abbrev pub IsInputOf : Graph → ℕ → Option ℕ → Type 0
IsInputOf graph p None = Unit {0}
IsInputOf graph p (Some e) = has (inputs (edge_at (declared_by graph).edges (suc e))) (text_at graph.manifest.paths p) ≡ true

-- a path of the graph which the edge has as an input, and no edge makes
pub record IsSourceFor (graph : Graph) (e p : ℕ) : Type 0 where
  pub within : p < length graph.manifest.paths
  pub source : maker (declared_by graph).edges (text_at graph.manifest.paths p) ≡ None
  pub input : IsInputOf graph p (Some e)

-- a path of the graph that no edge makes, and an edge of the graph, if one is named, which has it as an input
pub record IsLackOf (graph : Graph) (lack : Lack) : Type 0 where
  pub path : lack.path < length graph.manifest.paths
  pub edge : IsEdgeBelow (length graph.manifest.lines) lack.needed_by
  pub source : maker (declared_by graph).edges (text_at graph.manifest.paths lack.path) ≡ None
  pub input : IsInputOf graph lack.path lack.needed_by

-- the edge, if one is named, is in the cone; else the path is one of its targets
abbrev pub IsAskedFor : Cone → ℕ → Option ℕ → Type 0
IsAskedFor cone p None = has_number cone.targets.items p ≡ true
IsAskedFor cone p (Some e) = has_number cone.order.items e ≡ true

abbrev pub IsAskedLack : Cone → Lack → Type 0
IsAskedLack cone lack = IsAskedFor cone lack.path lack.needed_by

-- an edge is named, and is due by these flags
abbrev pub NamesDue : List Bool → Option ℕ → Type 0
NamesDue due None = ⊥
NamesDue due (Some e) = due_at due e ≡ true

-- ---- what calls answer, where the files are these, and are known at the paths of a set

abbrev pub IsMissingAt : Graph → ℕ → Bool → (List ℕ → Bool) → List Moment → Type 0
IsMissingAt graph p is set files = IsSourceIn set graph p → (is ≡ true) ↔ IsMissing (declared_by graph).edges files (text_at graph.manifest.paths p)

-- of so many edges, none that is due needs a missing path
abbrev pub NoneBelow : List Edge → List Bool → List Moment → ℕ → Type 0
NoneBelow edges due files count = (e : ℕ) → e < count → due_at due e ≡ true → NoneIsMissing edges files (inputs (edge_at edges (suc e)))

-- the first of these paths that is missing, if one is
abbrev pub IsFirstIn : Graph → List ℕ → List Moment → Option ℕ → Type 0
IsFirstIn graph numbers files None = NoneIsMissing (declared_by graph).edges files (texts_at graph.manifest.paths numbers)
IsFirstIn graph numbers files (Some p) = IsFirstMissing (declared_by graph).edges files (texts_at graph.manifest.paths numbers) (text_at graph.manifest.paths p)

-- the first missing input of the edge, if it is due and has one
abbrev pub IsFirstFor : Graph → List Bool → ℕ → List Moment → Option ℕ → Type 0
IsFirstFor graph due e files None = due_at due e ≡ true → NoneIsMissing (declared_by graph).edges files (inputs (edge_at (declared_by graph).edges (suc e)))
IsFirstFor graph due e files (Some p) =
    (due_at due e ≡ true) × IsFirstMissing (declared_by graph).edges files (inputs (edge_at (declared_by graph).edges (suc e))) (text_at graph.manifest.paths p)

-- the first missing input of the lowest due edge that has one
pub record IsFirstOfDue (graph : Graph) (due : List Bool) (files : List Moment) (lack : Lack) : Type 0 where
  pub edge : ℕ
  pub is_due : due_at due edge ≡ true
  pub lowest : NoneBelow (declared_by graph).edges due files edge
  pub first : IsFirstMissing (declared_by graph).edges files (inputs (edge_at (declared_by graph).edges (suc edge))) (text_at graph.manifest.paths lack.path)
  pub needed_by : lack.needed_by ≡ Some edge

abbrev pub IsFoundOfDue : Graph → List Bool → List Moment → Option Lack → Type 0
IsFoundOfDue graph due files None = NoneBelow (declared_by graph).edges due files (length graph.manifest.lines)
IsFoundOfDue graph due files (Some lack) = IsFirstOfDue graph due files lack

-- ---- What calls say that are given a site: `world` tells the world of the site, which the call found as `old` and left as `new`. What is
-- known of files is what was seen of them before.

-- no edge makes the path of this number
abbrev pub IsSourceAt : Graph → ℕ → Type 0
IsSourceAt graph p = maker (declared_by graph).edges (text_at graph.manifest.paths p) ≡ None

-- the answer says whether the path of this number is a missing source
abbrev pub FindsMissing : {S E : Type 0} → Bool → (S → World) → S → S → Graph → Looks → ℕ → Result Bool E → Type 0
FindsMissing tells world old new graph seen p result = StillFinds tells world old new graph seen result (IsMissingAt graph p)

-- it is the first of these paths that is missing, if one is
abbrev pub FindsFirst : {S E : Type 0} → Bool → (S → World) → S → S → Graph → Looks → List ℕ → Result (Option ℕ) E → Type 0
FindsFirst tells world old new graph seen numbers result =
    StillFinds tells world old new graph seen result (λ found set files. AreSourcesIn set graph numbers → IsFirstIn graph numbers files found)

-- it is the first missing input of the edge, if that is due and has one
abbrev pub FindsFirstOf : {S E : Type 0} → Bool → (S → World) → S → S → Graph → Looks → List Bool → ℕ → Result (Option ℕ) E → Type 0
FindsFirstOf tells world old new graph seen due e result =
    StillFinds tells world old new graph seen result (λ found set files.
    AreSourcesIn set graph ((links_of graph).inputs e) → IsFirstFor graph due e files found)

-- it is the first missing input of the lowest due edge that has one
abbrev pub FindsFirstOfDue : {S E : Type 0} → Bool → (S → World) → S → S → Graph → Looks → List Bool → Result (Option Lack) E → Type 0
FindsFirstOfDue tells world old new graph seen due result =
    StillFinds tells world old new graph seen result (λ found set files. HasAllSources set graph → IsFoundOfDue graph due files found)

-- it tells the missing source, if one is missing
abbrev pub FindsLack : {S E : Type 0} → Bool → (S → World) → S → S → Graph → Records → Cone → Plan → Looks → Result Found E → Type 0
FindsLack tells world old new graph records cone plan seen result =
    IfOk result (λ found. IfUnderWay tells world old new graph records cone plan seen (λ store targets before files.
    IsFound graph store before targets files (lack_in found)))

-- and which edges are due, where none is
abbrev pub FindsFlags : {S E : Type 0} → Bool → (S → World) → S → S → Graph → Records → Cone → Plan → Looks → Result Found E → Type 0
FindsFlags tells world old new graph records cone plan seen result =
    IfOk result (λ found. IfPresent found (λ due. HasDue tells graph records cone plan (world old) (world new) seen due))
