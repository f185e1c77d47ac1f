-- How the graph in numbers stands for edges.
use Rattle.std.specs.Prelude.{◌≡◌, ℕ, suc, ◌<◌, true, false, List, [], ◌∷◌, ◌++◌, map, length, take, slice_index, Some}
use Rattle.std.specs.List.{AllByRecursion}
use Rattle.model.specs.declared.graph.Edge.{Edge}
use Rattle.model.specs.Graph.{has, has_number, edge_at, maker, later_number, outputs, inputs, regular_inputs, first_output, roots, all_outputs, or_else, StandsTwice, IsMadeTwice}
use Rattle.model.specs.Reading.{needs, IsInCone}
use Rattle.model.specs.SingleBuild.{NamesOther}
use Rattle.theory.specs.Order.{AreMakersFirst}
use Rattle.paths.specs.Told.{text_at}
use Rattle.graph.specs.declared.fault.GraphFault.{GraphFault}
use Rattle.graph.specs.declared.fault.GraphFault.TheVariants.{Memory, MadeTwice, NoDyndepInput, Occupied}
use Rattle.graph.specs.declared.fault.Occupied.{Occupied as OccupiedPath}
use Rattle.graph.specs.declared.fault.SideFile.TheVariants.{Depfile, Response}
use Rattle.graph.specs.Occupying.{side_file, own_start, IsOccupied, IsSideOccupied, AreFreeUpTo}
use Rattle.graph.specs.declared.cone.Mark.{Mark}
use Rattle.graph.specs.Links.{Links, needs_at}
use Rattle.graph.specs.Cone.{maker_at, validator_at, mark_at, is_listed}

-- no path stands twice in the list
abbrev pub AreDistinct : List (List ℕ) → Type 0
AreDistinct paths = (p : List ℕ) → StandsTwice paths p → ⊥

-- the numbers stand for the paths of these edges, and of what is recorded of them
pub record IsGraphOf (edges : List Edge) (recorded : ℕ → List (List ℕ)) (paths : List (List ℕ)) (links : Links) : Type 0 where
  pub fits : links.count ≡ length edges
  pub numbered : (e k : ℕ) → k < length (needs_at links e) → slice_index (needs_at links e) k < length paths
  pub needs : (e : ℕ) (p : List ℕ) → has (map (text_at paths) (needs_at links e)) p ≡ has (needs edges recorded (suc e)) p
  pub makers : (p : ℕ) → p < length paths → maker edges (text_at paths p) ≡ later_number (links.maker p)
  pub validated : (e k : ℕ) → k < length (links.validations e) → slice_index (links.validations e) k < length paths
  pub validations : (e : ℕ) → map (text_at paths) (links.validations e) ≡ (edge_at edges (suc e)).validations

-- the numbers of each list of an edge stand for that list of these edges, and are numbers of paths
pub record StandFor (edges : List Edge) (paths : List (List ℕ)) (links : Links) : Type 0 where
  pub fits : length edges ≡ links.count
  pub outputs_are : (e : ℕ) → map (text_at paths) (links.outputs e) ≡ outputs (edge_at edges (suc e))
  pub inputs_are : (e : ℕ) → map (text_at paths) (links.inputs e) ≡ inputs (edge_at edges (suc e))
  pub regular_are : (e : ℕ) → map (text_at paths) (links.regular e) ≡ regular_inputs (edge_at edges (suc e))
  pub phony_is : (e : ℕ) → links.phony e ≡ (edge_at edges (suc e)).phony
  pub makers : (p : ℕ) → p < length paths → maker edges (text_at paths p) ≡ later_number (links.maker p)
  pub outputs_within : (e p : ℕ) → has_number (links.outputs e) p ≡ true → p < length paths
  pub inputs_within : (e p : ℕ) → has_number (links.inputs e) p ≡ true → p < length paths
  pub regular_within : (e p : ℕ) → has_number (links.regular e) p ≡ true → p < length paths
  pub recorded_within : (e p : ℕ) → has_number (links.recorded e) p ≡ true → p < length paths

-- the first path of the list that stands before already
pub record IsFirstRepeated (paths : List (List ℕ)) (p : List ℕ) : Type 0 where
  pub before : List (List ℕ)
  pub after : List (List ℕ)
  pub splits : paths ≡ before ++ p ∷ after
  pub earlier : has before p ≡ true
  pub distinct : AreDistinct before

-- a dyndep file that the edge names is one of its inputs (manual: "Dynamic Dependencies")
abbrev pub NamesDyndepInput : Edge → Type 0
NamesDyndepInput e = (file : List ℕ) → e.dyndep ≡ Some file → has (inputs e) file ≡ true

-- no path is made twice, and each dyndep file is an input of the edge that names it
pub record AreInOrder (edges : List Edge) : Type 0 where
  pub distinct : AreDistinct (all_outputs edges)
  pub dyndep : AllByRecursion NamesDyndepInput edges

-- what is wrong with what an edge after these makes, or with its dyndep file; these are in order
abbrev pub IsFaulty : List Edge → Edge → GraphFault → Type 0
IsFaulty before edge Memory = ⊥
IsFaulty before edge (MadeTwice p) = IsFirstRepeated (all_outputs before ++ outputs edge) p
IsFaulty before edge (NoDyndepInput p) = AreDistinct (all_outputs before ++ outputs edge) × (edge.dyndep ≡ Some p) × (has (inputs edge) p ≡ false)
IsFaulty before edge (Occupied occupied) = ⊥

-- the lowest edge with such a fault has this one, and so many edges come before it
pub record IsFirstFault (edges : List Edge) (place : ℕ) (fault : GraphFault) : Type 0 where
  pub before : List Edge
  pub edge : Edge
  pub after : List Edge
  pub splits : edges ≡ before ++ edge ∷ after
  pub stands : length before ≡ place
  pub in_order : AreInOrder before
  pub faulty : IsFaulty before edge fault

-- so it is, and no edge before that one has a depfile or a response file at a path that is occupied
pub record IsLowestFault (folder : List ℕ) (edges : List Edge) (fault : GraphFault) : Type 0 where
  pub place : ℕ
  pub first : IsFirstFault edges place fault
  pub free : AreFreeUpTo (own_start folder) edges place

-- The depfile of the lowest edge that has any fault, or else its response file, stands at a path that is occupied: neither this
-- edge nor one before it has another fault, and of a response file it is said that the depfile does not stand at such a path.
pub record IsLowestOccupied (folder : List ℕ) (edges : List Edge) (occupied : OccupiedPath) : Type 0 where
  pub edge : ℕ
  pub within : edge < length edges
  pub in_order : AreInOrder (take (suc edge) edges)
  pub free : AreFreeUpTo (own_start folder) edges edge
  pub path : occupied.path ≡ side_file (edge_at edges (suc edge)) occupied.file
  pub output : occupied.output ≡ first_output (edge_at edges (suc edge))
  pub is : IsOccupied (own_start folder) edges (suc edge) occupied.path
  pub first : occupied.file ≡ Response → IsSideOccupied (own_start folder) edges (suc edge) Depfile → ⊥

-- why edges are no graph in numbers, where the program's own files lie in this folder; want of memory is shown by tests alone
abbrev pub IsFaultOf : List ℕ → List Edge → GraphFault → Type 0
IsFaultOf folder edges Memory = Unit {0}
IsFaultOf folder edges (MadeTwice p) = IsMadeTwice edges p × IsLowestFault folder edges (MadeTwice p)
IsFaultOf folder edges (NoDyndepInput p) = NamesOther edges p × IsLowestFault folder edges (NoDyndepInput p)
IsFaultOf folder edges (Occupied occupied) = IsLowestOccupied folder edges occupied

-- what is built where no target is asked for and no default is declared
abbrev pub default_targets : List Edge → List (List ℕ)
default_targets edges = or_else (roots edges) (all_outputs edges)

-- the edge that counts as e in the code makes one of these paths
pub record MakesOneOf (edges : List Edge) (targets : List (List ℕ)) (e : ℕ) : Type 0 where
  pub path : List ℕ
  pub wanted : has targets path ≡ true
  pub made : maker edges path ≡ Some (suc e)

-- just the makers of these paths; a source has none
pub record AreMakersOf (edges : List Edge) (targets : List (List ℕ)) (requested : List ℕ) : Type 0 where
  pub each : (e : ℕ) → has_number requested e ≡ true → MakesOneOf edges targets e
  pub all : (p : List ℕ) (e : ℕ) → has targets p ≡ true → maker edges p ≡ Some (suc e) → has_number requested e ≡ true

-- edge j makes something that edge i waits for
pub record IsMakerFor (edges : List Edge) (recorded : ℕ → List (List ℕ)) (i j : ℕ) : Type 0 where
  pub path : List ℕ
  pub needed : has (needs edges recorded i) path ≡ true
  pub made : maker edges path ≡ Some j

-- by the numbers, edge j makes an input of the edge that counts as e in the code
pub record HasMaker (links : Links) (e j : ℕ) : Type 0 where
  pub place : ℕ
  pub number : ℕ
  pub within : place < length (needs_at links e)
  pub is : maker_at links e place ≡ Some number
  pub same : suc number ≡ j

-- edge j makes something that edge i names for validation
pub record IsValidatorFor (edges : List Edge) (i j : ℕ) : Type 0 where
  pub path : List ℕ
  pub named : has (edge_at edges i).validations path ≡ true
  pub made : maker edges path ≡ Some j

-- by the numbers, edge j makes a validation of the edge that counts as e in the code
pub record HasValidator (links : Links) (e j : ℕ) : Type 0 where
  pub place : ℕ
  pub number : ℕ
  pub within : place < length (links.validations e)
  pub is : validator_at links e place ≡ Some number
  pub same : suc number ≡ j

-- by the numbers an edge waits for just the edges that it waits for, and is validated by just those that validate it
pub record IsLinksOf (edges : List Edge) (recorded : ℕ → List (List ℕ)) (links : Links) : Type 0 where
  pub fits : links.count ≡ length edges
  pub linked : (e j : ℕ) → HasMaker links e j → IsMakerFor edges recorded (suc e) j
  pub complete : (e j : ℕ) → IsMakerFor edges recorded (suc e) j → HasMaker links e j
  pub validating : (e j : ℕ) → HasValidator links e j → IsValidatorFor edges (suc e) j
  pub validated : (e j : ℕ) → IsValidatorFor edges (suc e) j → HasValidator links e j

-- the edges of the cone of these targets, each once and after the makers of all that it waits for; the marks show which
-- they are
pub record IsConeOf (edges : List Edge) (recorded : ℕ → List (List ℕ)) (targets : List (List ℕ)) (order : List ℕ) (marks : List Mark) : Type 0 where
  pub fits : length marks ≡ length edges
  pub marked : (e : ℕ) → is_listed (mark_at marks e) ≡ has_number order e
  pub once : (before after : List ℕ) (e : ℕ) → order ≡ before ++ e ∷ after → has_number before e ≡ false
  pub within : (e : ℕ) → has_number order e ≡ true → IsInCone edges recorded targets (suc e)
  pub all : (i : ℕ) → IsInCone edges recorded targets i → has_number (map suc order) i ≡ true
  pub ordered : AreMakersFirst edges recorded [] (map suc order)
