-- What a cone in numbers is in the words of the edges that the numbers stand for.
use Rattle.std.specs.Prelude.{ℕ, List, map}
use Rattle.model.specs.declared.graph.Edge.{Edge}
use Rattle.model.specs.Graph.{targets_of}
use Rattle.model.specs.Records.{Store, recorded_inputs}
use Rattle.model.specs.SingleBuild.{Asked, declared_graph, IsShownCycle}
use Rattle.graph.specs.Links.{Links, links_of}
use Rattle.graph.specs.declared.cone.Cone.{Cone}
use Rattle.graph.specs.declared.graph.Graph.{Graph}
use Rattle.graph.specs.declared.cone.ConeFault.{ConeFault}
use Rattle.graph.specs.declared.cone.ConeFault.TheVariants.{Memory, Unknown, Cycle}
use Rattle.graph.specs.declared.cone.Mark.{Mark}
use Rattle.paths.specs.Told.{text_at}
use Rattle.graph.specs.Linked.{IsGraphOf, IsLinksOf, IsConeOf, AreMakersOf}

-- the numbers stand for what these edges wait for and name for validation, and the makers of these targets
pub record StandFor (edges : List Edge) (recorded : ℕ → List (List ℕ)) (targets : List (List ℕ)) (links : Links) (requested : List ℕ) : Type 0 where
  pub linked : IsLinksOf edges recorded links
  pub makers : AreMakersOf edges targets requested

-- whatever edges the numbers stand for, this is the cone of their targets
abbrev pub IsConeForEach : Links → List ℕ → List ℕ → List Mark → Type 0
IsConeForEach links requested order marks =
    (edges : List Edge) (recorded : ℕ → List (List ℕ)) (targets : List (List ℕ)) → StandFor edges recorded targets links requested → IsConeOf edges recorded targets order marks

-- whatever edges the numbers of the graph stand for, this is the cone of their targets
abbrev pub IsConeForAll : Graph → List ℕ → Cone → Type 0
IsConeForAll graph requested cone = IsConeForEach (links_of graph) requested cone.order.items cone.marks.items

-- whatever was asked, where the numbers stand for it, the texts of these paths are a cycle as it is shown
abbrev pub IsFaultForEach : Links → List ℕ → ConeFault → Type 0
IsFaultForEach links requested Memory = Unit {0}
IsFaultForEach links requested (Unknown place) = ⊥
IsFaultForEach links requested (Cycle numbers) =
    (asked : Asked) (store : Store) (paths : List (List ℕ)) → IsGraphOf asked.graph.edges (recorded_inputs store asked.graph.edges) paths links
    → StandFor asked.graph.edges (recorded_inputs store asked.graph.edges) (targets_of (declared_graph asked) asked.targets) links requested
    → IsShownCycle asked store (map (text_at paths) numbers)
