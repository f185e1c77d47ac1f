-- The edges of a cone in another order.
use Rattle.std.specs.Prelude.{◌≡◌, ℕ, zero, suc, List, [], ◌∷◌, ◌++◌, if◌then◌else◌}
use Rattle.model.specs.declared.graph.Edge.{Edge}
use Rattle.model.specs.Graph.{has_number}
use Rattle.graph.specs.declared.cone.Cone.{Cone}
use Rattle.graph.specs.declared.cone.Mark.{Mark}
use Rattle.graph.specs.declared.graph.Graph.{Graph}
use Rattle.graph.specs.Cone.{is_listed, mark_at}
use Rattle.graph.specs.Linked.{IsConeOf, IsLinksOf}
use Rattle.graph.specs.Links.{links_of}

-- the edges below this number that are listed by these marks, by number
abbrev pub listed_below : List Mark → ℕ → List ℕ
listed_below marks zero = []
listed_below marks (suc n) = listed_below marks n ++ (if is_listed (mark_at marks n) then n ∷ [] else [])

-- the edge was listed behind others, if it is in the cone
abbrev pub ListsIfMarked : Cone → ℕ → List ℕ → List ℕ → Type 0
ListsIfMarked cone e old new = new ≡ old ++ (if is_listed (mark_at cone.marks.items e) then e ∷ [] else [])

-- these are just the edges of the cone, whatever edges and targets it is of
abbrev pub IsSameCone : Graph → Cone → List ℕ → Type 0
IsSameCone graph cone order =
    (edges : List Edge) (recorded : ℕ → List (List ℕ)) (targets : List (List ℕ)) → IsLinksOf edges recorded (links_of graph) → IsConeOf edges recorded targets cone.order.items cone.marks.items
    → (e : ℕ) → has_number order e ≡ has_number cone.order.items e
