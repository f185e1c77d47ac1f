-- Edges listed with makers first: they have no cycle, and they hold the whole cone.
use Rattle.std.proofs.Common.{◌≡◌, ℕ, true, List, [], ◌∷◌, ◌++◌, Some, sym, ◌∙◌, ap, subst, append_assoc}
use Rattle.std.proofs.lemmas.Bool.{false≢true}
use Rattle.model.specs.declared.graph.Edge.{Edge}
use Rattle.model.specs.Graph.{has, has_number, edge_at, maker}
use Rattle.model.specs.Reading.{needs, IsAbove, Direct, Further, IsCycle, IsInCone, Wanted, Needed, Validating}
use Rattle.theory.specs.Order.{AreMakersFirst}
use Rattle.theory.proofs.Lists.{has_number-left, place_of}
use Rattle.theory.proofs.Turns.{makers_within}

module _ (edges : List Edge) (recorded : ℕ → List (List ℕ)) where
  -- the makers of what an edge needs stand before it
  makers_at : (pre before : List ℕ) (e : ℕ) (rest : List ℕ) → AreMakersFirst edges recorded pre (before ++ e ∷ rest) → (p : List ℕ) (j : ℕ) → has (needs edges recorded e) p ≡ true → maker edges p ≡ Some j → has_number (pre ++ before) j ≡ true
  makers_at pre [] e rest order p j need is = has_number-left pre [] j (order.0 p j need is)
  makers_at pre (x ∷ before) e rest order p j need is =
      subst (λ (l : List ℕ). has_number l j ≡ true) (append_assoc pre (x ∷ []) before) (makers_at (pre ++ x ∷ []) before e rest order.1 p j need is)

  -- so do all edges above it
  above_before : (order : List ℕ) → AreMakersFirst edges recorded [] order → (f e : ℕ) → IsAbove (needs edges recorded) (maker edges) f e → (before rest : List ℕ) → order ≡ before ++ e ∷ rest → has_number before f ≡ true
  above_before order makers f e (Direct _ _ p need is) before rest splits =
      makers_at [] before e rest (subst (λ (l : List ℕ). AreMakersFirst edges recorded [] l) splits makers) p f need is
  above_before order makers f e (Further _ d _ first second) before rest splits =
      let place = place_of before d (above_before order makers d e second before rest splits) in
      subst (λ (l : List ℕ). has_number l f ≡ true) (sym place.splits)
      (has_number-left place.before (d ∷ place.after) f
      (above_before order makers f d first place.before (place.after ++ e ∷ rest)
      (splits ∙ (ap (λ (l : List ℕ). l ++ e ∷ rest) place.splits ∙ append_assoc place.before (d ∷ place.after) (e ∷ rest)))))

  -- no edge that is listed so is above itself
  pub no_cycle_by_order : (order : List ℕ) → AreMakersFirst edges recorded [] order → (i : ℕ) → has_number order i ≡ true → IsCycle edges recorded i → ⊥
  no_cycle_by_order order makers i h cycle =
      let place = place_of order i h in
      false≢true (sym place.first ∙ above_before order makers i i cycle place.before place.after place.splits)

  -- Where the makers of the targets, and those of the validations of each edge, are listed too, the whole cone is.
  pub cone_within : (targets : List (List ℕ)) (order : List ℕ) → AreMakersFirst edges recorded [] order
      → ((p : List ℕ) (i : ℕ) → has targets p ≡ true → maker edges p ≡ Some i → has_number order i ≡ true)
      → ((j : ℕ) (p : List ℕ) (i : ℕ) → has_number order j ≡ true → has (edge_at edges j).validations p ≡ true → maker edges p ≡ Some i → has_number order i ≡ true)
      → (i : ℕ) → IsInCone edges recorded targets i → has_number order i ≡ true
  cone_within targets order makers wanted validating i (Wanted _ p target is) = wanted p i target is
  cone_within targets order makers wanted validating i (Needed _ j p within need is) =
      makers_within edges recorded [] order makers j (cone_within targets order makers wanted validating j within) p i need is
  cone_within targets order makers wanted validating i (Validating _ j p within validation is) =
      validating j p i (cone_within targets order makers wanted validating j within) validation is
