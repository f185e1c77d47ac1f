-- Outputs that only a dyndep file names, read too early: the premise does not hold.
use Rattle.std.proofs.Common.{◌≡◌, inl, inr, ℕ, true, List, [], ◌∷◌, Some, None, refl, sym, ◌∙◌, subst}
use Rattle.std.specs.Prelude.{codes}
use Rattle.model.specs.declared.event.Moment.{Moment}
use Rattle.model.specs.declared.graph.Edge.{Edge}
use Rattle.model.specs.Graph.{has, edge_at, maker}
use Rattle.model.specs.Outcome.{Behaviour}
use Rattle.model.specs.Reading.{IsAbove, Direct, Further, needs}
use Rattle.model.specs.Schedule.{Step}
use Rattle.model.specs.Premises.{Input, IsKnown, IsBelowDyndep, IsKnownAbove, ByOne, ByMore, IsReported, InputsAreKnown, DyndepOutputsAreReadBelow}
use Rattle.witness.specs.Dyndep.{nothing_recorded, reads_x, reads_x_grown, waits_for_x, waits_for_x_grown, waits_for_q, waits_for_q_grown}
use Rattle.witness.proofs.RowLists.{all_has, none_some}

some_same : (i j : ℕ) → Some i ≡ Some j → i ≡ j
some_same i j e = cc

-- an edge that names no dyndep file, and needs nothing that an edge makes by the build files alone
module _ (as_declared edges : List Edge) (e : ℕ)
    (unnamed : (file : List ℕ) → (edge_at as_declared e).dyndep ≡ Some file → ⊥)
    (unmade : (p : List ℕ) → has (needs edges nothing_recorded e) p ≡ true → maker as_declared p ≡ None)
    (by_dyndep : (p : List ℕ) (f : ℕ) → has (needs edges nothing_recorded e) p ≡ true → maker edges p ≡ Some f → (file : List ℕ) × ((edge_at as_declared f).dyndep ≡ Some file)) where
  none_above : (f d : ℕ) → d ≡ e → IsAbove (needs edges nothing_recorded) (maker as_declared) f d → ⊥
  none_above f d is (Direct _ _ p h made) = none_some f (sym (unmade p (subst (λ (n : ℕ). has (needs edges nothing_recorded n) p ≡ true) is h)) ∙ made)
  none_above f d is (Further _ m _ first second) = none_above m d is second

  not_below : (file : List ℕ) → IsBelowDyndep as_declared edges nothing_recorded file e → ⊥
  not_below file (inl names) = unnamed file names
  not_below file (inr above) = none_above above.0 e refl above.2

  pub not_known : (p : List ℕ) (f : ℕ) → has (needs edges nothing_recorded e) p ≡ true → maker edges p ≡ Some f → IsKnown as_declared edges nothing_recorded e p → ⊥
  not_known p f h made known = let named = by_dyndep p f h made in not_below named.0 (known f named.0 made (unmade p h) named.1)

  pub none_known_above : (f d : ℕ) → d ≡ e → IsKnownAbove as_declared edges nothing_recorded f d → ⊥
  none_known_above f d is (ByOne _ _ p h made known) =
      not_known p f (subst (λ (n : ℕ). has (needs edges nothing_recorded n) p ≡ true) is h) made (subst (λ (n : ℕ). IsKnown as_declared edges nothing_recorded n p) is known)
  none_known_above f d is (ByMore _ m _ first second) = none_known_above m d is second

-- the file that is named
by_o : (as_declared : List Edge) (file : List ℕ) (n f : ℕ) → (edge_at as_declared n).dyndep ≡ Some file → Some n ≡ Some f → (named : List ℕ) × ((edge_at as_declared f).dyndep ≡ Some named)
by_o as_declared file n f names is = (file, subst (λ (m : ℕ). (edge_at as_declared m).dyndep ≡ Some file) (some_same n f is) names)

abbrev Unmade : List Edge → List ℕ → Type 0
Unmade as_declared p = maker as_declared p ≡ None

abbrev ByDyndep : List Edge → List Edge → List ℕ → Type 0
ByDyndep as_declared edges p = (f : ℕ) → maker edges p ≡ Some f → (file : List ℕ) × ((edge_at as_declared f).dyndep ≡ Some file)

pub inputs_beside : InputsAreKnown reads_x reads_x_grown nothing_recorded → ⊥
inputs_beside known =
    not_known reads_x reads_x_grown 1
    (λ file is. none_some file is)
    (λ p h. all_has (Unmade reads_x) (codes "x" ∷ codes "dd" ∷ []) p (refl, (refl, tt)) h)
    (λ p f h made. all_has (ByDyndep reads_x reads_x_grown) (codes "x" ∷ codes "dd" ∷ []) p (λ m is. by_o reads_x (codes "dd") 2 m refl is, (λ m is. absurd (none_some m is), tt)) h f made)
    (codes "x") 2 refl refl (known 1 (codes "x") refl (inl (Input (codes "x") refl)))

pub read_beside : (B : Behaviour) (steps : List Step) (old new : List Moment) → DyndepOutputsAreReadBelow B reads_x reads_x_grown nothing_recorded steps old new → ⊥
read_beside B steps old new below = inputs_beside below.inputs

pub reported_beside : (B : Behaviour) (steps : List Step) (old new : List Moment) → IsReported B waits_for_x_grown steps old new 1 (codes "x")
    → DyndepOutputsAreReadBelow B waits_for_x waits_for_x_grown nothing_recorded steps old new → ⊥
reported_beside B steps old new reported below =
    none_known_above waits_for_x waits_for_x_grown 1
    (λ file is. none_some file is)
    (λ p h. all_has (Unmade waits_for_x) (codes "s" ∷ codes "x" ∷ []) p (refl, (refl, tt)) h)
    (λ p f h made. all_has (ByDyndep waits_for_x waits_for_x_grown) (codes "s" ∷ codes "x" ∷ []) p (λ m is. absurd (none_some m is), (λ m is. by_o waits_for_x (codes "dd") 2 m refl is, tt)) h f made)
    2 1 refl (below.reports 1 2 (codes "x") reported refl refl)

pub reported_through : (B : Behaviour) (steps : List Step) (old new : List Moment) → IsReported B waits_for_q_grown steps old new 1 (codes "r")
    → DyndepOutputsAreReadBelow B waits_for_q waits_for_q_grown nothing_recorded steps old new → ⊥
reported_through B steps old new reported below =
    none_known_above waits_for_q waits_for_q_grown 1
    (λ file is. none_some file is)
    (λ p h. all_has (Unmade waits_for_q) (codes "q" ∷ []) p (refl, tt) h)
    (λ p f h made. all_has (ByDyndep waits_for_q waits_for_q_grown) (codes "q" ∷ []) p (λ m is. by_o waits_for_q (codes "dd") 3 m refl is, tt) h f made)
    2 1 refl (below.reports 1 2 (codes "r") reported refl refl)
