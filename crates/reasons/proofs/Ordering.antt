-- A cone that is walked anew from its own edges has the same edges.
use Rattle.std.proofs.Common.{◌≡◌, ◌⊎◌, inl, inr, ℕ, zero, suc, ◌+◌, ◌<◌, ◌==◌, ◌||◌, if◌then◌else◌, Bool, true, false, List, [], ◌∷◌, ◌++◌, map, slice_index, length, refl, sym, ◌∙◌, ap, arith, subst}
use Rattle.std.proofs.lemmas.Bool.{eq-eqb, eqb-true, or_cases, or_left, or_right, false≢true, cases_Bool}
use Rattle.model.specs.declared.graph.Edge.{Edge}
use Rattle.model.specs.Graph.{has_number}
use Rattle.model.specs.Reading.{IsInCone, Needed, Validating}
use Rattle.theory.proofs.Lists.{has_number-left, has_number-right, has_number-cases}
use Rattle.graph.specs.declared.cone.Mark.{Mark}
use Rattle.graph.specs.Cone.{IsCone, IsNeeded, Asked, Above, Beside, is_listed, mark_at}
use Rattle.graph.specs.Linked.{IsConeOf, IsLinksOf}
use Rattle.graph.specs.Links.{Links}
use Rattle.reasons.specs.Order.{listed_below}

-- ---- lists of numbers

pub at_index : (xs : List ℕ) (k : ℕ) → k < length xs → has_number xs (slice_index xs k) ≡ true
at_index [] k lt = absurd (omega (arith, lt))
at_index (x ∷ xs) zero lt = or_left (x == x) (has_number xs x) (eq-eqb x x refl)
at_index (x ∷ xs) (suc k) lt = or_right (x == slice_index xs k) (has_number xs (slice_index xs k)) (at_index xs k (omega (arith, lt)))

pub place_of : (xs : List ℕ) (n : ℕ) → has_number xs n ≡ true → (k : ℕ) × (k < length xs) × (slice_index xs k ≡ n)
place_of [] n h = absurd (false≢true h)
place_of (x ∷ xs) n h = elim (or_cases (x == n) (has_number xs n) h) [
  | inl here ↦ (0, omega arith, eqb-true x n here)
  | inr later ↦ let rest = place_of xs n later in (suc rest.0, omega (arith, rest.1), rest.2)
]

has_pred : (xs : List ℕ) (n : ℕ) → has_number (map suc xs) (suc n) ≡ true → has_number xs n ≡ true
has_pred [] n h = absurd (false≢true h)
has_pred (x ∷ xs) n h = elim (or_cases (suc x == suc n) (has_number (map suc xs) (suc n)) h) [
  | inl here ↦ let same : suc x ≡ suc n = eqb-true (suc x) (suc n) here in or_left (x == n) (has_number xs n) (eq-eqb x n (omega (arith, same)))
  | inr later ↦ or_right (x == n) (has_number xs n) (has_pred xs n later)
]

same_bool : (a b : Bool) → (a ≡ true → b ≡ true) → (b ≡ true → a ≡ true) → a ≡ b
same_bool true b one two = sym (one refl)
same_bool false true one two = two refl
same_bool false false one two = refl

-- ---- the listed edges by number

one_has : (b : Bool) (n e : ℕ) → has_number (if b then n ∷ [] else []) e ≡ true → (b ≡ true) × (n ≡ e)
one_has true n e h = elim (or_cases (n == e) false h) [
  | inl here ↦ (refl, eqb-true n e here)
  | inr never ↦ absurd (false≢true never)
]
one_has false n e h = absurd (false≢true h)

has_one : (b : Bool) (n : ℕ) → b ≡ true → has_number (if b then n ∷ [] else []) n ≡ true
has_one true n is = or_left (n == n) false (eq-eqb n n refl)
has_one false n is = absurd (false≢true is)

pub listed_has : (marks : List Mark) (n e : ℕ) → has_number (listed_below marks n) e ≡ true → (e < n) × (is_listed (mark_at marks e) ≡ true)
listed_has marks zero e h = absurd (false≢true h)
listed_has marks (suc n) e h = elim (has_number-cases (listed_below marks n) (if is_listed (mark_at marks n) then n ∷ [] else []) e h) [
  | inl before ↦ let rest = listed_has marks n e before in (omega (arith, rest.0), rest.1)
  | inr last ↦
      let one = one_has (is_listed (mark_at marks n)) n e last in
      (omega (arith, one.1), subst (λ (x : ℕ). is_listed (mark_at marks x) ≡ true) one.1 one.0)
]

pub has_listed : (marks : List Mark) (n e : ℕ) → e < n → is_listed (mark_at marks e) ≡ true → has_number (listed_below marks n) e ≡ true
has_listed marks zero e lt is = absurd (omega (arith, lt))
has_listed marks (suc n) e lt is = elim (cases_Bool (e == n)) [
  | inl same ↦
      let here : e ≡ n = eqb-true e n same in
      has_number-right (listed_below marks n) (if is_listed (mark_at marks n) then n ∷ [] else []) e
      (subst (λ (x : ℕ). has_number (if is_listed (mark_at marks n) then n ∷ [] else []) x ≡ true) (sym here) (has_one (is_listed (mark_at marks n)) n (subst (λ (x : ℕ). is_listed (mark_at marks x) ≡ true) here is)))
  | inr other ↦
      let apart : e ≡ n → ⊥ = λ h. false≢true (sym other ∙ eq-eqb e n h) in
      has_number-left (listed_below marks n) (if is_listed (mark_at marks n) then n ∷ [] else []) e (has_listed marks n e (below e n lt apart) is)
]
  where
    below : (e n : ℕ) → e < suc n → (e ≡ n → ⊥) → e < n
    below zero zero lt apart = absurd (apart refl)
    below zero (suc n) lt apart = omega arith
    below (suc e) zero lt apart = absurd (omega (arith, lt))
    below (suc e) (suc n) lt apart = let less : e < n = below e n (omega (arith, lt)) (λ h. apart (ap suc h)) in omega (arith, less)

listed_within : (marks : List Mark) (e : ℕ) → is_listed (mark_at marks e) ≡ true → e < length marks
listed_within [] e is = absurd (false≢true is)
listed_within (m ∷ marks) zero is = omega arith
listed_within (m ∷ marks) (suc e) is = omega (arith, listed_within marks e is)

-- ---- the cone

module _ (edges : List Edge) (recorded : ℕ → List (List ℕ)) (targets : List (List ℕ)) (links : Links) (linked : IsLinksOf edges recorded links) (old : List ℕ) (marks : List Mark) (cone : IsConeOf edges recorded targets old marks)
    (requested : List ℕ) (are : requested ≡ listed_below marks links.count) (order : List ℕ) (new_marks : List Mark) (from : IsCone links requested order new_marks)
  where
    needed_old : (e : ℕ) → IsNeeded links requested e → IsInCone edges recorded targets (suc e)
    needed_old _ (Asked k lt) =
        let x = slice_index requested k in
        cone.within x (sym (cone.marked x) ∙ (listed_has marks links.count x (subst (λ (l : List ℕ). has_number l x ≡ true) are (at_index requested k lt))).1)
    needed_old _ (Above e k m need lt is) =
        let link = linked.linked e (suc m) record { place = k; number = m; within = lt; is = is; same = refl } in
        Needed (suc m) (suc e) link.path (needed_old e need) link.needed link.made
    needed_old _ (Beside e k m need lt is) =
        let link = linked.validating e (suc m) record { place = k; number = m; within = lt; is = is; same = refl } in
        Validating (suc m) (suc e) link.path (needed_old e need) link.named link.made

    pub same_cone : (e : ℕ) → has_number order e ≡ has_number old e
    same_cone e = same_bool (has_number order e) (has_number old e) new_old old_new
      where
        new_old : has_number order e ≡ true → has_number old e ≡ true
        new_old h = has_pred old e (cone.all (suc e) (needed_old e (from.needed e h)))

        old_new : has_number old e ≡ true → has_number order e ≡ true
        old_new h =
            let listed : is_listed (mark_at marks e) ≡ true = cone.marked e ∙ h in
            let lt : e < links.count = omega (arith, listed_within marks e listed, cone.fits, linked.fits) in
            let place = place_of requested e (subst (λ (l : List ℕ). has_number l e ≡ true) (sym are) (has_listed marks links.count e lt listed)) in
            subst (λ (x : ℕ). has_number order x ≡ true) place.2 (from.asked place.0 place.1)
