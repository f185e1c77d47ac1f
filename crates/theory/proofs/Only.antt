-- Some of the edges in an order: where they are closed under what they read, theirs is one too.
use Rattle.std.proofs.Common.{◌≡◌, inl, inr, ℕ, cond, ◌==◌, Bool, true, List, [], ◌∷◌, ◌++◌, Some, refl, sym, ◌∙◌, ap, subst}
use Rattle.std.proofs.lemmas.List.{append-nil}
use Rattle.std.proofs.lemmas.Bool.{false≢true, cases_Bool, cond-true, cond-false, or_cases, or_left, or_right, eqb-true, false_from_ne_true}
use Rattle.model.specs.declared.graph.Edge.{Edge}
use Rattle.model.specs.Graph.{has_number, maker, IsCommand}
use Rattle.theory.specs.Order.{IsReadingOrder}

abbrev pub only : (ℕ → Bool) → List ℕ → List ℕ
only quiet [] = []
only quiet (j ∷ js) = cond (quiet j) (j ∷ only quiet js) (only quiet js)

pub only_has : (quiet : ℕ → Bool) (js : List ℕ) (i : ℕ) → has_number (only quiet js) i ≡ true → (quiet i ≡ true) × (has_number js i ≡ true)
only_has quiet [] i h = absurd (false≢true h)
only_has quiet (j ∷ js) i h = elim (cases_Bool (quiet j)) [
  | inl is ↦
      let among : has_number (j ∷ only quiet js) i ≡ true = ap (λ (l : List ℕ). has_number l i) (sym (cond-true (quiet j) (j ∷ only quiet js) (only quiet js) is)) ∙ h in
      elim (or_cases (j == i) (has_number (only quiet js) i) among) [
        | inl here ↦ (ap quiet (sym (eqb-true j i here)) ∙ is, or_left (j == i) (has_number js i) here)
        | inr there ↦ let rest = only_has quiet js i there in (rest.0, or_right (j == i) (has_number js i) rest.1)
      ]
  | inr not ↦
      let rest = only_has quiet js i (ap (λ (l : List ℕ). has_number l i) (sym (cond-false (quiet j) (j ∷ only quiet js) (only quiet js) not)) ∙ h) in
      (rest.0, or_right (j == i) (has_number js i) rest.1)
]

pub has_only : (quiet : ℕ → Bool) (js : List ℕ) (i : ℕ) → has_number js i ≡ true → quiet i ≡ true → has_number (only quiet js) i ≡ true
has_only quiet [] i h is_quiet = absurd (false≢true h)
has_only quiet (j ∷ js) i h is_quiet = elim (cases_Bool (quiet j)) [
  | inl is ↦ ap (λ (l : List ℕ). has_number l i) (cond-true (quiet j) (j ∷ only quiet js) (only quiet js) is) ∙ elim (or_cases (j == i) (has_number js i) h) [
    | inl here ↦ or_left (j == i) (has_number (only quiet js) i) here
    | inr there ↦ or_right (j == i) (has_number (only quiet js) i) (has_only quiet js i there is_quiet)
  ]
  | inr not ↦ ap (λ (l : List ℕ). has_number l i) (cond-false (quiet j) (j ∷ only quiet js) (only quiet js) not) ∙ elim (or_cases (j == i) (has_number js i) h) [
    | inl here ↦ absurd (false≢true (sym not ∙ (ap quiet (eqb-true j i here) ∙ is_quiet)))
    | inr there ↦ has_only quiet js i there is_quiet
  ]
]

pub only-append : (quiet : ℕ → Bool) (xs ys : List ℕ) → only quiet (xs ++ ys) ≡ only quiet xs ++ only quiet ys
only-append quiet [] ys = refl
only-append quiet (x ∷ xs) ys = elim (cases_Bool (quiet x)) [
  | inl is ↦
      cond-true (quiet x) (x ∷ only quiet (xs ++ ys)) (only quiet (xs ++ ys)) is
      ∙ (ap (λ (l : List ℕ). x ∷ l) (only-append quiet xs ys)
      ∙ ap (λ (l : List ℕ). l ++ only quiet ys) (sym (cond-true (quiet x) (x ∷ only quiet xs) (only quiet xs) is)))
  | inr not ↦
      cond-false (quiet x) (x ∷ only quiet (xs ++ ys)) (only quiet (xs ++ ys)) not
      ∙ (only-append quiet xs ys
      ∙ ap (λ (l : List ℕ). l ++ only quiet ys) (sym (cond-false (quiet x) (x ∷ only quiet xs) (only quiet xs) not)))
]

module _ (edges : List Edge) (Reads : ℕ → List ℕ → Type 0) (quiet : ℕ → Bool)
    (above : (i j : ℕ) (p : List ℕ) → quiet i ≡ true → Reads i p → maker edges p ≡ Some j → IsCommand edges j → quiet j ≡ true) where
  pub only_order : (done rest : List ℕ) → IsReadingOrder edges Reads done rest → IsReadingOrder edges Reads (only quiet done) (only quiet rest)
  only_order done [] order = tt
  only_order done (i ∷ rest) order = elim (cases_Bool (quiet i)) [
    | inl is ↦ subst (λ (l : List ℕ). IsReadingOrder edges Reads (only quiet done) l) (sym (cond-true (quiet i) (i ∷ only quiet rest) (only quiet rest) is)) (
      (record {
        command = order.0.command;
        fresh = false_from_ne_true (has_number (only quiet done) i) (λ h. false≢true (sym order.0.fresh ∙ (only_has quiet done i h).1));
        reads = λ p j reads made command. has_only quiet done j (order.0.reads p j reads made command) (above i j p is reads made command);
      }),
      subst (λ (l : List ℕ). IsReadingOrder edges Reads l (only quiet rest)) (only-append quiet done (i ∷ []) ∙ ap (λ (l : List ℕ). only quiet done ++ l) (cond-true (quiet i) (i ∷ []) [] is)) (only_order (done ++ i ∷ []) rest order.1),
    )
    | inr not ↦ subst (λ (l : List ℕ). IsReadingOrder edges Reads (only quiet done) l) (sym (cond-false (quiet i) (i ∷ only quiet rest) (only quiet rest) not))
        (subst (λ (l : List ℕ). IsReadingOrder edges Reads l (only quiet rest)) (only-append quiet done (i ∷ []) ∙ (ap (λ (l : List ℕ). only quiet done ++ l) (cond-false (quiet i) (i ∷ []) [] not) ∙ append-nil (only quiet done))) (only_order (done ++ i ∷ []) rest order.1))
  ]
