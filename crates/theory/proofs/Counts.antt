-- How many commands were started, run and ended.
use Rattle.std.proofs.Common.{◌≡◌, ℕ, ◌+◌, ◌==◌, not, cond, filter, length, Bool, true, false, List, [], ◌∷◌, ◌++◌, refl, sym, ◌∙◌, ap, subst, arith, append_assoc}
use Rattle.std.proofs.lemmas.List.{append-nil, length-append}
use Rattle.std.proofs.lemmas.List.Elements.{filter-append}
use Rattle.std.proofs.lemmas.Bool.{false≢true, or_left, or_right, eq-eqb, cond-true, cond-false, not_from_true, not_from_false, false_from_ne_true}
use Rattle.model.specs.Graph.{has_number}
use Rattle.model.specs.declared.graph.Edge.{Edge}
use Rattle.model.specs.Schedule.{Step, Judged, Started, Ended, started_in, ended_in, well_in, failed_in, running_in}
use Rattle.theory.specs.Order.{IsOrderlyStep, IsOrderlyFrom, IsOrderly}
use Rattle.theory.proofs.Lists.{IsPlace, place_of, has_number-right, has_number-push, has_number-push_other}
use Rattle.theory.proofs.Orderly.{IsKept, kept_orderly, orderly_push}
use Rattle.theory.proofs.Steps.{started-append, ended-append, running_parts}
use Rattle.theory.proofs.Exit.{distinct_from}

-- ---- lists

-- two tests that agree on a list keep the same of it
filter_same : (f g : ℕ → Bool) (xs : List ℕ) → ((j : ℕ) → has_number xs j ≡ true → f j ≡ g j) → filter f xs ≡ filter g xs
filter_same f g [] same = refl
filter_same f g (x ∷ xs) same =
    ap (λ (b : Bool). cond b (x ∷ filter f xs) (filter f xs)) (same x (or_left (x == x) (has_number xs x) (eq-eqb x x refl)))
    ∙ ap (λ (l : List ℕ). cond (g x) (x ∷ l) l) (filter_same f g xs (λ j h. same j (or_right (x == j) (has_number xs j) h)))

-- ---- each step

pub running_judged : (steps : List Step) (i : ℕ) (out_of_date : Bool) → running_in (steps ++ Judged i out_of_date ∷ []) ≡ running_in steps
running_judged steps i out_of_date =
    ap (λ (l : List ℕ). filter (λ j. not (has_number (ended_in (steps ++ Judged i out_of_date ∷ [])) j)) l) (started-append steps (Judged i out_of_date ∷ []) ∙ append-nil (started_in steps))
    ∙ ap (λ (l : List ℕ). filter (λ j. not (has_number l j)) (started_in steps)) (ended-append steps (Judged i out_of_date ∷ []) ∙ append-nil (ended_in steps))

module _ (edges : List Edge) (steps : List Step) (orderly : IsOrderly edges steps) where
  kept : IsKept edges steps
  kept = kept_orderly edges steps orderly

  -- a started command runs, behind those that ran before
  pub running_started : (i : ℕ) → IsOrderlyStep edges steps (Started i) → running_in (steps ++ Started i ∷ []) ≡ running_in steps ++ i ∷ []
  running_started i next =
      ap (λ (l : List ℕ). filter (λ j. not (has_number (ended_in (steps ++ Started i ∷ [])) j)) l) (started-append steps (Started i ∷ []))
      ∙ (ap (λ (l : List ℕ). filter (λ j. not (has_number l j)) (started_in steps ++ i ∷ [])) (ended-append steps (Started i ∷ []) ∙ append-nil (ended_in steps))
      ∙ (filter-append (λ j. not (has_number (ended_in steps) j)) (started_in steps) (i ∷ [])
      ∙ ap (λ (l : List ℕ). running_in steps ++ l) (cond-true (not (has_number (ended_in steps) i)) (i ∷ []) [] (not_from_false (has_number (ended_in steps) i) fresh))))
    where
      fresh : has_number (ended_in steps) i ≡ false
      fresh = false_from_ne_true (has_number (ended_in steps) i) (λ h. false≢true (sym next.1 ∙ kept.ended i h))

  -- no edge is started again
  not_again : (before after : List ℕ) (i : ℕ) → started_in steps ≡ before ++ i ∷ after → has_number after i ≡ false
  not_again before after i splits = false_from_ne_true (has_number after i) (λ h. twice (place_of after i h))
    where
      twice : IsPlace after i → ⊥
      twice place =
          let all : started_in steps ≡ (before ++ i ∷ place.before) ++ i ∷ place.after =
          splits ∙ (ap (λ (l : List ℕ). before ++ i ∷ l) place.splits ∙ sym (append_assoc before (i ∷ place.before) (i ∷ place.after))) in
          false≢true (sym (distinct_from edges [] steps orderly (before ++ i ∷ place.before) place.after i all)
          ∙ has_number-right before (i ∷ place.before) i (or_left (i == i) (has_number place.before i) (eq-eqb i i refl)))

  -- one command less runs when one has ended
  pub running_ended : (i : ℕ) (well : Bool) → IsOrderlyStep edges steps (Ended i well) → length (running_in steps) ≡ length (running_in (steps ++ Ended i well ∷ [])) + 1
  running_ended i well next = by_place (place_of (started_in steps) i (running_parts steps i next).0)
    where
      agree : (xs : List ℕ) → has_number xs i ≡ false → filter (λ j. not (has_number (ended_in steps) j)) xs ≡ filter (λ j. not (has_number (ended_in steps ++ i ∷ []) j)) xs
      agree xs none = filter_same (λ j. not (has_number (ended_in steps) j)) (λ j. not (has_number (ended_in steps ++ i ∷ []) j)) xs
          (λ j h. ap not (sym (has_number-push_other (ended_in steps) i j (λ same. false≢true (sym none ∙ (ap (λ (n : ℕ). has_number xs n) same ∙ h))))))

      by_place : IsPlace (started_in steps) i → length (running_in steps) ≡ length (running_in (steps ++ Ended i well ∷ [])) + 1
      by_place place =
          let f : ℕ → Bool = λ j. not (has_number (ended_in steps) j) in
          let g : ℕ → Bool = λ j. not (has_number (ended_in steps ++ i ∷ []) j) in
          let was : running_in steps ≡ filter f place.before ++ (i ∷ filter f place.after) =
          ap (λ (l : List ℕ). filter f l) place.splits ∙ (filter-append f place.before (i ∷ place.after)
          ∙ ap (λ (l : List ℕ). filter f place.before ++ l) (cond-true (f i) (i ∷ filter f place.after) (filter f place.after) (not_from_false (has_number (ended_in steps) i) (running_parts steps i next).1))) in
          let is : running_in (steps ++ Ended i well ∷ []) ≡ filter g place.before ++ filter g place.after =
          ap (λ (l : List ℕ). filter (λ j. not (has_number (ended_in (steps ++ Ended i well ∷ [])) j)) l) (started-append steps (Ended i well ∷ []) ∙ append-nil (started_in steps))
          ∙ (ap (λ (l : List ℕ). filter (λ j. not (has_number l j)) (started_in steps)) (ended-append steps (Ended i well ∷ []))
          ∙ (ap (λ (l : List ℕ). filter g l) place.splits ∙ (filter-append g place.before (i ∷ place.after)
          ∙ ap (λ (l : List ℕ). filter g place.before ++ l) (cond-false (g i) (i ∷ filter g place.after) (filter g place.after) (not_from_true (has_number (ended_in steps ++ i ∷ []) i) (has_number-push (ended_in steps) i)))))) in
          let a = ap length was ∙ length-append (filter f place.before) (i ∷ filter f place.after) in
          let b = ap length is ∙ length-append (filter g place.before) (filter g place.after) in
          let c = ap length (agree place.before place.first) in
          let d = ap length (agree place.after (not_again place.before place.after i place.splits)) in
          omega (arith, a, b, c, d)

-- ---- sums

pub ended_length : (steps : List Step) → length (ended_in steps) ≡ length (well_in steps) + length (failed_in steps)
ended_length [] = refl
ended_length (Judged i b ∷ steps) = ended_length steps
ended_length (Started i ∷ steps) = ended_length steps
ended_length (Ended i true ∷ steps) = let rest = ended_length steps in omega (arith, rest)
ended_length (Ended i false ∷ steps) = let rest = ended_length steps in omega (arith, rest)

module _ (edges : List Edge) where
  abbrev Sums : List Step → Type 0
  Sums steps = length (started_in steps) ≡ length (running_in steps) + length (ended_in steps)

  started_length_from : (before steps : List Step) → IsOrderly edges before → IsOrderlyFrom edges before steps → Sums before → Sums (before ++ steps)
  started_length_from before [] orderly next sums = subst (λ (l : List Step). Sums l) (sym (append-nil before)) sums
  started_length_from before (step ∷ steps) orderly next sums =
      subst (λ (l : List Step). Sums l) (append_assoc before (step ∷ []) steps)
      (started_length_from (before ++ step ∷ []) steps (orderly_push edges before step orderly next.0) next.1 (one_more step next.0))
    where
      one_more : (s : Step) → IsOrderlyStep edges before s → Sums (before ++ s ∷ [])
      one_more (Judged i b) next =
          let a = ap length (started-append before (Judged i b ∷ []) ∙ append-nil (started_in before)) in
          let c = ap length (ended-append before (Judged i b ∷ []) ∙ append-nil (ended_in before)) in
          let d = ap length (running_judged before i b) in
          omega (arith, a, c, d, sums)
      one_more (Started i) next =
          let a = ap length (started-append before (Started i ∷ [])) ∙ length-append (started_in before) (i ∷ []) in
          let c = ap length (ended-append before (Started i ∷ []) ∙ append-nil (ended_in before)) in
          let d = ap length (running_started edges before orderly i next) ∙ length-append (running_in before) (i ∷ []) in
          omega (arith, a, c, d, sums)
      one_more (Ended i w) next =
          let a = ap length (started-append before (Ended i w ∷ []) ∙ append-nil (started_in before)) in
          let c = ap length (ended-append before (Ended i w ∷ [])) ∙ length-append (ended_in before) (i ∷ []) in
          let d = running_ended edges before orderly i w next in
          omega (arith, a, c, d, sums)

  -- each started command runs or has ended
  pub started_length : (steps : List Step) → IsOrderly edges steps → length (started_in steps) ≡ length (running_in steps) + length (ended_in steps)
  started_length steps orderly = started_length_from [] steps tt orderly refl
