-- How many commands of a pool run, after one more step.
use Rattle.std.proofs.Common.{◌≡◌, ◌⊎◌, inl, inr, ℕ, zero, suc, ◌+◌, ◌-◌, ◌<◌, ◌==◌, ◌&&◌, ◌||◌, not, cond, filter, Bool, true, false, List, [], ◌∷◌, ◌++◌, Option, Some, None, length, get_or, refl, sym, ◌∙◌, ap, arith}
use Rattle.std.proofs.Math.ListN.{set}
use Rattle.std.proofs.lemmas.List.{append-nil, length-set, get_or-set_same, get_or-set_other}
use Rattle.std.proofs.lemmas.List.Elements.{filter-append}
use Rattle.std.proofs.lemmas.Bool.{false≢true, or_cases, or_left, or_right, eq-eqb, eqb-true, cases_eq, false_from_ne_true}
use Rattle.model.specs.Graph.{has_number}
use Rattle.model.specs.Schedule.{Task, Step, Judged, Started, Ended, started_in, ended_in, running_in}
use Rattle.theory.proofs.Lists.{has_number-append}
use Rattle.theory.proofs.Steps.{started-append, ended-append, running_parts}
use Rattle.plan.specs.Turns.{runs_in, set_runs}
use Rattle.plan.specs.Planned.{is_place, AreTaken}
use Rattle.plan.specs.Steps.{IsOnce}
use Rattle.plan.proofs.PlannedCounts.{started_once}

abbrev pub one_if : Bool → ℕ
one_if b = cond b 1 0

filter_cons : (p : ℕ → Bool) (x : ℕ) (xs : List ℕ) → length (filter p (x ∷ xs)) ≡ one_if (p x) + length (filter p xs)
filter_cons p x xs = by (p x)
  where
    by : (b : Bool) → length (cond b (x ∷ filter p xs) (filter p xs)) ≡ one_if b + length (filter p xs)
    by true = omega arith
    by false = omega arith

pub same_filter : (p q : ℕ → Bool) (xs : List ℕ) → ((i : ℕ) → has_number xs i ≡ true → p i ≡ q i) → filter p xs ≡ filter q xs
same_filter p q [] same = refl
same_filter p q (x ∷ xs) same =
    ap (λ (b : Bool). cond b (x ∷ filter p xs) (filter p xs)) (same x (or_left (x == x) (has_number xs x) (eq-eqb x x refl)))
    ∙ ap (λ (l : List ℕ). cond (q x) (x ∷ l) l) (same_filter p q xs (λ i h. same i (or_right (x == i) (has_number xs i) h)))

filter_both : (p q : ℕ → Bool) (xs : List ℕ) → length (filter p (filter q xs)) ≡ length (filter (λ i. q i && p i) xs)
filter_both p q [] = refl
filter_both p q (x ∷ xs) = by (q x) refl (filter_both p q xs)
  where
    by : (b : Bool) → q x ≡ b → length (filter p (filter q xs)) ≡ length (filter (λ i. q i && p i) xs) → length (filter p (filter q (x ∷ xs))) ≡ length (filter (λ i. q i && p i) (x ∷ xs))
    by true is rest =
        let a : length (filter p (filter q (x ∷ xs))) ≡ length (filter p (x ∷ filter q xs)) = ap (λ (c : Bool). length (filter p (cond c (x ∷ filter q xs) (filter q xs)))) is in
        let b = filter_cons p x (filter q xs) in
        let d = filter_cons (λ i. q i && p i) x xs in
        let e : one_if (q x && p x) ≡ one_if (p x) = ap (λ (c : Bool). one_if (c && p x)) is in
        omega (arith, rest, a, b, d, e)
    by false is rest =
        let a : length (filter p (filter q (x ∷ xs))) ≡ length (filter p (filter q xs)) = ap (λ (c : Bool). length (filter p (cond c (x ∷ filter q xs) (filter q xs)))) is in
        let d = filter_cons (λ i. q i && p i) x xs in
        let e : one_if (q x && p x) ≡ 0 = ap (λ (c : Bool). one_if (c && p x)) is in
        omega (arith, rest, a, d, e)

-- a test that one member passes no more
one_less : (s t : ℕ → Bool) (i : ℕ) (xs : List ℕ) → IsOnce xs → has_number xs i ≡ true → t i ≡ false → ((j : ℕ) → (i ≡ j → ⊥) → s j ≡ t j) → length (filter s xs) ≡ one_if (s i) + length (filter t xs)
one_less s t i [] once here off other = absurd (false≢true here)
one_less s t i (x ∷ xs) once here off other = elim (cases_eq i x) [
  | inl same ↦
      let rest : length (filter s xs) ≡ length (filter t xs) = ap (λ (l : List ℕ). length l) (same_filter s t xs (λ j h. other j (λ is. false≢true (sym once.0 ∙ (ap (λ (n : ℕ). has_number xs n) (sym same ∙ is) ∙ h))))) in
      let a = filter_cons s x xs in
      let b = filter_cons t x xs in
      let c : one_if (s x) ≡ one_if (s i) = ap (λ (n : ℕ). one_if (s n)) (sym same) in
      let d : one_if (t x) ≡ 0 = ap (λ (n : ℕ). one_if (t n)) (sym same) ∙ ap one_if off in
      omega (arith, rest, a, b, c, d)
  | inr apart ↦
      let rest = one_less s t i xs once.1 (inside (or_cases (x == i) (has_number xs i) here) apart) off other in
      let a = filter_cons s x xs in
      let b = filter_cons t x xs in
      let c : one_if (s x) ≡ one_if (t x) = ap one_if (other x apart) in
      omega (arith, rest, a, b, c)
]
  where
    inside : ((x == i) ≡ true) ⊎ (has_number xs i ≡ true) → (i ≡ x → ⊥) → has_number xs i ≡ true
    inside (inl same) apart = absurd (apart (sym (eqb-true x i same)))
    inside (inr rest) apart = rest

pub filter_push : (p : ℕ → Bool) (xs : List ℕ) (y : ℕ) → length (filter p (xs ++ y ∷ [])) ≡ length (filter p xs) + one_if (p y)
filter_push p [] y = let a = filter_cons p y [] in omega (arith, a)
filter_push p (x ∷ xs) y =
    let a = filter_cons p x (xs ++ y ∷ []) in
    let b = filter_cons p x xs in
    let rest = filter_push p xs y in
    omega (arith, a, b, rest)

abbrev ends : List Step → ℕ → Bool
ends steps j = not (has_number (ended_in steps) j)

module _ (steps : List Step) where
  ends_same : (step : Step) (j : ℕ) → ended_in (step ∷ []) ≡ [] → ends (steps ++ step ∷ []) j ≡ ends steps j
  ends_same step j none = ap (λ (l : List ℕ). not (has_number l j)) (ended-append steps (step ∷ []) ∙ (ap (λ (l : List ℕ). ended_in steps ++ l) none ∙ append-nil (ended_in steps)))

  pub running_judged : (i : ℕ) (b : Bool) → running_in (steps ++ Judged i b ∷ []) ≡ running_in steps
  running_judged i b =
      ap (λ (l : List ℕ). filter (ends (steps ++ Judged i b ∷ [])) l) (started-append steps (Judged i b ∷ []) ∙ append-nil (started_in steps))
      ∙ same_filter (ends (steps ++ Judged i b ∷ [])) (ends steps) (started_in steps) (λ j h. ends_same (Judged i b) j refl)

  pub running_started : (i : ℕ) → has_number (ended_in steps) i ≡ false → running_in (steps ++ Started i ∷ []) ≡ running_in steps ++ i ∷ []
  running_started i none =
      ap (λ (l : List ℕ). filter (ends (steps ++ Started i ∷ [])) l) (started-append steps (Started i ∷ []))
      ∙ (same_filter (ends (steps ++ Started i ∷ [])) (ends steps) (started_in steps ++ i ∷ []) (λ j h. ends_same (Started i) j refl)
      ∙ (filter-append (ends steps) (started_in steps) (i ∷ [])
      ∙ ap (λ (b : Bool). running_in steps ++ cond (not b) (i ∷ []) []) none))

  pub running_ended : (task : Task) → AreTaken task steps → (p : ℕ → Bool) (i : ℕ) (w : Bool) → has_number (running_in steps) i ≡ true
      → length (filter p (running_in steps)) ≡ one_if (p i) + length (filter p (running_in (steps ++ Ended i w ∷ [])))
  running_ended task lawful p i w runs =
      let step : Step = Ended i w in
      let both = running_parts steps i runs in
      let a = filter_both p (ends steps) (started_in steps) in
      let now : length (filter p (running_in (steps ++ step ∷ []))) ≡ length (filter p (filter (ends (steps ++ step ∷ [])) (started_in steps)))
      = ap (λ (l : List ℕ). length (filter p (filter (ends (steps ++ step ∷ [])) l))) (started-append steps (step ∷ []) ∙ append-nil (started_in steps)) in
      let b = filter_both p (ends (steps ++ step ∷ [])) (started_in steps) in
      let here : one_if (ends steps i && p i) ≡ one_if (p i) = ap (λ (c : Bool). one_if (not c && p i)) both.1 in
      let less = one_less (λ j. ends steps j && p j) (λ j. ends (steps ++ step ∷ []) j && p j) i (started_in steps) (started_once task steps lawful) both.0 gone others in
      omega (arith, a, now, b, here, less)
    where
      ended : (j : ℕ) → has_number (ended_in (steps ++ Ended i w ∷ [])) j ≡ (has_number (ended_in steps) j || ((i == j) || false))
      ended j = ap (λ (l : List ℕ). has_number l j) (ended-append steps (Ended i w ∷ [])) ∙ has_number-append (ended_in steps) (i ∷ []) j

      or_true : (a b : Bool) → b ≡ true → (a || (b || false)) ≡ true
      or_true true b is = refl
      or_true false b is = ap (λ (c : Bool). c || false) is

      or_false : (a b : Bool) → b ≡ false → (a || (b || false)) ≡ a
      or_false true b is = refl
      or_false false b is = ap (λ (c : Bool). c || false) is

      gone : (ends (steps ++ Ended i w ∷ []) i && p i) ≡ false
      gone = ap (λ (b : Bool). not b && p i) (ended i ∙ or_true (has_number (ended_in steps) i) (i == i) (eq-eqb i i refl))

      others : (j : ℕ) → (i ≡ j → ⊥) → (ends steps j && p j) ≡ (ends (steps ++ Ended i w ∷ []) j && p j)
      others j apart = ap (λ (b : Bool). not b && p j) (sym (ended j ∙ or_false (has_number (ended_in steps) j) (i == j) (false_from_ne_true (i == j) (λ h. apart (eqb-true i j h)))))

-- ---- and how many are counted

pub at_least : (xs : List ℕ) (k : ℕ) → 0 < get_or xs k 0 → k < length xs
at_least [] k some = absurd (omega (arith, some))
at_least (x ∷ xs) zero some = omega arith
at_least (x ∷ xs) (suc k) some = let rest = at_least xs k some in omega (arith, rest)

pub runs_length : (running : List ℕ) (group : Option ℕ) (count : ℕ) → length (set_runs running group count) ≡ length running
runs_length running None count = refl
runs_length running (Some h) count = length-set running h count

module _ (running : List ℕ) (group : Option ℕ) where
  pub one_more_runs : ((h : ℕ) → group ≡ Some h → h < length running) → (g : ℕ) → get_or (set_runs running group (suc (runs_in running group))) g 0 ≡ get_or running g 0 + one_if (is_place group g)
  one_more_runs within g = by group refl
    where
      by : (o : Option ℕ) → group ≡ o → get_or (set_runs running o (suc (runs_in running o))) g 0 ≡ get_or running g 0 + one_if (is_place o g)
      by None is = omega arith
      by (Some h) is = elim (cases_eq g h) [
        | inl same ↦
            let a : get_or (set running h (suc (get_or running h 0))) g 0 ≡ suc (get_or running h 0) = ap (λ (n : ℕ). get_or (set running h (suc (get_or running h 0))) n 0) same ∙ get_or-set_same running h (suc (get_or running h 0)) 0 (within h is) in
            let b : get_or running g 0 ≡ get_or running h 0 = ap (λ (n : ℕ). get_or running n 0) same in
            let c : one_if (h == g) ≡ 1 = ap one_if (eq-eqb h g (sym same)) in
            omega (arith, a, b, c)
        | inr other ↦
            let a = get_or-set_other running h g (suc (get_or running h 0)) 0 other in
            let c : one_if (h == g) ≡ 0 = ap one_if (false_from_ne_true (h == g) (λ e. other (sym (eqb-true h g e)))) in
            omega (arith, a, c)
      ]

  pub one_less_runs : ((h : ℕ) → group ≡ Some h → 0 < get_or running h 0) → (g : ℕ) → get_or (set_runs running group (runs_in running group - 1)) g 0 + one_if (is_place group g) ≡ get_or running g 0
  one_less_runs some g = by group refl
    where
      by : (o : Option ℕ) → group ≡ o → get_or (set_runs running o (runs_in running o - 1)) g 0 + one_if (is_place o g) ≡ get_or running g 0
      by None is = omega arith
      by (Some h) is = elim (cases_eq g h) [
        | inl same ↦
            let a : get_or (set running h (get_or running h 0 - 1)) g 0 ≡ get_or running h 0 - 1 = ap (λ (n : ℕ). get_or (set running h (get_or running h 0 - 1)) n 0) same ∙ get_or-set_same running h (get_or running h 0 - 1) 0 (at_least running h (some h is)) in
            let b : get_or running g 0 ≡ get_or running h 0 = ap (λ (n : ℕ). get_or running n 0) same in
            let c : one_if (h == g) ≡ 1 = ap one_if (eq-eqb h g (sym same)) in
            let d = some h is in
            omega (arith, a, b, c, d)
        | inr other ↦
            let a = get_or-set_other running h g (get_or running h 0 - 1) 0 other in
            let c : one_if (h == g) ≡ 0 = ap one_if (false_from_ne_true (h == g) (λ e. other (sym (eqb-true h g e)))) in
            omega (arith, a, c)
      ]
