-- How many edges stand so, and how many numbers lists of steps have.
use Rattle.std.proofs.Common.{◌≡◌, inl, inr, ℕ, zero, suc, ◌+◌, ◌<◌, ◌==◌, ◌&&◌, ◌||◌, not, cond, filter, Bool, true, false, List, [], ◌∷◌, ◌++◌, length, count_by, refl, sym, ◌∙◌, ap, subst, arith, append_assoc}
use Rattle.std.proofs.Math.ListN.{set}
use Rattle.std.proofs.lemmas.List.{append-nil, get_or-set_same, get_or-set_other}
use Rattle.std.proofs.lemmas.List.Sums.{sum_by-cons}
use Rattle.std.proofs.lemmas.Bool.{false≢true, or_left, or_right, eq-eqb, eqb-true, cases_eq, false_from_ne_true, cond-true, cond-false}
use Rattle.model.specs.Graph.{has_number}
use Rattle.model.specs.Schedule.{Task, Step, Judged, Started, Ended, started_in, ended_in, well_in, failed_in, running_in}
use Rattle.theory.proofs.Lists.{has_number-filter, has_number-push_cases}
use Rattle.theory.specs.Order.{IsOrderlyStep, IsOrderlyFrom, IsOrderly}
use Rattle.theory.proofs.Orderly.{kept_orderly, orderly_push}
use Rattle.theory.proofs.Steps.{running_parts, started-append, well-append, failed-append}
use Rattle.plan.specs.Planned.{AreTaken}
use Rattle.plan.specs.declared.step.Standing.{Standing}
use Rattle.plan.specs.declared.step.Standing.TheVariants.{Outside}
use Rattle.plan.specs.Standing.{standing_at}
use Rattle.plan.specs.Steps.{IsOnce}
use Rattle.plan.proofs.CountBy.{count_loses}

-- ---- lists with each number once

once_push : (xs : List ℕ) (i : ℕ) → IsOnce xs → has_number xs i ≡ false → IsOnce (xs ++ i ∷ [])
once_push [] i once none = (refl, tt)
once_push (x ∷ xs) i once none = (
  false_from_ne_true (has_number (xs ++ i ∷ []) x) (λ h. elim (has_number-push_cases xs i x h) [
    | inl old ↦ false≢true (sym once.0 ∙ old)
    | inr same ↦ false≢true (sym none ∙ or_left (x == i) (has_number xs i) (eq-eqb x i (sym same)))
  ]),
  once_push xs i once.1 (false_from_ne_true (has_number xs i) (λ h. false≢true (sym none ∙ or_right (x == i) (has_number xs i) h))),
)

once_filter : (test : ℕ → Bool) (xs : List ℕ) → IsOnce xs → IsOnce (filter test xs)
once_filter test [] once = tt
once_filter test (x ∷ xs) once = by_test (once_filter test xs once.1) (test x) refl
  where
    by_test : IsOnce (filter test xs) → (b : Bool) → test x ≡ b → IsOnce (cond (test x) (x ∷ filter test xs) (filter test xs))
    by_test rest true is =
        subst (λ (l : List ℕ). IsOnce l) (sym (cond-true (test x) (x ∷ filter test xs) (filter test xs) is))
        (has_number-filter test xs x ∙ ap (λ (b : Bool). b && test x) once.0, rest)
    by_test rest false is = subst (λ (l : List ℕ). IsOnce l) (sym (cond-false (test x) (x ∷ filter test xs) (filter test xs) is)) rest

-- ---- edges that stand so are those of a list

abbrev one_if : Bool → ℕ
one_if b = cond b 1 0

pub count_nothing : (test : Standing → Bool) (ss : List Standing) → ((e : ℕ) → test (standing_at ss e) ≡ false) → count_by test ss ≡ 0
count_nothing test [] none = refl
count_nothing test (s ∷ ss) none =
    let e : count_by test (s ∷ ss) ≡ one_if (test s) + count_by test ss = sum_by-cons (λ (x : Standing). one_if (test x)) s ss in
    let z : one_if (test s) ≡ 0 = ap one_if (none 0) in
    let rest = count_nothing test ss (λ k. none (suc k)) in
    omega (arith, e, z, rest)

pub stands_within : (test : Standing → Bool) (ss : List Standing) (e : ℕ) → test Outside ≡ false → test (standing_at ss e) ≡ true → e < length ss
stands_within test [] e none is = absurd (false≢true (sym none ∙ is))
stands_within test (s ∷ ss) zero none is = omega arith
stands_within test (s ∷ ss) (suc e) none is = let rest = stands_within test ss e none is in omega (arith, rest)

module _ (test : Standing → Bool) (none : test Outside ≡ false) where
  pub count_listed : (ss : List Standing) (xs : List ℕ) → IsOnce xs → has_number xs 0 ≡ false → ((e : ℕ) → test (standing_at ss e) ≡ has_number xs (suc e)) → count_by test ss ≡ length xs
  count_listed ss [] once positive is = count_nothing test ss is
  count_listed ss (zero ∷ xs) once positive is = absurd (false≢true (sym positive))
  count_listed ss (suc e ∷ xs) once positive is =
      let here : test (standing_at ss e) ≡ true = is e ∙ or_left (suc e == suc e) (has_number xs (suc e)) (eq-eqb (suc e) (suc e) refl) in
      let lt = stands_within test ss e none here in
      let rest = count_listed (set ss e Outside) xs once.1 (false_from_ne_true (has_number xs 0) (λ h. false≢true (sym positive ∙ or_right (suc e == 0) (has_number xs 0) h))) (λ k. elim (cases_eq k e) [
        | inl same ↦
            ap test (subst (λ (n : ℕ). standing_at (set ss e Outside) n ≡ Outside) (sym same) (get_or-set_same ss e Outside Outside lt))
            ∙ (none ∙ sym (ap (λ (n : ℕ). has_number xs (suc n)) same ∙ once.0))
        | inr other ↦
            ap test (get_or-set_other ss e k Outside Outside other)
            ∙ (is k ∙ ap (λ (b : Bool). b || has_number xs (suc k)) (false_from_ne_true (suc e == suc k) (λ h. other (omega (arith, eqb-true (suc e) (suc k) h)))))
      ]) in
      let less = count_loses test ss e Outside Outside lt here none in
      omega (arith, rest, less)

-- ---- each edge is started once, and ends once

record AreOnce (steps : List Step) : Type 0 where
  pub started : IsOnce (started_in steps)
  pub well : IsOnce (well_in steps)
  pub failed : IsOnce (failed_in steps)

module _ (task : Task) where
  same_list : (f : List Step → List ℕ) → ((xs ys : List Step) → f (xs ++ ys) ≡ f xs ++ f ys) → (steps : List Step) (step : Step) → f (step ∷ []) ≡ [] → IsOnce (f steps) → IsOnce (f (steps ++ step ∷ []))
  same_list f append steps step nothing once =
      subst (λ (l : List ℕ). IsOnce l) (sym (append steps (step ∷ []) ∙ (ap (λ (l : List ℕ). f steps ++ l) nothing ∙ append-nil (f steps)))) once

  more_list : (f : List Step → List ℕ) → ((xs ys : List Step) → f (xs ++ ys) ≡ f xs ++ f ys) → (steps : List Step) (step : Step) (i : ℕ) → f (step ∷ []) ≡ i ∷ [] → has_number (f steps) i ≡ false → IsOnce (f steps) → IsOnce (f (steps ++ step ∷ []))
  more_list f append steps step i one fresh once =
      subst (λ (l : List ℕ). IsOnce l) (sym (append steps (step ∷ []) ∙ ap (λ (l : List ℕ). f steps ++ l) one)) (once_push (f steps) i once fresh)

  once_step : (steps : List Step) (step : Step) → IsOrderly task.graph.edges steps → IsOrderlyStep task.graph.edges steps step → AreOnce steps → AreOnce (steps ++ step ∷ [])
  once_step steps (Judged i b) orderly next once = record {
    started = same_list started_in started-append steps (Judged i b) refl once.started;
    well = same_list well_in well-append steps (Judged i b) refl once.well;
    failed = same_list failed_in failed-append steps (Judged i b) refl once.failed;
  }
  once_step steps (Started i) orderly next once = record {
    started = more_list started_in started-append steps (Started i) i refl next.1 once.started;
    well = same_list well_in well-append steps (Started i) refl once.well;
    failed = same_list failed_in failed-append steps (Started i) refl once.failed;
  }
  once_step steps (Ended i true) orderly next once = record {
    started = same_list started_in started-append steps (Ended i true) refl once.started;
    well = more_list well_in well-append steps (Ended i true) i refl
        (false_from_ne_true (has_number (well_in steps) i) (λ h. false≢true (sym (running_parts steps i next).1 ∙ (kept_orderly task.graph.edges steps orderly).well i h))) once.well;
    failed = same_list failed_in failed-append steps (Ended i true) refl once.failed;
  }
  once_step steps (Ended i false) orderly next once = record {
    started = same_list started_in started-append steps (Ended i false) refl once.started;
    well = same_list well_in well-append steps (Ended i false) refl once.well;
    failed = more_list failed_in failed-append steps (Ended i false) i refl
        (false_from_ne_true (has_number (failed_in steps) i) (λ h. false≢true (sym (running_parts steps i next).1 ∙ (kept_orderly task.graph.edges steps orderly).failed i h))) once.failed;
  }

  once_from : (before steps : List Step) → IsOrderly task.graph.edges before → IsOrderlyFrom task.graph.edges before steps → AreOnce before → AreOnce (before ++ steps)
  once_from before [] orderly next once = subst (λ (l : List Step). AreOnce l) (sym (append-nil before)) once
  once_from before (step ∷ steps) orderly next once =
      subst (λ (l : List Step). AreOnce l) (append_assoc before (step ∷ []) steps)
      (once_from (before ++ step ∷ []) steps (orderly_push task.graph.edges before step orderly next.0) next.1 (once_step before step orderly next.0 once))

  once_lawful : (steps : List Step) → AreTaken task steps → AreOnce steps
  once_lawful steps lawful = once_from [] steps tt lawful.orderly record { started = tt; well = tt; failed = tt }

  pub failed_once : (steps : List Step) → AreTaken task steps → IsOnce (failed_in steps)
  failed_once steps lawful = (once_lawful steps lawful).failed

  pub started_once : (steps : List Step) → AreTaken task steps → IsOnce (started_in steps)
  started_once steps lawful = (once_lawful steps lawful).started

  pub well_once : (steps : List Step) → AreTaken task steps → IsOnce (well_in steps)
  well_once steps lawful = (once_lawful steps lawful).well

  pub running_once : (steps : List Step) → AreTaken task steps → IsOnce (running_in steps)
  running_once steps lawful = once_filter (λ i. not (has_number (ended_in steps) i)) (started_in steps) (once_lawful steps lawful).started
