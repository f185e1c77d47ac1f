-- Lists of steps, and how lawful schedules grow.
use Rattle.std.proofs.Common.{◌≡◌, ◌⊎◌, inl, inr, ℕ, ◌&&◌, ◌||◌, not, true, false, List, [], ◌∷◌, ◌++◌, refl, sym, ◌∙◌, ap, subst, append_assoc}
use Rattle.std.proofs.lemmas.List.{append-nil}
use Rattle.std.proofs.lemmas.Bool.{false≢true, and_parts, not-true}
use Rattle.model.specs.Graph.{has_number}
use Rattle.model.specs.Schedule.{Task, Step, Judged, Started, Ended, judged_in, clean_in, out_of_date_in, started_in, ended_in, well_in, failed_in, running_in, done_in, IsLawfulStep, IsLawfulFrom}
use Rattle.theory.specs.Order.{settled_in}
use Rattle.theory.proofs.Lists.{has_number-left, has_number-right, has_number-cases, has_number-append, has_number-filter}

-- ---- one list of steps behind another

pub judged-append : (xs ys : List Step) → judged_in (xs ++ ys) ≡ judged_in xs ++ judged_in ys
judged-append [] ys = refl
judged-append (Judged i b ∷ xs) ys = ap (λ (l : List ℕ). i ∷ l) (judged-append xs ys)
judged-append (Started i ∷ xs) ys = judged-append xs ys
judged-append (Ended i w ∷ xs) ys = judged-append xs ys

pub clean-append : (xs ys : List Step) → clean_in (xs ++ ys) ≡ clean_in xs ++ clean_in ys
clean-append [] ys = refl
clean-append (Judged i true ∷ xs) ys = clean-append xs ys
clean-append (Judged i false ∷ xs) ys = ap (λ (l : List ℕ). i ∷ l) (clean-append xs ys)
clean-append (Started i ∷ xs) ys = clean-append xs ys
clean-append (Ended i w ∷ xs) ys = clean-append xs ys

pub out_of_date-append : (xs ys : List Step) → out_of_date_in (xs ++ ys) ≡ out_of_date_in xs ++ out_of_date_in ys
out_of_date-append [] ys = refl
out_of_date-append (Judged i true ∷ xs) ys = ap (λ (l : List ℕ). i ∷ l) (out_of_date-append xs ys)
out_of_date-append (Judged i false ∷ xs) ys = out_of_date-append xs ys
out_of_date-append (Started i ∷ xs) ys = out_of_date-append xs ys
out_of_date-append (Ended i w ∷ xs) ys = out_of_date-append xs ys

pub started-append : (xs ys : List Step) → started_in (xs ++ ys) ≡ started_in xs ++ started_in ys
started-append [] ys = refl
started-append (Judged i b ∷ xs) ys = started-append xs ys
started-append (Started i ∷ xs) ys = ap (λ (l : List ℕ). i ∷ l) (started-append xs ys)
started-append (Ended i w ∷ xs) ys = started-append xs ys

pub ended-append : (xs ys : List Step) → ended_in (xs ++ ys) ≡ ended_in xs ++ ended_in ys
ended-append [] ys = refl
ended-append (Judged i b ∷ xs) ys = ended-append xs ys
ended-append (Started i ∷ xs) ys = ended-append xs ys
ended-append (Ended i w ∷ xs) ys = ap (λ (l : List ℕ). i ∷ l) (ended-append xs ys)

pub well-append : (xs ys : List Step) → well_in (xs ++ ys) ≡ well_in xs ++ well_in ys
well-append [] ys = refl
well-append (Judged i b ∷ xs) ys = well-append xs ys
well-append (Started i ∷ xs) ys = well-append xs ys
well-append (Ended i true ∷ xs) ys = ap (λ (l : List ℕ). i ∷ l) (well-append xs ys)
well-append (Ended i false ∷ xs) ys = well-append xs ys

pub failed-append : (xs ys : List Step) → failed_in (xs ++ ys) ≡ failed_in xs ++ failed_in ys
failed-append [] ys = refl
failed-append (Judged i b ∷ xs) ys = failed-append xs ys
failed-append (Started i ∷ xs) ys = failed-append xs ys
failed-append (Ended i true ∷ xs) ys = failed-append xs ys
failed-append (Ended i false ∷ xs) ys = ap (λ (l : List ℕ). i ∷ l) (failed-append xs ys)

pub settled-append : (xs ys : List Step) → settled_in (xs ++ ys) ≡ settled_in xs ++ settled_in ys
settled-append [] ys = refl
settled-append (Judged i true ∷ xs) ys = settled-append xs ys
settled-append (Judged i false ∷ xs) ys = ap (λ (l : List ℕ). i ∷ l) (settled-append xs ys)
settled-append (Started i ∷ xs) ys = settled-append xs ys
settled-append (Ended i true ∷ xs) ys = ap (λ (l : List ℕ). i ∷ l) (settled-append xs ys)
settled-append (Ended i false ∷ xs) ys = settled-append xs ys

-- ---- numbers of one list among those of another

abbrev pub Appends : (List Step → List ℕ) → Type 0
Appends f = (xs ys : List Step) → f (xs ++ ys) ≡ f xs ++ f ys

module _ (f : List Step → List ℕ) (append : Appends f) where
  pub in_either : (xs ys : List Step) (i : ℕ) → has_number (f (xs ++ ys)) i ≡ true → (has_number (f xs) i ≡ true) ⊎ (has_number (f ys) i ≡ true)
  in_either xs ys i h = has_number-cases (f xs) (f ys) i (subst (λ (l : List ℕ). has_number l i ≡ true) (append xs ys) h)

  pub in_left : (xs ys : List Step) (i : ℕ) → has_number (f xs) i ≡ true → has_number (f (xs ++ ys)) i ≡ true
  in_left xs ys i h = subst (λ (l : List ℕ). has_number l i ≡ true) (sym (append xs ys)) (has_number-left (f xs) (f ys) i h)

  pub in_right : (xs ys : List Step) (i : ℕ) → has_number (f ys) i ≡ true → has_number (f (xs ++ ys)) i ≡ true
  in_right xs ys i h = subst (λ (l : List ℕ). has_number l i ≡ true) (sym (append xs ys)) (has_number-right (f xs) (f ys) i h)

  pub in_push : (steps : List Step) (step : Step) (i : ℕ) → has_number (f (steps ++ step ∷ [])) i ≡ (has_number (f steps) i || has_number (f (step ∷ [])) i)
  in_push steps step i = ap (λ (l : List ℕ). has_number l i) (append steps (step ∷ [])) ∙ has_number-append (f steps) (f (step ∷ [])) i

-- ---- the settled are those judged clean and those that ended well

pub settled_done : (steps : List Step) (i : ℕ) → has_number (settled_in steps) i ≡ true → has_number (done_in steps) i ≡ true
settled_done steps i h = elim (either steps i h) [
  | inl clean ↦ has_number-left (clean_in steps) (well_in steps) i clean
  | inr well ↦ has_number-right (clean_in steps) (well_in steps) i well
]
  where
    first : (j : ℕ) (xs ys zs : List ℕ) → (has_number xs i ≡ true → (has_number ys i ≡ true) ⊎ (has_number zs i ≡ true)) → has_number (j ∷ xs) i ≡ true → (has_number (j ∷ ys) i ≡ true) ⊎ (has_number zs i ≡ true)
    first j xs ys zs rest h = elim (has_number-cases (j ∷ []) xs i h) [
      | inl here ↦ inl (has_number-left (j ∷ []) ys i here)
      | inr there ↦ elim (rest there) [
        | inl left ↦ inl (has_number-right (j ∷ []) ys i left)
        | inr right ↦ inr right
      ]
    ]

    second : (j : ℕ) (xs ys zs : List ℕ) → (has_number xs i ≡ true → (has_number ys i ≡ true) ⊎ (has_number zs i ≡ true)) → has_number (j ∷ xs) i ≡ true → (has_number ys i ≡ true) ⊎ (has_number (j ∷ zs) i ≡ true)
    second j xs ys zs rest h = elim (has_number-cases (j ∷ []) xs i h) [
      | inl here ↦ inr (has_number-left (j ∷ []) zs i here)
      | inr there ↦ elim (rest there) [
        | inl left ↦ inl left
        | inr right ↦ inr (has_number-right (j ∷ []) zs i right)
      ]
    ]

    either : (steps : List Step) (k : ℕ) → has_number (settled_in steps) i ≡ true → (has_number (clean_in steps) i ≡ true) ⊎ (has_number (well_in steps) i ≡ true)
    either [] k h = absurd (false≢true h)
    either (Judged j true ∷ steps) k h = either steps k h
    either (Judged j false ∷ steps) k h = first j (settled_in steps) (clean_in steps) (well_in steps) (λ h. either steps k h) h
    either (Started j ∷ steps) k h = either steps k h
    either (Ended j true ∷ steps) k h = second j (settled_in steps) (clean_in steps) (well_in steps) (λ h. either steps k h) h
    either (Ended j false ∷ steps) k h = either steps k h

clean_settled : (steps : List Step) (i : ℕ) → has_number (clean_in steps) i ≡ true → has_number (settled_in steps) i ≡ true
clean_settled [] i h = absurd (false≢true h)
clean_settled (Judged j true ∷ steps) i h = clean_settled steps i h
clean_settled (Judged j false ∷ steps) i h = elim (has_number-cases (j ∷ []) (clean_in steps) i h) [
  | inl here ↦ has_number-left (j ∷ []) (settled_in steps) i here
  | inr there ↦ has_number-right (j ∷ []) (settled_in steps) i (clean_settled steps i there)
]
clean_settled (Started j ∷ steps) i h = clean_settled steps i h
clean_settled (Ended j true ∷ steps) i h = has_number-right (j ∷ []) (settled_in steps) i (clean_settled steps i h)
clean_settled (Ended j false ∷ steps) i h = clean_settled steps i h

well_settled : (steps : List Step) (i : ℕ) → has_number (well_in steps) i ≡ true → has_number (settled_in steps) i ≡ true
well_settled [] i h = absurd (false≢true h)
well_settled (Judged j true ∷ steps) i h = well_settled steps i h
well_settled (Judged j false ∷ steps) i h = has_number-right (j ∷ []) (settled_in steps) i (well_settled steps i h)
well_settled (Started j ∷ steps) i h = well_settled steps i h
well_settled (Ended j true ∷ steps) i h = elim (has_number-cases (j ∷ []) (well_in steps) i h) [
  | inl here ↦ has_number-left (j ∷ []) (settled_in steps) i here
  | inr there ↦ has_number-right (j ∷ []) (settled_in steps) i (well_settled steps i there)
]
well_settled (Ended j false ∷ steps) i h = well_settled steps i h

pub done_settled : (steps : List Step) (i : ℕ) → has_number (done_in steps) i ≡ true → has_number (settled_in steps) i ≡ true
done_settled steps i h = elim (has_number-cases (clean_in steps) (well_in steps) i h) [
  | inl clean ↦ clean_settled steps i clean
  | inr well ↦ well_settled steps i well
]

-- ---- running commands

pub running_is : (steps : List Step) (i : ℕ) → has_number (running_in steps) i ≡ (has_number (started_in steps) i && not (has_number (ended_in steps) i))
running_is steps i = has_number-filter (λ j. not (has_number (ended_in steps) j)) (started_in steps) i

pub running_parts : (steps : List Step) (i : ℕ) → has_number (running_in steps) i ≡ true → (has_number (started_in steps) i ≡ true) × (has_number (ended_in steps) i ≡ false)
running_parts steps i h =
    let both = and_parts (has_number (started_in steps) i) (not (has_number (ended_in steps) i)) (sym (running_is steps i) ∙ h) in
    (both.0, not-true (has_number (ended_in steps) i) both.1)

-- ---- lawful schedules grow

pub lawful_push_from : (task : Task) (before steps : List Step) (step : Step) → IsLawfulFrom task before steps → IsLawfulStep task (before ++ steps) step → IsLawfulFrom task before (steps ++ step ∷ [])
lawful_push_from task before [] step lawful next = (subst (λ (l : List Step). IsLawfulStep task l step) (append-nil before) next, tt)
lawful_push_from task before (s ∷ steps) step lawful next =
    (lawful.0, lawful_push_from task (before ++ s ∷ []) steps step lawful.1 (subst (λ (l : List Step). IsLawfulStep task l step) (sym (append_assoc before (s ∷ []) steps)) next))

pub lawful_parts : (task : Task) (before xs ys : List Step) → IsLawfulFrom task before (xs ++ ys) → IsLawfulFrom task before xs × IsLawfulFrom task (before ++ xs) ys
lawful_parts task before [] ys lawful = (tt, subst (λ (l : List Step). IsLawfulFrom task l ys) (sym (append-nil before)) lawful)
lawful_parts task before (s ∷ xs) ys lawful =
    let rest = lawful_parts task (before ++ s ∷ []) xs ys lawful.1 in
    ((lawful.0, rest.0), subst (λ (l : List Step). IsLawfulFrom task l ys) (append_assoc before (s ∷ []) xs) rest.1)
