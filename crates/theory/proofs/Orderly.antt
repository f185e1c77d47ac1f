-- What orderly steps keep.
use Rattle.std.proofs.Common.{◌≡◌, inl, inr, ℕ, ◌==◌, ◌&&◌, ◌||◌, not, cond, Bool, true, false, List, [], ◌∷◌, ◌++◌, refl, sym, ◌∙◌, ap, subst, append_assoc}
use Rattle.std.proofs.lemmas.List.{append-nil}
use Rattle.std.proofs.lemmas.Bool.{false≢true, true≢false, false_from_ne_true, eqb-true, cases_Bool}
use Rattle.model.specs.declared.graph.Edge.{Edge}
use Rattle.model.specs.Graph.{has_number, IsCommand}
use Rattle.model.specs.Schedule.{Task, Step, Judged, Started, Ended, judged_in, clean_in, out_of_date_in, started_in, ended_in, well_in, failed_in, running_in, IsLawfulStep, IsLawfulFrom}
use Rattle.theory.specs.Order.{settled_in, IsOrderlyStep, IsOrderlyFrom, IsOrderly, IsReadAfter, AreReadFirst, IsReadingOrder}
use Rattle.theory.proofs.Lists.{has_number-cases, has_number-is, has_number-one, has_number-append}
use Rattle.theory.proofs.Steps.{judged-append, clean-append, out_of_date-append, started-append, ended-append, well-append, failed-append, settled-append, Appends, in_either, in_left, in_right, settled_done, done_settled, running_is, running_parts}

-- a lawful step is orderly
pub orderly_step : (task : Task) (before : List Step) (step : Step) → IsLawfulStep task before step → IsOrderlyStep task.graph.edges before step
orderly_step task before (Judged i b) lawful = (lawful.0.command, lawful.0.once)
orderly_step task before (Started i) lawful = (lawful.1.stale, lawful.1.once)
orderly_step task before (Ended i w) lawful = lawful.0

pub orderly_from : (task : Task) (before steps : List Step) → IsLawfulFrom task before steps → IsOrderlyFrom task.graph.edges before steps
orderly_from task before [] lawful = tt
orderly_from task before (step ∷ steps) lawful = (orderly_step task before step lawful.0, orderly_from task (before ++ step ∷ []) steps lawful.1)

-- ---- orderly steps grow

orderly_push_from : (edges : List Edge) (before steps : List Step) (step : Step) → IsOrderlyFrom edges before steps → IsOrderlyStep edges (before ++ steps) step → IsOrderlyFrom edges before (steps ++ step ∷ [])
orderly_push_from edges before [] step lawful next = (subst (λ (l : List Step). IsOrderlyStep edges l step) (append-nil before) next, tt)
orderly_push_from edges before (s ∷ steps) step lawful next =
    (lawful.0, orderly_push_from edges (before ++ s ∷ []) steps step lawful.1 (subst (λ (l : List Step). IsOrderlyStep edges l step) (sym (append_assoc before (s ∷ []) steps)) next))

pub orderly_push : (edges : List Edge) (steps : List Step) (step : Step) → IsOrderly edges steps → IsOrderlyStep edges steps step → IsOrderly edges (steps ++ step ∷ [])
orderly_push edges steps step lawful next = orderly_push_from edges [] steps step lawful next

pub orderly_parts : (edges : List Edge) (before xs ys : List Step) → IsOrderlyFrom edges before (xs ++ ys) → IsOrderlyFrom edges before xs × IsOrderlyFrom edges (before ++ xs) ys
orderly_parts edges before [] ys lawful = (tt, subst (λ (l : List Step). IsOrderlyFrom edges l ys) (sym (append-nil before)) lawful)
orderly_parts edges before (s ∷ xs) ys lawful =
    let rest = orderly_parts edges (before ++ s ∷ []) xs ys lawful.1 in
    ((lawful.0, rest.0), subst (λ (l : List Step). IsOrderlyFrom edges l ys) (append_assoc before (s ∷ []) xs) rest.1)

-- ---- what a lawful schedule keeps

-- each number of the one list is one of the other
abbrev pub Within : (List Step → List ℕ) → (List Step → List ℕ) → List Step → Type 0
Within f g steps = (i : ℕ) → has_number (f steps) i ≡ true → has_number (g steps) i ≡ true

within_push : (f g : List Step → List ℕ) → Appends f → Appends g → (steps : List Step) (step : Step) → Within f g steps
    → ((i : ℕ) → has_number (f (step ∷ [])) i ≡ true → has_number (g (steps ++ step ∷ [])) i ≡ true) → Within f g (steps ++ step ∷ [])
within_push f g fs gs steps step was next i h = elim (in_either f fs steps (step ∷ []) i h) [
  | inl old ↦ in_left g gs steps (step ∷ []) i (was i old)
  | inr new ↦ next i new
]

-- what was judged, started and ended, one within the other
pub record IsKept (edges : List Edge) (steps : List Step) : Type 0 where
  pub judged : (i : ℕ) → has_number (judged_in steps) i ≡ true → IsCommand edges i
  pub clean : Within clean_in judged_in steps
  pub out_of_date : Within out_of_date_in judged_in steps
  pub apart : (i : ℕ) → has_number (clean_in steps) i ≡ true → has_number (out_of_date_in steps) i ≡ true → ⊥
  pub started : Within started_in out_of_date_in steps
  pub ended : Within ended_in started_in steps
  pub well : Within well_in ended_in steps
  pub failed : Within failed_in ended_in steps
  pub well_or_failed : (i : ℕ) → has_number (well_in steps) i ≡ true → has_number (failed_in steps) i ≡ true → ⊥

module _ (edges : List Edge) where
  pub kept_nothing : IsKept edges []
  kept_nothing = record {
    judged = λ i h. absurd (false≢true h);
    clean = λ i h. absurd (false≢true h);
    out_of_date = λ i h. absurd (false≢true h);
    apart = λ i h g. false≢true h;
    started = λ i h. absurd (false≢true h);
    ended = λ i h. absurd (false≢true h);
    well = λ i h. absurd (false≢true h);
    failed = λ i h. absurd (false≢true h);
    well_or_failed = λ i h g. false≢true h;
  }

  judged_push : (steps : List Step) (step : Step) → IsKept edges steps → IsOrderlyStep edges steps step → (i : ℕ) → has_number (judged_in (steps ++ step ∷ [])) i ≡ true → IsCommand edges i
  judged_push steps step kept lawful i h = elim (in_either judged_in judged-append steps (step ∷ []) i h) [
    | inl old ↦ kept.judged i old
    | inr new ↦ last step lawful new
  ]
    where
      last : (s : Step) → IsOrderlyStep edges steps s → has_number (judged_in (s ∷ [])) i ≡ true → IsCommand edges i
      last (Judged j b) lawful h = subst (λ (n : ℕ). IsCommand edges n) (has_number-is j i h) lawful.0
      last (Started j) lawful h = absurd (false≢true h)
      last (Ended j w) lawful h = absurd (false≢true h)

  -- the step's own numbers lie where they should
  last_clean : (steps : List Step) (step : Step) (i : ℕ) → has_number (clean_in (step ∷ [])) i ≡ true → has_number (judged_in (steps ++ step ∷ [])) i ≡ true
  last_clean steps (Judged j true) i h = absurd (false≢true h)
  last_clean steps (Judged j false) i h = in_right judged_in judged-append steps (Judged j false ∷ []) i h
  last_clean steps (Started j) i h = absurd (false≢true h)
  last_clean steps (Ended j w) i h = absurd (false≢true h)

  last_out_of_date : (steps : List Step) (step : Step) (i : ℕ) → has_number (out_of_date_in (step ∷ [])) i ≡ true → has_number (judged_in (steps ++ step ∷ [])) i ≡ true
  last_out_of_date steps (Judged j true) i h = in_right judged_in judged-append steps (Judged j true ∷ []) i h
  last_out_of_date steps (Judged j false) i h = absurd (false≢true h)
  last_out_of_date steps (Started j) i h = absurd (false≢true h)
  last_out_of_date steps (Ended j w) i h = absurd (false≢true h)

  last_started : (steps : List Step) (step : Step) → IsOrderlyStep edges steps step → (i : ℕ) → has_number (started_in (step ∷ [])) i ≡ true → has_number (out_of_date_in (steps ++ step ∷ [])) i ≡ true
  last_started steps (Judged j b) lawful i h = absurd (false≢true h)
  last_started steps (Started j) lawful i h = subst (λ (n : ℕ). has_number (out_of_date_in (steps ++ Started j ∷ [])) n ≡ true) (has_number-is j i h) (in_left out_of_date_in out_of_date-append steps (Started j ∷ []) j lawful.0)
  last_started steps (Ended j w) lawful i h = absurd (false≢true h)

  last_ended : (steps : List Step) (step : Step) → IsOrderlyStep edges steps step → (i : ℕ) → has_number (ended_in (step ∷ [])) i ≡ true → has_number (started_in (steps ++ step ∷ [])) i ≡ true
  last_ended steps (Judged j b) lawful i h = absurd (false≢true h)
  last_ended steps (Started j) lawful i h = absurd (false≢true h)
  last_ended steps (Ended j w) lawful i h = subst (λ (n : ℕ). has_number (started_in (steps ++ Ended j w ∷ [])) n ≡ true) (has_number-is j i h) (in_left started_in started-append steps (Ended j w ∷ []) j (running_parts steps j lawful).0)

  last_well : (steps : List Step) (step : Step) (i : ℕ) → has_number (well_in (step ∷ [])) i ≡ true → has_number (ended_in (steps ++ step ∷ [])) i ≡ true
  last_well steps (Judged j b) i h = absurd (false≢true h)
  last_well steps (Started j) i h = absurd (false≢true h)
  last_well steps (Ended j true) i h = in_right ended_in ended-append steps (Ended j true ∷ []) i h
  last_well steps (Ended j false) i h = absurd (false≢true h)

  last_failed : (steps : List Step) (step : Step) (i : ℕ) → has_number (failed_in (step ∷ [])) i ≡ true → has_number (ended_in (steps ++ step ∷ [])) i ≡ true
  last_failed steps (Judged j b) i h = absurd (false≢true h)
  last_failed steps (Started j) i h = absurd (false≢true h)
  last_failed steps (Ended j true) i h = absurd (false≢true h)
  last_failed steps (Ended j false) i h = in_right ended_in ended-append steps (Ended j false ∷ []) i h

  apart_push : (steps : List Step) (step : Step) → IsKept edges steps → IsOrderlyStep edges steps step → (i : ℕ) → has_number (clean_in (steps ++ step ∷ [])) i ≡ true → has_number (out_of_date_in (steps ++ step ∷ [])) i ≡ true → ⊥
  apart_push steps step kept lawful i h g = elim (in_either clean_in clean-append steps (step ∷ []) i h) [
    | inl clean ↦ elim (in_either out_of_date_in out_of_date-append steps (step ∷ []) i g) [
      | inl out ↦ kept.apart i clean out
      | inr out ↦ out_now step lawful (kept.clean i clean) out
    ]
    | inr clean ↦ elim (in_either out_of_date_in out_of_date-append steps (step ∷ []) i g) [
      | inl out ↦ clean_now step lawful (kept.out_of_date i out) clean
      | inr out ↦ both_now step clean out
    ]
  ]
    where
      out_now : (s : Step) → IsOrderlyStep edges steps s → has_number (judged_in steps) i ≡ true → has_number (out_of_date_in (s ∷ [])) i ≡ true → ⊥
      out_now (Judged j true) lawful was out = false≢true (sym lawful.1 ∙ (ap (λ (n : ℕ). has_number (judged_in steps) n) (has_number-is j i out) ∙ was))
      out_now (Judged j false) lawful was out = false≢true out
      out_now (Started j) lawful was out = false≢true out
      out_now (Ended j w) lawful was out = false≢true out

      clean_now : (s : Step) → IsOrderlyStep edges steps s → has_number (judged_in steps) i ≡ true → has_number (clean_in (s ∷ [])) i ≡ true → ⊥
      clean_now (Judged j true) lawful was clean = false≢true clean
      clean_now (Judged j false) lawful was clean = false≢true (sym lawful.1 ∙ (ap (λ (n : ℕ). has_number (judged_in steps) n) (has_number-is j i clean) ∙ was))
      clean_now (Started j) lawful was clean = false≢true clean
      clean_now (Ended j w) lawful was clean = false≢true clean

      both_now : (s : Step) → has_number (clean_in (s ∷ [])) i ≡ true → has_number (out_of_date_in (s ∷ [])) i ≡ true → ⊥
      both_now (Judged j true) clean out = false≢true clean
      both_now (Judged j false) clean out = false≢true out
      both_now (Started j) clean out = false≢true out
      both_now (Ended j w) clean out = false≢true out

  ends_push : (steps : List Step) (step : Step) → IsKept edges steps → IsOrderlyStep edges steps step → (i : ℕ) → has_number (well_in (steps ++ step ∷ [])) i ≡ true → has_number (failed_in (steps ++ step ∷ [])) i ≡ true → ⊥
  ends_push steps step kept lawful i h g = elim (in_either well_in well-append steps (step ∷ []) i h) [
    | inl well ↦ elim (in_either failed_in failed-append steps (step ∷ []) i g) [
      | inl failed ↦ kept.well_or_failed i well failed
      | inr failed ↦ failed_now step lawful (kept.well i well) failed
    ]
    | inr well ↦ elim (in_either failed_in failed-append steps (step ∷ []) i g) [
      | inl failed ↦ well_now step lawful (kept.failed i failed) well
      | inr failed ↦ both_now step well failed
    ]
  ]
    where
      failed_now : (s : Step) → IsOrderlyStep edges steps s → has_number (ended_in steps) i ≡ true → has_number (failed_in (s ∷ [])) i ≡ true → ⊥
      failed_now (Judged j b) lawful was failed = false≢true failed
      failed_now (Started j) lawful was failed = false≢true failed
      failed_now (Ended j true) lawful was failed = false≢true failed
      failed_now (Ended j false) lawful was failed = false≢true (sym (running_parts steps j lawful).1 ∙ (ap (λ (n : ℕ). has_number (ended_in steps) n) (has_number-is j i failed) ∙ was))

      well_now : (s : Step) → IsOrderlyStep edges steps s → has_number (ended_in steps) i ≡ true → has_number (well_in (s ∷ [])) i ≡ true → ⊥
      well_now (Judged j b) lawful was well = false≢true well
      well_now (Started j) lawful was well = false≢true well
      well_now (Ended j true) lawful was well = false≢true (sym (running_parts steps j lawful).1 ∙ (ap (λ (n : ℕ). has_number (ended_in steps) n) (has_number-is j i well) ∙ was))
      well_now (Ended j false) lawful was well = false≢true well

      both_now : (s : Step) → has_number (well_in (s ∷ [])) i ≡ true → has_number (failed_in (s ∷ [])) i ≡ true → ⊥
      both_now (Judged j b) well failed = false≢true well
      both_now (Started j) well failed = false≢true well
      both_now (Ended j true) well failed = false≢true failed
      both_now (Ended j false) well failed = false≢true well

  pub kept_push : (steps : List Step) (step : Step) → IsKept edges steps → IsOrderlyStep edges steps step → IsKept edges (steps ++ step ∷ [])
  kept_push steps step kept lawful = record {
    judged = judged_push steps step kept lawful;
    clean = within_push clean_in judged_in clean-append judged-append steps step kept.clean (last_clean steps step);
    out_of_date = within_push out_of_date_in judged_in out_of_date-append judged-append steps step kept.out_of_date (last_out_of_date steps step);
    apart = apart_push steps step kept lawful;
    started = within_push started_in out_of_date_in started-append out_of_date-append steps step kept.started (last_started steps step lawful);
    ended = within_push ended_in started_in ended-append started-append steps step kept.ended (last_ended steps step lawful);
    well = within_push well_in ended_in well-append ended-append steps step kept.well (last_well steps step);
    failed = within_push failed_in ended_in failed-append ended-append steps step kept.failed (last_failed steps step);
    well_or_failed = ends_push steps step kept lawful;
  }

  pub kept_from : (before steps : List Step) → IsKept edges before → IsOrderlyFrom edges before steps → IsKept edges (before ++ steps)
  kept_from before [] kept lawful = subst (λ (l : List Step). IsKept edges l) (sym (append-nil before)) kept
  kept_from before (s ∷ steps) kept lawful =
      subst (λ (l : List Step). IsKept edges l) (append_assoc before (s ∷ []) steps) (kept_from (before ++ s ∷ []) steps (kept_push before s kept lawful.0) lawful.1)

  -- a lawful schedule keeps all that
  pub kept_orderly : (steps : List Step) → IsOrderly edges steps → IsKept edges steps
  kept_orderly steps lawful = kept_from [] steps kept_nothing lawful

  -- ---- each edge is started once

  pub started_before : (before steps : List Step) (i : ℕ) → IsOrderlyFrom edges before steps → has_number (started_in before) i ≡ true → has_number (started_in steps) i ≡ false
  started_before before [] i lawful was = refl
  started_before before (Judged j b ∷ steps) i lawful was = started_before (before ++ Judged j b ∷ []) steps i lawful.1 (in_left started_in started-append before (Judged j b ∷ []) i was)
  started_before before (Started j ∷ steps) i lawful was =
      let other : (j == i) ≡ false = false_from_ne_true (j == i) (λ same. false≢true (sym lawful.0.1 ∙ (ap (λ (n : ℕ). has_number (started_in before) n) (eqb-true j i same) ∙ was))) in
      ap (λ (b : Bool). b || has_number (started_in steps) i) other ∙ started_before (before ++ Started j ∷ []) steps i lawful.1 (in_left started_in started-append before (Started j ∷ []) i was)
  started_before before (Ended j w ∷ steps) i lawful was = started_before (before ++ Ended j w ∷ []) steps i lawful.1 (in_left started_in started-append before (Ended j w ∷ []) i was)

  -- an edge that was started is not started again
  pub started_once : (xs ys : List Step) (i : ℕ) → IsOrderly edges (xs ++ ys) → has_number (started_in xs) i ≡ true → has_number (started_in ys) i ≡ false
  started_once xs ys i lawful was = started_before xs ys i (orderly_parts edges [] xs ys lawful).1 was

  pub started_once_more : (xs ys : List Step) (i : ℕ) → IsOrderly edges (xs ++ Started i ∷ ys) → has_number (started_in ys) i ≡ false
  started_once_more xs ys i lawful =
      started_before (xs ++ Started i ∷ []) ys i (orderly_parts edges [] xs (Started i ∷ ys) lawful).1.1
      (in_right started_in started-append xs (Started i ∷ []) i (has_number-one i))

  -- ---- running commands, step by step

  abbrev pub running_after : ℕ → Bool → Step → Bool
  running_after j runs (Judged i b) = runs
  running_after j runs (Started i) = cond (i == j) true runs
  running_after j runs (Ended i w) = cond (i == j) false runs

  pub running_push : (steps : List Step) (step : Step) (j : ℕ) → IsKept edges steps → IsOrderlyStep edges steps step → has_number (running_in (steps ++ step ∷ [])) j ≡ running_after j (has_number (running_in steps) j) step
  running_push steps step j kept lawful = running_is (steps ++ step ∷ []) j ∙ (shape ∙ by_step step lawful)
    where
      shape : (has_number (started_in (steps ++ step ∷ [])) j && not (has_number (ended_in (steps ++ step ∷ [])) j))
          ≡ ((has_number (started_in steps) j || has_number (started_in (step ∷ [])) j) && not (has_number (ended_in steps) j || has_number (ended_in (step ∷ [])) j))
      shape =
          ap (λ (l : List ℕ). has_number l j && not (has_number (ended_in (steps ++ step ∷ [])) j)) (started-append steps (step ∷ []))
          ∙ (ap (λ (l : List ℕ). has_number (started_in steps ++ started_in (step ∷ [])) j && not (has_number l j)) (ended-append steps (step ∷ []))
          ∙ (ap (λ (b : Bool). b && not (has_number (ended_in steps ++ ended_in (step ∷ [])) j)) (has_number-append (started_in steps) (started_in (step ∷ [])) j)
          ∙ ap (λ (b : Bool). (has_number (started_in steps) j || has_number (started_in (step ∷ [])) j) && not b) (has_number-append (ended_in steps) (ended_in (step ∷ [])) j)))

      plain : (s e : Bool) → ((s || false) && not (e || false)) ≡ (s && not e)
      plain true true = refl
      plain true false = refl
      plain false true = refl
      plain false false = refl

      start_here : (s e t : Bool) → e ≡ false → t ≡ true → ((s || (t || false)) && not (e || false)) ≡ cond t true (s && not e)
      start_here true true t none same = absurd (true≢false none)
      start_here true false true none same = refl
      start_here true false false none same = refl
      start_here false true t none same = absurd (true≢false none)
      start_here false false true none same = refl
      start_here false false false none same = refl

      start_there : (s e t : Bool) → t ≡ false → ((s || (t || false)) && not (e || false)) ≡ cond t true (s && not e)
      start_there true true true other = absurd (true≢false other)
      start_there true true false other = refl
      start_there true false true other = refl
      start_there true false false other = refl
      start_there false true true other = absurd (true≢false other)
      start_there false true false other = refl
      start_there false false true other = refl
      start_there false false false other = refl

      end_step : (s e t : Bool) → ((s || false) && not (e || (t || false))) ≡ cond t false (s && not e)
      end_step true true true = refl
      end_step true true false = refl
      end_step true false true = refl
      end_step true false false = refl
      end_step false true true = refl
      end_step false true false = refl
      end_step false false true = refl
      end_step false false false = refl

      not_ended : (i : ℕ) → has_number (started_in steps) i ≡ false → has_number (ended_in steps) i ≡ false
      not_ended i fresh = false_from_ne_true (has_number (ended_in steps) i) (λ h. false≢true (sym fresh ∙ kept.ended i h))

      by_step : (s : Step) → IsOrderlyStep edges steps s
          → ((has_number (started_in steps) j || has_number (started_in (s ∷ [])) j) && not (has_number (ended_in steps) j || has_number (ended_in (s ∷ [])) j)) ≡ running_after j (has_number (running_in steps) j) s
      by_step (Judged i b) lawful = plain (has_number (started_in steps) j) (has_number (ended_in steps) j) ∙ sym (running_is steps j)
      by_step (Started i) lawful = elim (cases_Bool (i == j)) [
        | inl same ↦
            start_here (has_number (started_in steps) j) (has_number (ended_in steps) j) (i == j) (subst (λ (n : ℕ). has_number (ended_in steps) n ≡ false) (eqb-true i j same) (not_ended i lawful.1)) same
            ∙ ap (λ (b : Bool). cond (i == j) true b) (sym (running_is steps j))
        | inr other ↦
            start_there (has_number (started_in steps) j) (has_number (ended_in steps) j) (i == j) other
            ∙ ap (λ (b : Bool). cond (i == j) true b) (sym (running_is steps j))
      ]
      by_step (Ended i w) lawful =
          end_step (has_number (started_in steps) j) (has_number (ended_in steps) j) (i == j) ∙ ap (λ (b : Bool). cond (i == j) false b) (sym (running_is steps j))

  -- what runs, and what was not judged, is not settled
  pub not_settled_yet : (steps : List Step) (i : ℕ) → IsKept edges steps → has_number (running_in steps) i ≡ true → has_number (settled_in steps) i ≡ false
  not_settled_yet steps i kept runs = false_from_ne_true (has_number (settled_in steps) i) (λ h. elim (has_number-cases (clean_in steps) (well_in steps) i (settled_done steps i h)) [
    | inl clean ↦ kept.apart i clean (kept.started i (running_parts steps i runs).0)
    | inr well ↦ false≢true (sym (running_parts steps i runs).1 ∙ kept.well i well)
  ])

  pub not_judged_yet : (steps : List Step) (i : ℕ) → IsKept edges steps → has_number (judged_in steps) i ≡ false → has_number (settled_in steps) i ≡ false
  not_judged_yet steps i kept fresh = false_from_ne_true (has_number (settled_in steps) i) (λ h. elim (has_number-cases (clean_in steps) (well_in steps) i (settled_done steps i h)) [
    | inl clean ↦ false≢true (sym fresh ∙ kept.clean i clean)
    | inr well ↦ false≢true (sym fresh ∙ kept.out_of_date i (kept.started i (kept.ended i (kept.well i well))))
  ])

-- ---- the order of settling

module _ (edges : List Edge) (Reads : ℕ → List ℕ → Type 0) where
  abbrev AreReadBy : List Step → Type 0
  AreReadBy steps = (i : ℕ) → has_number (judged_in steps) i ≡ true → IsReadAfter edges Reads (settled_in steps) i

  read_push : (before : List Step) (step : Step) (steps : List Step) → AreReadFirst edges Reads (before ++ step ∷ steps) → AreReadBy before → AreReadBy (before ++ step ∷ [])
  read_push before step steps first was i h p j reads made command = elim (in_either judged_in judged-append before (step ∷ []) i h) [
    | inl old ↦ more (was i old p j reads made command)
    | inr new ↦ more (last step refl new)
  ]
    where
      more : has_number (settled_in before) j ≡ true → has_number (settled_in (before ++ step ∷ [])) j ≡ true
      more h = in_left settled_in settled-append before (step ∷ []) j h

      last : (s : Step) → step ≡ s → has_number (judged_in (s ∷ [])) i ≡ true → has_number (settled_in before) j ≡ true
      last (Judged k b) is h = done_settled before j (first before steps i b
          (ap (λ (s : Step). before ++ s ∷ steps) (is ∙ ap (λ (n : ℕ). Judged n b) (has_number-is k i h))) p j reads made command)
      last (Started k) is h = absurd (false≢true h)
      last (Ended k w) is h = absurd (false≢true h)

  order_from : (before steps : List Step) → IsKept edges before → IsOrderlyFrom edges before steps → AreReadFirst edges Reads (before ++ steps) → AreReadBy before
      → IsReadingOrder edges Reads (settled_in before) (settled_in steps)
  order_from before [] kept orderly first was = tt
  order_from before (Judged i true ∷ steps) kept orderly first was =
      subst (λ (l : List ℕ). IsReadingOrder edges Reads l (settled_in steps)) (settled-append before (Judged i true ∷ []) ∙ append-nil (settled_in before))
      (order_from (before ++ Judged i true ∷ []) steps (kept_push edges before (Judged i true) kept orderly.0) orderly.1
      (subst (λ (l : List Step). AreReadFirst edges Reads l) (sym (append_assoc before (Judged i true ∷ []) steps)) first) (read_push before (Judged i true) steps first was))
  order_from before (Judged i false ∷ steps) kept orderly first was = (
    record {
      command = orderly.0.0;
      fresh = not_judged_yet edges before i kept orderly.0.1;
      reads = λ p j reads made command. done_settled before j (first before steps i false refl p j reads made command);
    },
    subst (λ (l : List ℕ). IsReadingOrder edges Reads l (settled_in steps)) (settled-append before (Judged i false ∷ []))
        (order_from (before ++ Judged i false ∷ []) steps (kept_push edges before (Judged i false) kept orderly.0) orderly.1
        (subst (λ (l : List Step). AreReadFirst edges Reads l) (sym (append_assoc before (Judged i false ∷ []) steps)) first) (read_push before (Judged i false) steps first was)),
  )
  order_from before (Started i ∷ steps) kept orderly first was =
      subst (λ (l : List ℕ). IsReadingOrder edges Reads l (settled_in steps)) (settled-append before (Started i ∷ []) ∙ append-nil (settled_in before))
      (order_from (before ++ Started i ∷ []) steps (kept_push edges before (Started i) kept orderly.0) orderly.1
      (subst (λ (l : List Step). AreReadFirst edges Reads l) (sym (append_assoc before (Started i ∷ []) steps)) first) (read_push before (Started i) steps first was))
  order_from before (Ended i true ∷ steps) kept orderly first was =
      let judged = kept.out_of_date i (kept.started i (running_parts before i orderly.0).0) in (
        record { command = kept.judged i judged; fresh = not_settled_yet edges before i kept orderly.0; reads = was i judged },
        subst (λ (l : List ℕ). IsReadingOrder edges Reads l (settled_in steps)) (settled-append before (Ended i true ∷ []))
            (order_from (before ++ Ended i true ∷ []) steps (kept_push edges before (Ended i true) kept orderly.0) orderly.1
            (subst (λ (l : List Step). AreReadFirst edges Reads l) (sym (append_assoc before (Ended i true ∷ []) steps)) first) (read_push before (Ended i true) steps first was)),
      )
  order_from before (Ended i false ∷ steps) kept orderly first was =
      subst (λ (l : List ℕ). IsReadingOrder edges Reads l (settled_in steps)) (settled-append before (Ended i false ∷ []) ∙ append-nil (settled_in before))
      (order_from (before ++ Ended i false ∷ []) steps (kept_push edges before (Ended i false) kept orderly.0) orderly.1
      (subst (λ (l : List Step). AreReadFirst edges Reads l) (sym (append_assoc before (Ended i false ∷ []) steps)) first) (read_push before (Ended i false) steps first was))

  -- edges are settled in an order in which what an edge reads comes first
  pub reading_order : (steps : List Step) → IsOrderly edges steps → AreReadFirst edges Reads steps → IsReadingOrder edges Reads [] (settled_in steps)
  reading_order steps orderly first = order_from [] steps (kept_nothing edges) orderly first (λ i h. absurd (false≢true h))
