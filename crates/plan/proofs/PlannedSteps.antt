-- What has become of an edge, by what was judged, started and ended.
use Rattle.std.proofs.Common.{◌≡◌, ◌⊎◌, ℕ, ◌==◌, ◌&&◌, ◌||◌, not, cond, Bool, true, false, List, [], ◌∷◌, ◌++◌, refl, sym, ◌∙◌, ap, arith}
use Rattle.std.proofs.lemmas.Bool.{false≢true, false_from_ne_true, eqb-true, or_cases, or_left, or_right}
use Rattle.model.specs.Graph.{has_number, IsCommand}
use Rattle.model.specs.Reading.{IsInCone}
use Rattle.model.specs.Schedule.{Task, Step, Judged, Started, Ended, judged_in, clean_in, out_of_date_in, started_in, ended_in, well_in, failed_in, running_in, done_in, MayBeJudged, MayStart}
use Rattle.theory.proofs.Lists.{has_number-append, has_number-one}
use Rattle.theory.proofs.Makers.{command_within}
use Rattle.theory.proofs.Orderly.{IsKept, kept_orderly}
use Rattle.theory.proofs.Steps.{Appends, in_push, in_right, running_is, running_parts, clean-append, out_of_date-append, started-append, well-append, failed-append}
use Rattle.plan.specs.declared.step.Standing.{Standing}
use Rattle.plan.specs.declared.step.Standing.TheVariants.{Unjudged, Clean, OutOfDate, Running, Well, Failed}
use Rattle.plan.specs.Standing.{is_unjudged, is_out_of_date, is_running, is_failed, is_well}
use Rattle.plan.specs.Planned.{standing_in, AreTaken}
use Rattle.plan.specs.Steps.{edge_of}

-- ---- an edge that ended well, failed, was started, was judged out of date, was judged clean, or not

abbrev pub stands : Bool → Bool → Bool → Bool → Bool → Standing
stands w f s o c = cond w Well (cond f Failed (cond s Running (cond o OutOfDate (cond c Clean Unjudged))))

same_stands : {w v f g s t o p c d : Bool} → w ≡ v → f ≡ g → s ≡ t → o ≡ p → c ≡ d → stands w f s o c ≡ stands v g t p d
same_stands {w} {v} {f} {g} {s} {t} {o} {p} {c} {d} a b i j k =
    ap (λ (x : Bool). stands x f s o c) a
    ∙ (ap (λ (x : Bool). stands v x s o c) b
    ∙ (ap (λ (x : Bool). stands v g x o c) i
    ∙ (ap (λ (x : Bool). stands v g t x c) j
    ∙ ap (λ (x : Bool). stands v g t p x) k)))

unjudged_flags : (w f s o c : Bool) → is_unjudged (stands w f s o c) ≡ true → (c || o) ≡ false
unjudged_flags true f s o c h = absurd (false≢true h)
unjudged_flags false true s o c h = absurd (false≢true h)
unjudged_flags false false true o c h = absurd (false≢true h)
unjudged_flags false false false true c h = absurd (false≢true h)
unjudged_flags false false false false true h = absurd (false≢true h)
unjudged_flags false false false false false h = refl

out_of_date_flags : (w f s o c : Bool) → is_out_of_date (stands w f s o c) ≡ true → (o ≡ true) × (s ≡ false)
out_of_date_flags true f s o c h = absurd (false≢true h)
out_of_date_flags false true s o c h = absurd (false≢true h)
out_of_date_flags false false true o c h = absurd (false≢true h)
out_of_date_flags false false false true c h = (refl, refl)
out_of_date_flags false false false false true h = absurd (false≢true h)
out_of_date_flags false false false false false h = absurd (false≢true h)

running_flags : (w f s o c : Bool) → is_running (stands w f s o c) ≡ (s && not (w || f))
running_flags true f true o c = refl
running_flags true f false o c = refl
running_flags false true true o c = refl
running_flags false true false o c = refl
running_flags false false true o c = refl
running_flags false false false true c = refl
running_flags false false false false true = refl
running_flags false false false false false = refl

failed_flags : (w f s o c : Bool) → (w ≡ true → f ≡ true → ⊥) → is_failed (stands w f s o c) ≡ f
failed_flags true true s o c once = absurd (once refl refl)
failed_flags true false s o c once = refl
failed_flags false true s o c once = refl
failed_flags false false true o c once = refl
failed_flags false false false true c once = refl
failed_flags false false false false true once = refl
failed_flags false false false false false once = refl

well_flags : (w f s o c : Bool) → is_well (stands w f s o c) ≡ w
well_flags true f s o c = refl
well_flags false true s o c = refl
well_flags false false true o c = refl
well_flags false false false true c = refl
well_flags false false false false true = refl
well_flags false false false false false = refl

-- ---- lists of numbers

or_none : (b : Bool) → (b || false) ≡ b
or_none true = refl
or_none false = refl

-- what is not in the larger is not in the smaller
not_within : (a b : Bool) → (a ≡ true → b ≡ true) → b ≡ false → a ≡ false
not_within true b within none = absurd (false≢true (sym none ∙ within refl))
not_within false b within none = refl

judged_is : (steps : List Step) (i : ℕ) → has_number (judged_in steps) i ≡ (has_number (clean_in steps) i || has_number (out_of_date_in steps) i)
judged_is [] i = refl
judged_is (Judged j true ∷ steps) i = ap (λ (b : Bool). (j == i) || b) (judged_is steps i) ∙ swap (j == i) (has_number (clean_in steps) i) (has_number (out_of_date_in steps) i)
  where
    swap : (a b c : Bool) → (a || (b || c)) ≡ (b || (a || c))
    swap true true c = refl
    swap true false c = refl
    swap false b c = refl
judged_is (Judged j false ∷ steps) i = ap (λ (b : Bool). (j == i) || b) (judged_is steps i) ∙ shift (j == i) (has_number (clean_in steps) i) (has_number (out_of_date_in steps) i)
  where
    shift : (a b c : Bool) → (a || (b || c)) ≡ ((a || b) || c)
    shift true b c = refl
    shift false b c = refl
judged_is (Started j ∷ steps) i = judged_is steps i
judged_is (Ended j w ∷ steps) i = judged_is steps i

ended_is : (steps : List Step) (i : ℕ) → has_number (ended_in steps) i ≡ (has_number (well_in steps) i || has_number (failed_in steps) i)
ended_is [] i = refl
ended_is (Judged j b ∷ steps) i = ended_is steps i
ended_is (Started j ∷ steps) i = ended_is steps i
ended_is (Ended j true ∷ steps) i = ap (λ (b : Bool). (j == i) || b) (ended_is steps i) ∙ shift (j == i) (has_number (well_in steps) i) (has_number (failed_in steps) i)
  where
    shift : (a b c : Bool) → (a || (b || c)) ≡ ((a || b) || c)
    shift true b c = refl
    shift false b c = refl
ended_is (Ended j false ∷ steps) i = ap (λ (b : Bool). (j == i) || b) (ended_is steps i) ∙ swap (j == i) (has_number (well_in steps) i) (has_number (failed_in steps) i)
  where
    swap : (a b c : Bool) → (a || (b || c)) ≡ (b || (a || c))
    swap true true c = refl
    swap true false c = refl
    swap false b c = refl

-- ---- what a standing says of the steps, and the steps of it

pub unjudged_fresh : (steps : List Step) (i : ℕ) → is_unjudged (standing_in steps i) ≡ true → has_number (judged_in steps) i ≡ false
unjudged_fresh steps i h =
    judged_is steps i
    ∙ unjudged_flags (has_number (well_in steps) i) (has_number (failed_in steps) i) (has_number (started_in steps) i) (has_number (out_of_date_in steps) i) (has_number (clean_in steps) i) h

pub stale_and_new : (steps : List Step) (i : ℕ) → is_out_of_date (standing_in steps i) ≡ true → (has_number (out_of_date_in steps) i ≡ true) × (has_number (started_in steps) i ≡ false)
stale_and_new steps i h = out_of_date_flags (has_number (well_in steps) i) (has_number (failed_in steps) i) (has_number (started_in steps) i) (has_number (out_of_date_in steps) i) (has_number (clean_in steps) i) h

pub running_stands : (steps : List Step) (i : ℕ) → is_running (standing_in steps i) ≡ has_number (running_in steps) i
running_stands steps i =
    running_flags (has_number (well_in steps) i) (has_number (failed_in steps) i) (has_number (started_in steps) i) (has_number (out_of_date_in steps) i) (has_number (clean_in steps) i)
    ∙ (ap (λ (b : Bool). has_number (started_in steps) i && not b) (sym (ended_is steps i)) ∙ sym (running_is steps i))

pub well_stands : (steps : List Step) (i : ℕ) → is_well (standing_in steps i) ≡ has_number (well_in steps) i
well_stands steps i = well_flags (has_number (well_in steps) i) (has_number (failed_in steps) i) (has_number (started_in steps) i) (has_number (out_of_date_in steps) i) (has_number (clean_in steps) i)

-- ---- in lawful steps

module _ (task : Task) (steps : List Step) (lawful : AreTaken task steps) where
  kept : IsKept task.graph.edges steps
  kept = kept_orderly task.graph.edges steps lawful.orderly

  pub failed_stands : (i : ℕ) → is_failed (standing_in steps i) ≡ has_number (failed_in steps) i
  failed_stands i = failed_flags (has_number (well_in steps) i) (has_number (failed_in steps) i) (has_number (started_in steps) i) (has_number (out_of_date_in steps) i) (has_number (clean_in steps) i) (kept.well_or_failed i)

  pub not_started : (i : ℕ) → has_number (out_of_date_in steps) i ≡ false → has_number (started_in steps) i ≡ false
  not_started i none = not_within (has_number (started_in steps) i) (has_number (out_of_date_in steps) i) (kept.started i) none

  pub not_ended : (i : ℕ) → has_number (started_in steps) i ≡ false → has_number (ended_in steps) i ≡ false
  not_ended i none = not_within (has_number (ended_in steps) i) (has_number (started_in steps) i) (kept.ended i) none

  not_well : (i : ℕ) → has_number (ended_in steps) i ≡ false → has_number (well_in steps) i ≡ false
  not_well i none = not_within (has_number (well_in steps) i) (has_number (ended_in steps) i) (kept.well i) none

  not_failed : (i : ℕ) → has_number (ended_in steps) i ≡ false → has_number (failed_in steps) i ≡ false
  not_failed i none = not_within (has_number (failed_in steps) i) (has_number (ended_in steps) i) (kept.failed i) none

  not_stale : (i : ℕ) → has_number (judged_in steps) i ≡ false → has_number (out_of_date_in steps) i ≡ false
  not_stale i none = not_within (has_number (out_of_date_in steps) i) (has_number (judged_in steps) i) (kept.out_of_date i) none

  not_clean : (i : ℕ) → has_number (judged_in steps) i ≡ false → has_number (clean_in steps) i ≡ false
  not_clean i none = not_within (has_number (clean_in steps) i) (has_number (judged_in steps) i) (kept.clean i) none

  pub fresh_unjudged : (i : ℕ) → has_number (judged_in steps) i ≡ false → standing_in steps i ≡ Unjudged
  fresh_unjudged i none =
      let new = not_started i (not_stale i none) in
      same_stands (not_well i (not_ended i new)) (not_failed i (not_ended i new)) new (not_stale i none) (not_clean i none)

  pub new_out_of_date : (i : ℕ) → has_number (out_of_date_in steps) i ≡ true → has_number (started_in steps) i ≡ false → standing_in steps i ≡ OutOfDate
  new_out_of_date i stale new = same_stands {c = has_number (clean_in steps) i} (not_well i (not_ended i new)) (not_failed i (not_ended i new)) new stale refl

  -- edges are in the cone, and have commands
  pub stale_in_cone : (i : ℕ) → has_number (out_of_date_in steps) i ≡ true → IsInCone task.graph.edges task.recorded task.targets i
  stale_in_cone i h = lawful.within i (kept.out_of_date i h)

  pub started_in_cone : (i : ℕ) → has_number (started_in steps) i ≡ true → IsInCone task.graph.edges task.recorded task.targets i
  started_in_cone i h = stale_in_cone i (kept.started i h)

  pub running_in_cone : (i : ℕ) → has_number (running_in steps) i ≡ true → IsInCone task.graph.edges task.recorded task.targets i
  running_in_cone i h = started_in_cone i (running_parts steps i h).0

  pub failed_in_cone : (i : ℕ) → has_number (failed_in steps) i ≡ true → IsInCone task.graph.edges task.recorded task.targets i
  failed_in_cone i h = started_in_cone i (kept.ended i (kept.failed i h))

  pub well_in_cone : (i : ℕ) → has_number (well_in steps) i ≡ true → IsInCone task.graph.edges task.recorded task.targets i
  well_in_cone i h = started_in_cone i (kept.ended i (kept.well i h))

  pub stale_command : (i : ℕ) → has_number (out_of_date_in steps) i ≡ true → IsCommand task.graph.edges i
  stale_command i h = kept.judged i (kept.out_of_date i h)

  pub started_command : (i : ℕ) → has_number (started_in steps) i ≡ true → IsCommand task.graph.edges i
  started_command i h = stale_command i (kept.started i h)

  pub running_command : (i : ℕ) → has_number (running_in steps) i ≡ true → IsCommand task.graph.edges i
  running_command i h = started_command i (running_parts steps i h).0

  pub failed_command : (i : ℕ) → has_number (failed_in steps) i ≡ true → IsCommand task.graph.edges i
  failed_command i h = started_command i (kept.ended i (kept.failed i h))

  pub well_command : (i : ℕ) → has_number (well_in steps) i ≡ true → IsCommand task.graph.edges i
  well_command i h = started_command i (kept.ended i (kept.well i h))

  pub never_started : has_number (started_in steps) 0 ≡ false
  never_started = false_from_ne_true (has_number (started_in steps) 0) (λ h. omega (arith, (command_within task.graph.edges 0 (kept.judged 0 (kept.out_of_date 0 (kept.started 0 h)))).0))

  pub never_ended : has_number (ended_in steps) 0 ≡ false
  never_ended = not_ended 0 never_started

  pub never_well : has_number (well_in steps) 0 ≡ false
  never_well = not_well 0 never_ended

  pub never_failed : has_number (failed_in steps) 0 ≡ false
  never_failed = not_failed 0 never_ended

  pub never_running : has_number (running_in steps) 0 ≡ false
  never_running = running_is steps 0 ∙ ap (λ (b : Bool). b && not (has_number (ended_in steps) 0)) never_started

  pub never_may_start : MayStart task steps 0 → ⊥
  never_may_start may = omega (arith, (command_within task.graph.edges 0 (kept.judged 0 (kept.out_of_date 0 may.stale))).0)

pub never_judged : (task : Task) (steps : List Step) → MayBeJudged task steps 0 → ⊥
never_judged task steps may = omega (arith, (command_within task.graph.edges 0 may.command).0)

-- ---- one more step

other_one : (i j : ℕ) → (i ≡ j → ⊥) → has_number (i ∷ []) j ≡ false
other_one i j other = ap (λ (b : Bool). b || false) (false_from_ne_true (i == j) (λ h. other (eqb-true i j h)))

other_clean : (step : Step) (j : ℕ) → (edge_of step ≡ j → ⊥) → has_number (clean_in (step ∷ [])) j ≡ false
other_clean (Judged i true) j other = refl
other_clean (Judged i false) j other = other_one i j other
other_clean (Started i) j other = refl
other_clean (Ended i w) j other = refl

other_stale : (step : Step) (j : ℕ) → (edge_of step ≡ j → ⊥) → has_number (out_of_date_in (step ∷ [])) j ≡ false
other_stale (Judged i true) j other = other_one i j other
other_stale (Judged i false) j other = refl
other_stale (Started i) j other = refl
other_stale (Ended i w) j other = refl

other_started : (step : Step) (j : ℕ) → (edge_of step ≡ j → ⊥) → has_number (started_in (step ∷ [])) j ≡ false
other_started (Judged i b) j other = refl
other_started (Started i) j other = other_one i j other
other_started (Ended i w) j other = refl

other_well : (step : Step) (j : ℕ) → (edge_of step ≡ j → ⊥) → has_number (well_in (step ∷ [])) j ≡ false
other_well (Judged i b) j other = refl
other_well (Started i) j other = refl
other_well (Ended i true) j other = other_one i j other
other_well (Ended i false) j other = refl

other_failed : (step : Step) (j : ℕ) → (edge_of step ≡ j → ⊥) → has_number (failed_in (step ∷ [])) j ≡ false
other_failed (Judged i b) j other = refl
other_failed (Started i) j other = refl
other_failed (Ended i true) j other = refl
other_failed (Ended i false) j other = other_one i j other

-- what is done after one more step was done before, or by that step
module _ (steps : List Step) (step : Step) (j : ℕ) where
  done_is : (xs : List Step) → has_number (done_in xs) j ≡ (has_number (clean_in xs) j || has_number (well_in xs) j)
  done_is xs = has_number-append (clean_in xs) (well_in xs) j

  done_push : has_number (done_in (steps ++ step ∷ [])) j ≡ (has_number (done_in steps) j || has_number (done_in (step ∷ [])) j)
  done_push =
      done_is (steps ++ step ∷ [])
      ∙ (ap (λ (b : Bool). b || has_number (well_in (steps ++ step ∷ [])) j) (in_push clean_in clean-append steps step j)
      ∙ (ap (λ (b : Bool). (has_number (clean_in steps) j || has_number (clean_in (step ∷ [])) j) || b) (in_push well_in well-append steps step j)
      ∙ (turn (has_number (clean_in steps) j) (has_number (clean_in (step ∷ [])) j) (has_number (well_in steps) j) (has_number (well_in (step ∷ [])) j)
      ∙ (ap (λ (b : Bool). b || (has_number (clean_in (step ∷ [])) j || has_number (well_in (step ∷ [])) j)) (sym (done_is steps))
      ∙ ap (λ (b : Bool). has_number (done_in steps) j || b) (sym (done_is (step ∷ [])))))))
    where
      turn : (a b c d : Bool) → ((a || b) || (c || d)) ≡ ((a || c) || (b || d))
      turn true b c d = refl
      turn false true true d = refl
      turn false true false d = refl
      turn false false c d = refl

  pub done_cases : has_number (done_in (steps ++ step ∷ [])) j ≡ true → (has_number (done_in steps) j ≡ true) ⊎ (has_number (done_in (step ∷ [])) j ≡ true)
  done_cases h = or_cases (has_number (done_in steps) j) (has_number (done_in (step ∷ [])) j) (sym done_push ∙ h)

  pub done_more : has_number (done_in steps) j ≡ true → has_number (done_in (steps ++ step ∷ [])) j ≡ true
  done_more h = done_push ∙ or_left (has_number (done_in steps) j) (has_number (done_in (step ∷ [])) j) h

  pub done_new : has_number (done_in (step ∷ [])) j ≡ true → has_number (done_in (steps ++ step ∷ [])) j ≡ true
  done_new h = done_push ∙ or_right (has_number (done_in steps) j) (has_number (done_in (step ∷ [])) j) h

module _ (steps : List Step) (step : Step) (j : ℕ) where
  unchanged : (f : List Step → List ℕ) → Appends f → has_number (f (step ∷ [])) j ≡ false → has_number (f (steps ++ step ∷ [])) j ≡ has_number (f steps) j
  unchanged f append none = in_push f append steps step j ∙ (ap (λ (b : Bool). has_number (f steps) j || b) none ∙ or_none (has_number (f steps) j))

  -- a step leaves other edges where they stand
  pub stands_other : (edge_of step ≡ j → ⊥) → standing_in (steps ++ step ∷ []) j ≡ standing_in steps j
  stands_other other = same_stands
      (unchanged well_in well-append (other_well step j other))
      (unchanged failed_in failed-append (other_failed step j other))
      (unchanged started_in started-append (other_started step j other))
      (unchanged out_of_date_in out_of_date-append (other_stale step j other))
      (unchanged clean_in clean-append (other_clean step j other))

module _ (task : Task) (steps : List Step) (lawful : AreTaken task steps) (i : ℕ) where
  more : (step : Step) (f : List Step → List ℕ) → Appends f → has_number (f (step ∷ [])) i ≡ true → has_number (f (steps ++ step ∷ [])) i ≡ true
  more step f append h = in_right f append steps (step ∷ []) i h

  pub stands_stale : has_number (judged_in steps) i ≡ false → standing_in (steps ++ Judged i true ∷ []) i ≡ OutOfDate
  stands_stale fresh =
      let step : Step = Judged i true in
      let new = not_started task steps lawful i (not_stale task steps lawful i fresh) in
      let none = not_ended task steps lawful i new in
      same_stands {c = has_number (clean_in (steps ++ step ∷ [])) i}
      (unchanged steps step i well_in well-append refl ∙ not_well task steps lawful i none)
      (unchanged steps step i failed_in failed-append refl ∙ not_failed task steps lawful i none)
      (unchanged steps step i started_in started-append refl ∙ new)
      (more step out_of_date_in out_of_date-append (has_number-one i))
      refl

  pub stands_clean : has_number (judged_in steps) i ≡ false → standing_in (steps ++ Judged i false ∷ []) i ≡ Clean
  stands_clean fresh =
      let step : Step = Judged i false in
      let new = not_started task steps lawful i (not_stale task steps lawful i fresh) in
      let none = not_ended task steps lawful i new in
      same_stands
      (unchanged steps step i well_in well-append refl ∙ not_well task steps lawful i none)
      (unchanged steps step i failed_in failed-append refl ∙ not_failed task steps lawful i none)
      (unchanged steps step i started_in started-append refl ∙ new)
      (unchanged steps step i out_of_date_in out_of_date-append refl ∙ not_stale task steps lawful i fresh)
      (more step clean_in clean-append (has_number-one i))

  pub stands_started : has_number (started_in steps) i ≡ false → standing_in (steps ++ Started i ∷ []) i ≡ Running
  stands_started new =
      let step : Step = Started i in
      let none = not_ended task steps lawful i new in
      same_stands {o = has_number (out_of_date_in (steps ++ step ∷ [])) i} {c = has_number (clean_in (steps ++ step ∷ [])) i}
      (unchanged steps step i well_in well-append refl ∙ not_well task steps lawful i none)
      (unchanged steps step i failed_in failed-append refl ∙ not_failed task steps lawful i none)
      (more step started_in started-append (has_number-one i))
      refl
      refl

  pub stands_well : standing_in (steps ++ Ended i true ∷ []) i ≡ Well
  stands_well =
      let step : Step = Ended i true in
      same_stands {f = has_number (failed_in (steps ++ step ∷ [])) i} {s = has_number (started_in (steps ++ step ∷ [])) i} {o = has_number (out_of_date_in (steps ++ step ∷ [])) i} {c = has_number (clean_in (steps ++ step ∷ [])) i}
      (more step well_in well-append (has_number-one i))
      refl
      refl
      refl
      refl

  pub stands_failed : has_number (running_in steps) i ≡ true → standing_in (steps ++ Ended i false ∷ []) i ≡ Failed
  stands_failed runs =
      let step : Step = Ended i false in
      same_stands {s = has_number (started_in (steps ++ step ∷ [])) i} {o = has_number (out_of_date_in (steps ++ step ∷ [])) i} {c = has_number (clean_in (steps ++ step ∷ [])) i}
      (unchanged steps step i well_in well-append refl ∙ not_well task steps lawful i (running_parts steps i runs).1)
      (more step failed_in failed-append (has_number-one i))
      refl
      refl
      refl
