-- The events of a schedule, and which commands run.
use Rattle.std.proofs.Common.{◌≡◌, ◌⊎◌, inl, inr, ℕ, suc, ◌+◌, length, ◌==◌, ◌||◌, cond, Bool, true, false, List, [], ◌∷◌, ◌++◌, refl, sym, ◌∙◌, ap, subst, append_assoc, length-append}
use Rattle.std.proofs.lemmas.List.{append-nil}
use native.Mathlib.Omega.{arith}
use Rattle.std.proofs.lemmas.Bool.{false≢true, cases_Bool, eqb-true, or_left, or_right, cond-true, cond-false, false_from_ne_true}
use Rattle.model.specs.declared.graph.Edge.{Edge}
use Rattle.model.specs.declared.event.Event.{Event}
use Rattle.model.specs.declared.event.Event.TheVariants.{Start, Finish}
use Rattle.model.specs.World.{runs, runs_from, runs_after, IsIdle}
use Rattle.model.specs.Graph.{has_number}
use Rattle.model.specs.Schedule.{Task, Step, Judged, Started, Ended, started_in, ended_in, well_in, running_in, AreEventsOf, AreFinishes}
use Rattle.theory.specs.Run.{starts_in}
use Rattle.theory.specs.Order.{IsOrderlyFrom, IsOrderly}
use Rattle.theory.proofs.Orderly.{IsKept, kept_nothing, kept_push, running_push}

-- ---- which commands run

pub runs_from-append : (j : ℕ) (b : Bool) (xs ys : List Event) → runs_from j b (xs ++ ys) ≡ runs_from j (runs_from j b xs) ys
runs_from-append j b [] ys = refl
runs_from-append j b (x ∷ xs) ys = runs_from-append j (runs_after j b x) xs ys

pub runs_push : (j : ℕ) (es : List Event) (e : Event) → runs j (es ++ e ∷ []) ≡ runs_after j (runs j es) e
runs_push j es e = runs_from-append j false es (e ∷ [])

-- what runs after these events was started in them, or ran before
pub runs_started : (j : ℕ) (b : Bool) (es : List Event) → runs_from j b es ≡ true → (b ≡ true) ⊎ (has_number (starts_in es) j ≡ true)
runs_started j b [] h = inl h
runs_started j b (Start i act stamp ∷ es) h = elim (runs_started j (cond (i == j) true b) es h) [
  | inl now ↦ elim (cases_Bool (i == j)) [
    | inl here ↦ inr (or_left (i == j) (has_number (starts_in es) j) here)
    | inr there ↦ inl (sym (cond-false (i == j) true b there) ∙ now)
  ]
  | inr later ↦ inr (or_right (i == j) (has_number (starts_in es) j) later)
]
runs_started j b (Finish i ok ∷ es) h = elim (runs_started j (cond (i == j) false b) es h) [
  | inl now ↦ elim (cases_Bool (i == j)) [
    | inl here ↦ absurd (false≢true (sym (cond-true (i == j) false b here) ∙ now))
    | inr there ↦ inl (sym (cond-false (i == j) false b there) ∙ now)
  ]
  | inr later ↦ inr later
]

-- what runs on a site that was idle was started since then
pub runs_since : (j : ℕ) (old es : List Event) → IsIdle old → runs j (old ++ es) ≡ true → has_number (starts_in es) j ≡ true
runs_since j old es idle h = elim (runs_started j (runs j old) es (sym (runs_from-append j false old es) ∙ h)) [
  | inl before ↦ absurd (false≢true (sym (idle j) ∙ before))
  | inr since ↦ since
]

-- a job that does not run, and is not started, does not run later
pub runs_never : (j : ℕ) (old es : List Event) → runs j old ≡ false → has_number (starts_in es) j ≡ false → runs j (old ++ es) ≡ false
runs_never j old es idle none = false_from_ne_true (runs j (old ++ es)) (λ h. elim (runs_started j (runs j old) es (sym (runs_from-append j false old es) ∙ h)) [
  | inl before ↦ false≢true (sym idle ∙ before)
  | inr since ↦ false≢true (sym none ∙ since)
])

pub starts-append : (xs ys : List Event) → starts_in (xs ++ ys) ≡ starts_in xs ++ starts_in ys
starts-append [] ys = refl
starts-append (Start i act stamp ∷ xs) ys = ap (λ (l : List ℕ). i ∷ l) (starts-append xs ys)
starts-append (Finish i ok ∷ xs) ys = starts-append xs ys

-- ---- the events of steps

module _ (edges : List Edge) where
  pub events-append : (xs ys : List Step) (es fs : List Event) → AreEventsOf edges xs es → AreEventsOf edges ys fs → AreEventsOf edges (xs ++ ys) (es ++ fs)
  events-append [] ys [] fs a b = b
  events-append [] ys (e ∷ es) fs a b = absurd a
  events-append (Judged i w ∷ xs) ys es fs a b = events-append xs ys es fs a b
  events-append (Started i ∷ xs) ys [] fs a b = absurd a
  events-append (Started i ∷ xs) ys (Start job act stamp ∷ es) fs a b = (a.0, a.1, events-append xs ys es fs a.2 b)
  events-append (Started i ∷ xs) ys (Finish job ok ∷ es) fs a b = absurd a
  events-append (Ended i w ∷ xs) ys [] fs a b = absurd a
  events-append (Ended i w ∷ xs) ys (Start job act stamp ∷ es) fs a b = absurd a
  events-append (Ended i w ∷ xs) ys (Finish job ok ∷ es) fs a b = (a.0, a.1, events-append xs ys es fs a.2 b)

  -- a judgement is no event
  pub events_judged : (steps : List Step) (i : ℕ) (out_of_date : Bool) (es : List Event) → AreEventsOf edges steps es → AreEventsOf edges (steps ++ Judged i out_of_date ∷ []) es
  events_judged steps i out_of_date es a = subst (λ (l : List Event). AreEventsOf edges (steps ++ Judged i out_of_date ∷ []) l) (append-nil es) (events-append steps (Judged i out_of_date ∷ []) es [] a tt)

  pub starts_of_steps : (steps : List Step) (es : List Event) → AreEventsOf edges steps es → starts_in es ≡ started_in steps
  starts_of_steps [] [] a = refl
  starts_of_steps [] (e ∷ es) a = absurd a
  starts_of_steps (Judged i w ∷ xs) es a = starts_of_steps xs es a
  starts_of_steps (Started i ∷ xs) [] a = absurd a
  starts_of_steps (Started i ∷ xs) (Start job act stamp ∷ es) a = ap (λ (n : ℕ). n ∷ starts_in es) a.0 ∙ ap (λ (l : List ℕ). i ∷ l) (starts_of_steps xs es a.2)
  starts_of_steps (Started i ∷ xs) (Finish job ok ∷ es) a = absurd a
  starts_of_steps (Ended i w ∷ xs) [] a = absurd a
  starts_of_steps (Ended i w ∷ xs) (Start job act stamp ∷ es) a = absurd a
  starts_of_steps (Ended i w ∷ xs) (Finish job ok ∷ es) a = starts_of_steps xs es a.2

  -- the events of the first steps, and those behind them
  pub record IsCutBehind (xs ys : List Step) (es : List Event) : Type 0 where
    pub before : List Event
    pub after : List Event
    pub splits : es ≡ before ++ after
    pub first : AreEventsOf edges xs before
    pub second : AreEventsOf edges ys after

  pub cut_behind : (xs ys : List Step) (es : List Event) → AreEventsOf edges (xs ++ ys) es → IsCutBehind xs ys es
  cut_behind [] ys es a = record { before = []; after = es; splits = refl; first = tt; second = a }
  cut_behind (Judged j w ∷ xs) ys es a =
      let cut = cut_behind xs ys es a in
      record { before = cut.before; after = cut.after; splits = cut.splits; first = cut.first; second = cut.second }
  cut_behind (Started j ∷ xs) ys [] a = absurd a
  cut_behind (Started j ∷ xs) ys (Start job act stamp ∷ es) a =
      let cut = cut_behind xs ys es a.2 in
      record { before = Start job act stamp ∷ cut.before; after = cut.after; splits = ap (λ (l : List Event). Start job act stamp ∷ l) cut.splits; first = (a.0, a.1, cut.first); second = cut.second }
  cut_behind (Started j ∷ xs) ys (Finish job ok ∷ es) a = absurd a
  cut_behind (Ended j w ∷ xs) ys [] a = absurd a
  cut_behind (Ended j w ∷ xs) ys (Start job act stamp ∷ es) a = absurd a
  cut_behind (Ended j w ∷ xs) ys (Finish job ok ∷ es) a =
      let cut = cut_behind xs ys es a.2 in
      record { before = Finish job ok ∷ cut.before; after = cut.after; splits = ap (λ (l : List Event). Finish job ok ∷ l) cut.splits; first = (a.0, a.1, cut.first); second = cut.second }

  -- the events before a finish that went well, and those behind it
  pub record IsCutAt (xs : List Step) (i : ℕ) (ys : List Step) (es : List Event) : Type 0 where
    pub before : List Event
    pub after : List Event
    pub splits : es ≡ before ++ Finish i true ∷ after
    pub first : AreEventsOf edges xs before
    pub second : AreEventsOf edges ys after

  pub cut_at_end : (xs : List Step) (i : ℕ) (ys : List Step) (es : List Event) → AreEventsOf edges (xs ++ Ended i true ∷ ys) es → IsCutAt xs i ys es
  cut_at_end xs i ys es a = by_first cut.after cut.splits cut.second
    where
      cut : IsCutBehind xs (Ended i true ∷ ys) es
      cut = cut_behind xs (Ended i true ∷ ys) es a

      by_first : (after : List Event) → es ≡ cut.before ++ after → AreEventsOf edges (Ended i true ∷ ys) after → IsCutAt xs i ys es
      by_first [] splits second = absurd second
      by_first (Start job act stamp ∷ after) splits second = absurd second
      by_first (Finish job ok ∷ after) splits second =
          let well : ok ≡ true = second.1.0 refl in
          record {
            before = cut.before;
            after = after;
            splits = splits ∙ (ap (λ (n : ℕ). cut.before ++ Finish n ok ∷ after) second.0 ∙ ap (λ (b : Bool). cut.before ++ Finish i b ∷ after) well);
            first = cut.first;
            second = second.2;
          }

  -- there are as many events as starts and ends
  pub as_many : (steps : List Step) (es : List Event) → AreEventsOf edges steps es → length es ≡ length (started_in steps ++ ended_in steps)
  as_many steps es a = counted steps es a ∙ sym (length-append (started_in steps) (ended_in steps))
    where
      counted : (steps : List Step) (es : List Event) → AreEventsOf edges steps es → length es ≡ length (started_in steps) + length (ended_in steps)
      counted [] [] a = refl
      counted [] (e ∷ es) a = absurd a
      counted (Judged i w ∷ xs) es a = counted xs es a
      counted (Started i ∷ xs) [] a = absurd a
      counted (Started i ∷ xs) (Start job act stamp ∷ es) a = one_first (length es) (length (started_in xs)) (length (ended_in xs)) (counted xs es a.2)
        where
          one_first : (k n m : ℕ) → k ≡ n + m → suc k ≡ suc n + m
          one_first k n m is = omega arith
      counted (Started i ∷ xs) (Finish job ok ∷ es) a = absurd a
      counted (Ended i w ∷ xs) [] a = absurd a
      counted (Ended i w ∷ xs) (Start job act stamp ∷ es) a = absurd a
      counted (Ended i w ∷ xs) (Finish job ok ∷ es) a = one_later (length es) (length (started_in xs)) (length (ended_in xs)) (counted xs es a.2)
        where
          one_later : (k n m : ℕ) → k ≡ n + m → suc k ≡ n + suc m
          one_later k n m is = omega arith

-- ---- an edge that ended well did so by some step

pub record HasStep (steps : List Step) (step : Step) : Type 0 where
  pub before : List Step
  pub after : List Step
  pub splits : steps ≡ before ++ step ∷ after

pub step_behind : (s : Step) (steps : List Step) (step : Step) → HasStep steps step → HasStep (s ∷ steps) step
step_behind s steps step has = record { before = s ∷ has.before; after = has.after; splits = ap (λ (l : List Step). s ∷ l) has.splits }

pub well_step : (steps : List Step) (i : ℕ) → has_number (well_in steps) i ≡ true → HasStep steps (Ended i true)
well_step [] i h = absurd (false≢true h)
well_step (Judged j w ∷ steps) i h = step_behind (Judged j w) steps (Ended i true) (well_step steps i h)
well_step (Started j ∷ steps) i h = step_behind (Started j) steps (Ended i true) (well_step steps i h)
well_step (Ended j true ∷ steps) i h = elim (cases_Bool (j == i)) [
  | inl same ↦ record { before = []; after = steps; splits = ap (λ (n : ℕ). Ended n true ∷ steps) (eqb-true j i same) }
  | inr other ↦ step_behind (Ended j true) steps (Ended i true) (well_step steps i (sym (ap (λ (b : Bool). b || has_number (well_in steps) i) other) ∙ h))
]
well_step (Ended j false ∷ steps) i h = step_behind (Ended j false) steps (Ended i true) (well_step steps i h)

-- ---- running commands of steps and of events

module _ (task : Task) where
  runs_steps_from : (before steps : List Step) (es : List Event) → IsKept task.graph.edges before → IsOrderlyFrom task.graph.edges before steps → AreEventsOf task.graph.edges steps es → (j : ℕ) (b : Bool)
      → b ≡ has_number (running_in before) j → runs_from j b es ≡ has_number (running_in (before ++ steps)) j
  runs_steps_from before [] [] kept lawful a j b is = is ∙ ap (λ (l : List Step). has_number (running_in l) j) (sym (append-nil before))
  runs_steps_from before [] (e ∷ es) kept lawful a j b is = absurd a
  runs_steps_from before (Judged i w ∷ steps) es kept lawful a j b is =
      runs_steps_from (before ++ Judged i w ∷ []) steps es (kept_push task.graph.edges before (Judged i w) kept lawful.0) lawful.1 a j b (is ∙ sym (running_push task.graph.edges before (Judged i w) j kept lawful.0))
      ∙ ap (λ (l : List Step). has_number (running_in l) j) (append_assoc before (Judged i w ∷ []) steps)
  runs_steps_from before (Started i ∷ steps) [] kept lawful a j b is = absurd a
  runs_steps_from before (Started i ∷ steps) (Start job act stamp ∷ es) kept lawful a j b is =
      runs_steps_from (before ++ Started i ∷ []) steps es (kept_push task.graph.edges before (Started i) kept lawful.0) lawful.1 a.2 j (cond (job == j) true b)
      (ap (λ (n : ℕ). cond (n == j) true b) a.0 ∙ (ap (λ (c : Bool). cond (i == j) true c) is ∙ sym (running_push task.graph.edges before (Started i) j kept lawful.0)))
      ∙ ap (λ (l : List Step). has_number (running_in l) j) (append_assoc before (Started i ∷ []) steps)
  runs_steps_from before (Started i ∷ steps) (Finish job ok ∷ es) kept lawful a j b is = absurd a
  runs_steps_from before (Ended i w ∷ steps) [] kept lawful a j b is = absurd a
  runs_steps_from before (Ended i w ∷ steps) (Start job act stamp ∷ es) kept lawful a j b is = absurd a
  runs_steps_from before (Ended i w ∷ steps) (Finish job ok ∷ es) kept lawful a j b is =
      runs_steps_from (before ++ Ended i w ∷ []) steps es (kept_push task.graph.edges before (Ended i w) kept lawful.0) lawful.1 a.2 j (cond (job == j) false b)
      (ap (λ (n : ℕ). cond (n == j) false b) a.0 ∙ (ap (λ (c : Bool). cond (i == j) false c) is ∙ sym (running_push task.graph.edges before (Ended i w) j kept lawful.0)))
      ∙ ap (λ (l : List Step). has_number (running_in l) j) (append_assoc before (Ended i w ∷ []) steps)

  -- the commands that run by the events of a lawful schedule are those that run by its steps
  pub runs_steps : (steps : List Step) (es : List Event) → IsOrderly task.graph.edges steps → AreEventsOf task.graph.edges steps es → (j : ℕ) → runs j es ≡ has_number (running_in steps) j
  runs_steps steps es lawful a j = runs_steps_from [] steps es (kept_nothing task.graph.edges) lawful a j false refl

  -- so do those of a site that was idle before
  pub runs_now : (steps : List Step) (old es : List Event) → IsIdle old → IsOrderly task.graph.edges steps → AreEventsOf task.graph.edges steps es → (j : ℕ) → runs j (old ++ es) ≡ has_number (running_in steps) j
  runs_now steps old es idle lawful a j =
      runs_from-append j false old es ∙ (ap (λ (b : Bool). runs_from j b es) (idle j) ∙ runs_steps steps es lawful a j)

-- ---- finishes alone

pub no_starts : (before later : List Event) → AreFinishes before later → starts_in later ≡ []
no_starts before [] a = refl
no_starts before (Start job act stamp ∷ later) a = absurd a
no_starts before (Finish job ok ∷ later) a = no_starts (before ++ Finish job ok ∷ []) later a.1

pub finishes_push : (before later : List Event) (job : ℕ) (ok : Bool) → AreFinishes before later → runs job (before ++ later) ≡ true → AreFinishes before (later ++ Finish job ok ∷ [])
finishes_push before [] job ok a ran = (subst (λ (l : List Event). runs job l ≡ true) (append-nil before) ran, tt)
finishes_push before (Start j act stamp ∷ later) job ok a ran = absurd a
finishes_push before (Finish j o ∷ later) job ok a ran =
    (a.0, finishes_push (before ++ Finish j o ∷ []) later job ok a.1 (subst (λ (l : List Event). runs job l ≡ true) (sym (append_assoc before (Finish j o ∷ []) later)) ran))

-- what was started are the starts of the steps
pub starts_of_all : (edges : List Edge) (steps : List Step) (first before later : List Event) → AreEventsOf edges steps first → AreFinishes before later → starts_in (first ++ later) ≡ started_in steps
starts_of_all edges steps first before later of_steps finishes =
    starts-append first later
    ∙ (ap (λ (l : List ℕ). starts_in first ++ l) (no_starts before later finishes) ∙ (append-nil (starts_in first) ∙ starts_of_steps edges steps first of_steps))
