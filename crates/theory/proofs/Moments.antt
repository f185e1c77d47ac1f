-- What the history gains in a run.
use Rattle.std.proofs.Common.{◌≡◌, inl, inr, ℕ, zero, suc, ◌<◌, length, ◌==◌, ◌||◌, cond, Bool, true, false, List, [], ◌∷◌, ◌++◌, Option, refl, sym, ◌∙◌, ap, subst, append_assoc}
use Rattle.std.specs.List.{AllByRecursion}
use Rattle.std.proofs.lemmas.List.{append-nil}
use native.Mathlib.Omega.{arith}
use Rattle.std.proofs.lemmas.Bool.{false≢true, cond-false, or_parts, or_cases, or_left, or_right}
use Rattle.model.specs.declared.graph.Edge.{Edge}
use Rattle.model.specs.declared.event.Event.{Event}
use Rattle.model.specs.declared.event.Event.TheVariants.{Start, Finish}
use Rattle.model.specs.declared.event.Moment.{Moment}
use Rattle.model.specs.declared.event.Moment.TheVariants.{Wrote, Happened}
use Rattle.model.specs.declared.event.Writer.TheVariants.{Program, Command, Someone}
use Rattle.model.specs.World.{runs, IsRunning, IsIdle, events_in}
use Rattle.model.specs.Calls.{AllByOthers}
use Rattle.model.specs.Graph.{has_number}
use Rattle.model.specs.Records.{OwnFiles}
use Rattle.model.specs.Schedule.{Step, Judged, Started, Ended, started_in, out_of_date_in, AreEventsOf}
use Rattle.model.specs.SingleBuild.{IsOfBuild, IsOwnWrite}
use Rattle.theory.specs.Run.{starts_in, steps_until, AreOfRun, IsToldBy, IsByOthersThan}
use Rattle.theory.proofs.Lists.{has_number-left}
use Rattle.theory.proofs.Events.{runs_since, runs_push, starts-append}

pub events_in-append : (xs ys : List Moment) → events_in (xs ++ ys) ≡ events_in xs ++ events_in ys
events_in-append [] ys = refl
events_in-append (Wrote by path content stamp ∷ xs) ys = events_in-append xs ys
events_in-append (Happened event ∷ xs) ys = ap (λ (l : List Event). event ∷ l) (events_in-append xs ys)

-- ---- the steps up to a start or finish

pub until_within : (steps : List Step) (n i : ℕ) → has_number (out_of_date_in (steps_until steps n)) i ≡ true → has_number (out_of_date_in steps) i ≡ true
until_within [] n i h = h
until_within (Judged j true ∷ steps) n i h = elim (or_cases (j == i) (has_number (out_of_date_in (steps_until steps n)) i) h) [
  | inl here ↦ or_left (j == i) (has_number (out_of_date_in steps) i) here
  | inr later ↦ or_right (j == i) (has_number (out_of_date_in steps) i) (until_within steps n i later)
]
until_within (Judged j false ∷ steps) n i h = until_within steps n i h
until_within (Started j ∷ steps) zero i h = absurd (false≢true h)
until_within (Started j ∷ steps) (suc n) i h = until_within steps n i h
until_within (Ended j w ∷ steps) zero i h = absurd (false≢true h)
until_within (Ended j w ∷ steps) (suc n) i h = until_within steps n i h

pub until_more : (xs ys : List Step) (n i : ℕ) → has_number (out_of_date_in (steps_until xs n)) i ≡ true → has_number (out_of_date_in (steps_until (xs ++ ys) n)) i ≡ true
until_more [] ys n i h = absurd (false≢true h)
until_more (Judged j true ∷ xs) ys n i h = elim (or_cases (j == i) (has_number (out_of_date_in (steps_until xs n)) i) h) [
  | inl here ↦ or_left (j == i) (has_number (out_of_date_in (steps_until (xs ++ ys) n)) i) here
  | inr later ↦ or_right (j == i) (has_number (out_of_date_in (steps_until (xs ++ ys) n)) i) (until_more xs ys n i later)
]
until_more (Judged j false ∷ xs) ys n i h = until_more xs ys n i h
until_more (Started j ∷ xs) ys zero i h = absurd (false≢true h)
until_more (Started j ∷ xs) ys (suc n) i h = until_more xs ys n i h
until_more (Ended j w ∷ xs) ys zero i h = absurd (false≢true h)
until_more (Ended j w ∷ xs) ys (suc n) i h = until_more xs ys n i h

-- all steps are before a start or finish that is still to come
pub until_all : (edges : List Edge) (steps : List Step) (es more : List Event) → AreEventsOf edges steps es → steps_until steps (length (es ++ more)) ≡ steps
until_all edges [] es more a = refl
until_all edges (Judged i b ∷ steps) es more a = ap (λ (l : List Step). Judged i b ∷ l) (until_all edges steps es more a)
until_all edges (Started i ∷ steps) [] more a = absurd a
until_all edges (Started i ∷ steps) (Start job act stamp ∷ es) more a = ap (λ (l : List Step). Started i ∷ l) (until_all edges steps es more a.2)
until_all edges (Started i ∷ steps) (Finish job ok ∷ es) more a = absurd a
until_all edges (Ended i w ∷ steps) [] more a = absurd a
until_all edges (Ended i w ∷ steps) (Start job act stamp ∷ es) more a = absurd a
until_all edges (Ended i w ∷ steps) (Finish job ok ∷ es) more a = ap (λ (l : List Step). Ended i w ∷ l) (until_all edges steps es more a.2)

-- while not all events of the first steps have come, the steps up to then are of the first
pub until_first : (edges : List Edge) (xs ys : List Step) (es : List Event) (n : ℕ) → AreEventsOf edges xs es → n < length es → steps_until (xs ++ ys) n ≡ steps_until xs n
until_first edges [] ys [] n a less = absurd (not_below_zero n less)
  where
    not_below_zero : (n : ℕ) → n < 0 → ⊥
    not_below_zero n less = omega arith
until_first edges [] ys (e ∷ es) n a less = absurd a
until_first edges (Judged i b ∷ xs) ys es n a less = ap (λ (l : List Step). Judged i b ∷ l) (until_first edges xs ys es n a less)
until_first edges (Started i ∷ xs) ys es zero a less = refl
until_first edges (Started i ∷ xs) ys [] (suc n) a less = absurd a
until_first edges (Started i ∷ xs) ys (Start job act stamp ∷ es) (suc n) a less = ap (λ (l : List Step). Started i ∷ l) (until_first edges xs ys es n a.2 (below n (length es) less))
  where
    below : (n m : ℕ) → suc n < suc m → n < m
    below n m less = omega arith
until_first edges (Started i ∷ xs) ys (Finish job ok ∷ es) (suc n) a less = absurd a
until_first edges (Ended i w ∷ xs) ys es zero a less = refl
until_first edges (Ended i w ∷ xs) ys [] (suc n) a less = absurd a
until_first edges (Ended i w ∷ xs) ys (Start job act stamp ∷ es) (suc n) a less = absurd a
until_first edges (Ended i w ∷ xs) ys (Finish job ok ∷ es) (suc n) a less = ap (λ (l : List Step). Ended i w ∷ l) (until_first edges xs ys es n a.2 (below n (length es) less))
  where
    below : (n m : ℕ) → suc n < suc m → n < m
    below n m less = omega arith

module _ (own : OwnFiles) (edges : List Edge) where
  -- ---- moments behind moments

  pub of_run_append : (steps : List Step) (before events : List Event) (xs ys : List Moment) → AreOfRun own edges steps before events xs → AreOfRun own edges steps before (events ++ events_in xs) ys
      → AreOfRun own edges steps before events (xs ++ ys)
  of_run_append steps before events [] ys a b = subst (λ (l : List Event). AreOfRun own edges steps before l ys) (append-nil events) b
  of_run_append steps before events (Wrote Program path content stamp ∷ xs) ys a b = (a.0, of_run_append steps before events xs ys a.1 b)
  of_run_append steps before events (Wrote (Command job) path content stamp ∷ xs) ys a b = (a.0, of_run_append steps before events xs ys a.1 b)
  of_run_append steps before events (Wrote Someone path content stamp ∷ xs) ys a b = of_run_append steps before events xs ys a b
  of_run_append steps before events (Happened event ∷ xs) ys a b =
      of_run_append steps before (events ++ event ∷ []) xs ys a (subst (λ (l : List Event). AreOfRun own edges steps before l ys) (sym (append_assoc events (event ∷ []) (events_in xs))) b)

  pub of_run_parts : (steps : List Step) (before events : List Event) (xs ys : List Moment) → AreOfRun own edges steps before events (xs ++ ys)
      → AreOfRun own edges steps before events xs × AreOfRun own edges steps before (events ++ events_in xs) ys
  of_run_parts steps before events [] ys a = (tt, subst (λ (l : List Event). AreOfRun own edges steps before l ys) (sym (append-nil events)) a)
  of_run_parts steps before events (Wrote Program path content stamp ∷ xs) ys a = let rest = of_run_parts steps before events xs ys a.1 in ((a.0, rest.0), rest.1)
  of_run_parts steps before events (Wrote (Command job) path content stamp ∷ xs) ys a = let rest = of_run_parts steps before events xs ys a.1 in ((a.0, rest.0), rest.1)
  of_run_parts steps before events (Wrote Someone path content stamp ∷ xs) ys a = of_run_parts steps before events xs ys a
  of_run_parts steps before events (Happened event ∷ xs) ys a =
      let rest = of_run_parts steps before (events ++ event ∷ []) xs ys a in
      (rest.0, subst (λ (l : List Event). AreOfRun own edges steps before l ys) (append_assoc events (event ∷ []) (events_in xs)) rest.1)

  -- ---- more steps

  pub write_more : (few many : List Step) → ((i : ℕ) → has_number (out_of_date_in few) i ≡ true → has_number (out_of_date_in many) i ≡ true)
      → (path : List ℕ) (content : Option (List ℕ)) → IsOwnWrite own edges few path content → IsOwnWrite own edges many path content
  write_more few many more path content (inl is_own) = inl is_own
  write_more few many more path content (inr (inl (i, out, is, gone))) = inr (inl (i, more i out, is, gone))
  write_more few many more path content (inr (inr (i, out, is))) = inr (inr (i, more i out, is))

  -- the steps so far hold what the program wrote by then
  write_so_far : (steps : List Step) (n : ℕ) (path : List ℕ) (content : Option (List ℕ)) → IsOwnWrite own edges (steps_until steps n) path content → IsOwnWrite own edges steps path content
  write_so_far steps n path content write = write_more (steps_until steps n) steps (λ i h. until_within steps n i h) path content write

  pub of_run_more : (few many : List Step) → ((n i : ℕ) → has_number (out_of_date_in (steps_until few n)) i ≡ true → has_number (out_of_date_in (steps_until many n)) i ≡ true)
      → (before events : List Event) (ms : List Moment) → AreOfRun own edges few before events ms → AreOfRun own edges many before events ms
  of_run_more few many more before events [] a = tt
  of_run_more few many more before events (Wrote Program path content stamp ∷ ms) a =
      (write_more (steps_until few (length events)) (steps_until many (length events)) (λ i h. more (length events) i h) path content a.0, of_run_more few many more before events ms a.1)
  of_run_more few many more before events (Wrote (Command job) path content stamp ∷ ms) a = (a.0, of_run_more few many more before events ms a.1)
  of_run_more few many more before events (Wrote Someone path content stamp ∷ ms) a = of_run_more few many more before events ms a
  of_run_more few many more before events (Happened event ∷ ms) a = of_run_more few many more before (events ++ event ∷ []) ms a

  -- ---- what others write during a call

  pub no_events : (running : ℕ → Type 0) (ms : List Moment) → AllByOthers running ms → events_in ms ≡ []
  no_events running [] a = refl
  no_events running (Wrote Program path content stamp ∷ ms) a = absurd a.0
  no_events running (Wrote (Command job) path content stamp ∷ ms) a = no_events running ms a.1
  no_events running (Wrote Someone path content stamp ∷ ms) a = no_events running ms a.1
  no_events running (Happened event ∷ ms) a = absurd a.0

  pub others_of_run : (steps : List Step) (before events : List Event) (ms : List Moment) → AllByOthers (IsRunning (before ++ events)) ms → AreOfRun own edges steps before events ms
  others_of_run steps before events [] a = tt
  others_of_run steps before events (Wrote Program path content stamp ∷ ms) a = absurd a.0
  others_of_run steps before events (Wrote (Command job) path content stamp ∷ ms) a = (a.0, others_of_run steps before events ms a.1)
  others_of_run steps before events (Wrote Someone path content stamp ∷ ms) a = others_of_run steps before events ms a.1
  others_of_run steps before events (Happened event ∷ ms) a = absurd a.0

  -- ---- the history grows

  -- it grows on by moments of the run, whose events come next
  pub told_on : (steps : List Step) (before events next : List Event) (old now new ms : List Moment) → IsToldBy own edges steps before events old now
      → new ≡ now ++ ms → events_in ms ≡ next → AreOfRun own edges steps before events ms → IsToldBy own edges steps before (events ++ next) old new
  told_on steps before events next old now new ms told grows happened of_run =
      record {
        more = told.more ++ ms;
        grows = grows ∙ (ap (λ (l : List Moment). l ++ ms) told.grows ∙ append_assoc old told.more ms);
        happened = events_in-append told.more ms ∙ (ap (λ (l : List Event). l ++ events_in ms) told.happened ∙ ap (λ (l : List Event). events ++ l) happened);
        all = of_run_append steps before [] told.more ms told.all (subst (λ (l : List Event). AreOfRun own edges steps before l ms) (sym told.happened) of_run);
      }

  pub told_more : (few many : List Step) → ((n i : ℕ) → has_number (out_of_date_in (steps_until few n)) i ≡ true → has_number (out_of_date_in (steps_until many n)) i ≡ true)
      → (before events : List Event) (old now : List Moment) → IsToldBy own edges few before events old now → IsToldBy own edges many before events old now
  told_more few many more before events old now told =
      record { more = told.more; grows = told.grows; happened = told.happened; all = of_run_more few many more before [] told.more told.all }

  pub told_nothing : (steps : List Step) (before : List Event) (old : List Moment) → IsToldBy own edges steps before [] old old
  told_nothing steps before old = record { more = []; grows = sym (append-nil old); happened = refl; all = tt }

  -- ---- what may be said of each moment alone

  -- from a site that was idle, only commands that were started write
  pub of_build : (steps : List Step) (old so_far : List Event) (ms : List Moment) → IsIdle old → AreOfRun own edges steps old so_far ms
      → ((j : ℕ) → has_number (starts_in (so_far ++ events_in ms)) j ≡ true → has_number (started_in steps) j ≡ true) → AllByRecursion (IsOfBuild own edges steps) ms
  of_build steps old so_far [] idle a started = tt
  of_build steps old so_far (Wrote Program path content stamp ∷ ms) idle a started = (write_so_far steps (length so_far) path content a.0, of_build steps old so_far ms idle a.1 started)
  of_build steps old so_far (Wrote (Command job) path content stamp ∷ ms) idle a started = (
    started job (subst (λ (l : List ℕ). has_number l job ≡ true) (sym (starts-append so_far (events_in ms))) (has_number-left (starts_in so_far) (starts_in (events_in ms)) job (runs_since job old so_far idle a.0))),
    of_build steps old so_far ms idle a.1 started,
  )
  of_build steps old so_far (Wrote Someone path content stamp ∷ ms) idle a started = (tt, of_build steps old so_far ms idle a started)
  of_build steps old so_far (Happened event ∷ ms) idle a started = (
    tt,
    of_build steps old (so_far ++ event ∷ []) ms idle a
        (λ j h. started j (subst (λ (l : List Event). has_number (starts_in l) j ≡ true) (append_assoc so_far (event ∷ []) (events_in ms)) h)),
  )

  not_this : (i job : ℕ) (events : List Event) → runs i events ≡ false → runs job events ≡ true → job ≡ i → ⊥
  not_this i job events idle runs_job same = false≢true (sym idle ∙ (sym (ap (λ (n : ℕ). runs n events) same) ∙ runs_job))

  still_idle : (i : ℕ) (events : List Event) (event : Event) → runs i events ≡ false → has_number (starts_in (event ∷ [])) i ≡ false → runs i (events ++ event ∷ []) ≡ false
  still_idle i events (Start job act stamp) idle none =
      runs_push i events (Start job act stamp) ∙ (cond-false (job == i) true (runs i events) (or_parts (job == i) false none).0 ∙ idle)
  still_idle i events (Finish job ok) idle none = runs_push i events (Finish job ok) ∙ by_test (job == i) (runs i events) idle
    where
      by_test : (t b : Bool) → b ≡ false → cond t false b ≡ false
      by_test true b is = refl
      by_test false b is = is

  starts_first : (i : ℕ) (event : Event) (events : List Event) → has_number (starts_in (event ∷ events)) i ≡ false → (has_number (starts_in (event ∷ [])) i ≡ false) × (has_number (starts_in events) i ≡ false)
  starts_first i (Start job act stamp) events none =
      let both = or_parts (job == i) (has_number (starts_in events) i) none in
      (ap (λ (b : Bool). b || false) both.0, both.1)
  starts_first i (Finish job ok) events none = (refl, none)

  -- a command that does not run, and is not started, writes nothing
  pub quiet : (steps : List Step) (i : ℕ) (before events : List Event) (ms : List Moment) → runs i (before ++ events) ≡ false → has_number (starts_in (events_in ms)) i ≡ false → AreOfRun own edges steps before events ms
      → AllByRecursion (IsOfBuild own edges steps) ms → AllByRecursion (IsByOthersThan own edges steps i) ms
  quiet steps i before events [] idle none a b = tt
  quiet steps i before events (Wrote Program path content stamp ∷ ms) idle none a b = (b.0, quiet steps i before events ms idle none a.1 b.1)
  quiet steps i before events (Wrote (Command job) path content stamp ∷ ms) idle none a b = ((not_this i job (before ++ events) idle a.0, b.0), quiet steps i before events ms idle none a.1 b.1)
  quiet steps i before events (Wrote Someone path content stamp ∷ ms) idle none a b = (tt, quiet steps i before events ms idle none a b.1)
  quiet steps i before events (Happened event ∷ ms) idle none a b =
      let both = starts_first i event (events_in ms) none in
      (tt, quiet steps i before (events ++ event ∷ []) ms (ap (λ (l : List Event). runs i l) (sym (append_assoc before events (event ∷ []))) ∙ still_idle i (before ++ events) event idle both.0) both.1 a b.1)

-- ---- the moment of an event

pub record IsMomentOf (before : List Event) (event : Event) (after : List Event) (ms : List Moment) : Type 0 where
  pub earlier : List Moment
  pub later : List Moment
  pub splits : ms ≡ earlier ++ Happened event ∷ later
  pub events_before : events_in earlier ≡ before
  pub events_after : events_in later ≡ after

moment_behind : (m : Moment) (before : List Event) (event : Event) (after : List Event) (ms : List Moment) → events_in (m ∷ []) ≡ [] → IsMomentOf before event after ms → IsMomentOf before event after (m ∷ ms)
moment_behind m before event after ms none moment =
    record {
      earlier = m ∷ moment.earlier;
      later = moment.later;
      splits = ap (λ (l : List Moment). m ∷ l) moment.splits;
      events_before = events_in-append (m ∷ []) moment.earlier ∙ (ap (λ (l : List Event). l ++ events_in moment.earlier) none ∙ moment.events_before);
      events_after = moment.events_after;
    }

moment_first : (e event : Event) (after : List Event) (ms : List Moment) → e ≡ event → events_in ms ≡ after → IsMomentOf [] event after (Happened e ∷ ms)
moment_first e event after ms same is = record { earlier = []; later = ms; splits = ap (λ (x : Event). Happened x ∷ ms) same; events_before = refl; events_after = is }

moment_next : (e d : Event) (before : List Event) (event : Event) (after : List Event) (ms : List Moment) → e ≡ d → IsMomentOf before event after ms → IsMomentOf (d ∷ before) event after (Happened e ∷ ms)
moment_next e d before event after ms same rest = record {
  earlier = Happened e ∷ rest.earlier;
  later = rest.later;
  splits = ap (λ (l : List Moment). Happened e ∷ l) rest.splits;
  events_before = ap (λ (x : Event). x ∷ events_in rest.earlier) same ∙ ap (λ (l : List Event). d ∷ l) rest.events_before;
  events_after = rest.events_after;
}

pub moment_of : (before : List Event) (event : Event) (after : List Event) (ms : List Moment) → events_in ms ≡ before ++ event ∷ after → IsMomentOf before event after ms
moment_of [] event after [] is = cc
moment_of (e ∷ before) event after [] is = cc
moment_of before event after (Wrote by path content stamp ∷ ms) is = moment_behind (Wrote by path content stamp) before event after ms refl (moment_of before event after ms is)
moment_of [] event after (Happened e ∷ ms) is =
    let head : e ≡ event = cc in
    let tail : events_in ms ≡ after = cc in
    moment_first e event after ms head tail
moment_of (d ∷ before) event after (Happened e ∷ ms) is =
    let head : e ≡ d = cc in
    let tail : events_in ms ≡ before ++ event ∷ after = cc in
    moment_next e d before event after ms head (moment_of before event after ms tail)
