-- Which jobs are listed as running.
use Rattle.std.proofs.Common.{◌≡◌, ℕ, ◌+◌, ◌≤◌, ◌<◌, ◌==◌, Bool, true, false, List, [], ◌∷◌, ◌++◌, length, take, drop, refl, sym, ◌∙◌, ap, cond, arith, length-append}
use Rattle.std.specs.Prelude.{slice_index_or, slice_set}
use Rattle.std.specs.List.{sum_by, swap_remove}
use Rattle.std.proofs.Math.Seq.{map-set_same}
use Rattle.std.proofs.lemmas.Bool.{eqb-true, eq-eqb}
use Rattle.std.proofs.lemmas.List.{drop-append-le, length-map, map-append, take-append-le}
use Rattle.std.proofs.lemmas.List.Sums.{sum_by-cons, sum_by-swap_remove}
use Rattle.model.specs.declared.act.Act.{Act}
use Rattle.model.specs.declared.event.Event.{Event}
use Rattle.model.specs.declared.event.Event.TheVariants.{Start, Finish}
use Rattle.model.specs.World.{runs, runs_from, runs_after}
use Rattle.host.specs.Inside.{times}
use Rattle.host.specs.Process.{jobs_of}
use Rattle.host.specs.declared.commands.Running.{Running}

-- ---- the last event decides whether a job runs

runs_push : (job : ℕ) (ran : Bool) (events : List Event) (event : Event) → runs_from job ran (events ++ event ∷ []) ≡ runs_after job (runs_from job ran events) event
runs_push job ran [] event = refl
runs_push job ran (e ∷ events) event = runs_push job (runs_after job ran e) events event

-- ---- how often a job is listed

abbrev count : Bool → ℕ
count b = cond b 1 0

times_append : (job : ℕ) (jobs more : List ℕ) → times job (jobs ++ more) ≡ times job jobs + times job more
times_append job [] more = omega arith
times_append job (other ∷ jobs) more = let rest = times_append job jobs more in omega (arith, rest)

times_by : (job : ℕ) (commands : List Running) → times job (jobs_of commands) ≡ sum_by (λ command. count (command.job == job)) commands
times_by job [] = refl
times_by job (command ∷ commands) = let rest = times_by job commands in let whole = sum_by-cons (λ (c : Running). count (c.job == job)) command commands in omega (arith, rest, whole)

-- a command was taken out, of some that are of the same jobs as those before
pub taken : (job other place : ℕ) (command : Running) (before commands left : List Running) → place < length commands → command ≡ slice_index_or commands place command → left ≡ swap_remove commands place command
    → jobs_of commands ≡ jobs_of before → job ≡ command.job → times other (jobs_of left) + count (job == other) ≡ times other (jobs_of before)
taken job other place command before commands left within is leaves same own =
    let whole = times_by other commands in
    let rest = times_by other (swap_remove commands place command) in
    let sums = sum_by-swap_remove (λ (c : Running). count (c.job == other)) commands place command within in
    let here = ap (λ (c : Running). count (c.job == other)) is in
    let named = ap (λ (j : ℕ). count (j == other)) own in
    let left_over = ap (λ (cs : List Running). times other (jobs_of cs)) leaves in
    let as_before = ap (times other) same in
    omega (arith, whole, rest, sums, here, named, left_over, as_before)

-- a command was added
pub added : (job : ℕ) (command : Running) (commands new : List Running) → new ≡ commands ++ command ∷ [] → command.job ≡ job → jobs_of new ≡ jobs_of commands ++ job ∷ []
added job command commands new is own = ap jobs_of is ∙ map-append (λ (c : Running). c.job) commands (command ∷ []) ∙ ap (λ (j : ℕ). jobs_of commands ++ j ∷ []) own

-- one command was asked, and is of the same job still
pub asked : (place : ℕ) (command was : Running) (commands : List Running) → command.job ≡ was.job → was ≡ slice_index_or commands place was → jobs_of (slice_set commands place command) ≡ jobs_of commands
asked place command was commands same is = map-set_same (λ (c : Running). c.job) commands place command was (same ∙ ap (λ (c : Running). c.job) is)

-- as many commands as before
pub as_many : (before commands : List Running) → jobs_of commands ≡ jobs_of before → length commands ≡ length before
as_many before commands same =
    let here = length-map commands (λ (c : Running). c.job) in
    let there = length-map before (λ (c : Running). c.job) in
    let long = ap length same in
    omega (arith, here, there, long)

-- ---- one start, one end

pub listed_start : (job stamp : ℕ) (act : Act) (jobs after : List ℕ) (events new : List Event) → after ≡ jobs ++ job ∷ [] → new ≡ events ++ Start job act stamp ∷ [] → runs job events ≡ false
    → ((other : ℕ) → times other jobs ≡ count (runs other events)) → (other : ℕ) → times other after ≡ count (runs other new)
listed_start job stamp act jobs after events new is grows idle listed other =
    ap (times other) is ∙ times_append other jobs (job ∷ []) ∙ by_test (job == other) refl ∙ sym (ap count (ap (runs other) grows ∙ runs_push other false events (Start job act stamp)))
  where
    by_test : (b : Bool) → (job == other) ≡ b → times other jobs + (cond b 1 0 + 0) ≡ cond (cond b true (runs other events)) 1 0
    by_test true e =
        let none : times other jobs ≡ 0 = listed other ∙ ap count (ap (λ (j : ℕ). runs j events) (sym (eqb-true job other e)) ∙ idle) in
        omega (arith, none)
    by_test false e = let same = listed other in omega (arith, same)

pub listed_finish : (job : ℕ) (ok : Bool) (jobs after : List ℕ) (events new : List Event) → ((other : ℕ) → times other after + count (job == other) ≡ times other jobs) → new ≡ events ++ Finish job ok ∷ []
    → ((other : ℕ) → times other jobs ≡ count (runs other events)) → (other : ℕ) → times other after ≡ count (runs other new)
listed_finish job ok jobs after events new gone grows listed other =
    by_tests (job == other) (runs other events) (gone other) (listed other) ∙ sym (ap count (ap (runs other) grows ∙ runs_push other false events (Finish job ok)))
  where
    by_tests : (b ran : Bool) → times other after + count b ≡ times other jobs → times other jobs ≡ count ran → times other after ≡ count (cond b false ran)
    by_tests true true less was = omega (arith, less, was)
    by_tests true false less was = omega (arith, less, was)
    by_tests false ran less was = omega (arith, less, was)

-- a job whose command is taken out runs
pub listed_runs : (job : ℕ) (jobs after : List ℕ) (events : List Event) → times job after + count (job == job) ≡ times job jobs → times job jobs ≡ count (runs job events) → runs job events ≡ true
listed_runs job jobs after events gone listed =
    by_test (runs job events) listed
  where
    by_test : (ran : Bool) → times job jobs ≡ count ran → ran ≡ true
    by_test true was = refl
    by_test false was = let here = ap count (eq-eqb job job refl) in let never : ⊥ = omega (arith, gone, here, was) in absurd never

-- ---- events since the last restart

pub since_push : (before : ℕ) (events new : List Event) (event : Event) → before ≤ length events → new ≡ events ++ event ∷ [] → drop before new ≡ drop before events ++ event ∷ []
since_push before events new event within is = ap (drop before) is ∙ drop-append-le before events (event ∷ []) within

pub before_push : (before : ℕ) (events new : List Event) (event : Event) → before ≤ length events → new ≡ events ++ event ∷ [] → take before new ≡ take before events
before_push before events new event within is = ap (take before) is ∙ take-append-le before events (event ∷ []) within

pub longer_by : (before : ℕ) (events new : List Event) (event : Event) → before ≤ length events → new ≡ events ++ event ∷ [] → before ≤ length new
longer_by before events new event within is = let more = ap length is ∙ length-append events (event ∷ []) in omega (arith, within, more)

pub one_more : {X : Type 0} (items new : List X) (item : X) → new ≡ items ++ item ∷ [] → length new ≡ length items + 1
one_more items new item is = ap length is ∙ length-append items (item ∷ [])
