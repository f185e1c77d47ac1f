-- How many commands run.
use Rattle.std.proofs.Common.{◌≡◌, ℕ, suc, ◌+◌, ◌-◌, ◌<◌, ◌≤◌, ◌==◌, ◌&&◌, ◌||◌, not, cond, filter, Bool, true, false, List, [], ◌∷◌, ◌++◌, length, refl, sym, ◌∙◌, ap, arith}
use Rattle.std.proofs.lemmas.Bool.{false≢true, true≢false, eq-eqb, eqb-true, or_left}
use Rattle.model.specs.declared.event.Event.{Event}
use Rattle.model.specs.declared.event.Event.TheVariants.{Finish}
use Rattle.model.specs.World.{World, runs, IsIdle}
use Rattle.model.specs.Calls.{Finishes}
use Rattle.model.specs.Graph.{has_number}
use Rattle.model.specs.Records.{OwnFiles}
use Rattle.model.specs.declared.graph.Edge.{Edge}
use Rattle.model.specs.Schedule.{Task, Step as Done, Judged, Started, Ended, started_in, ended_in, running_in}
use Rattle.theory.specs.Order.{IsOrderlyFrom}
use Rattle.theory.specs.Run.{IsRun}
use Rattle.theory.proofs.Lists.{has_number-filter, has_number-one}
use Rattle.theory.proofs.Events.{runs_push}
use Rattle.theory.proofs.Orderly.{started_before}
use Rattle.theory.proofs.Steps.{in_right, started-append}
use Rattle.theory.proofs.Runs.{running_now}
use Rattle.graph.specs.Held.{times}
use Rattle.work.specs.Cutting.{SoManyRun}

-- ---- numbers that stand once

none_next : (b later : Bool) (count : ℕ) → (b || later) ≡ false → (later ≡ false → count ≡ 0) → cond b (suc count) count ≡ 0
none_next true later count none rest = absurd (true≢false none)
none_next false later count none rest = rest none

times_none : (xs : List ℕ) (n : ℕ) → has_number xs n ≡ false → times xs n ≡ 0
times_none [] n none = refl
times_none (x ∷ xs) n none = none_next (x == n) (has_number xs n) (times xs n) none (λ h. times_none xs n h)

some_next : (b later : Bool) (count : ℕ) → (b || later) ≡ true → (later ≡ true → 0 < count) → 0 < cond b (suc count) count
some_next true later count some rest = omega arith
some_next false later count some rest = rest some

times_some : (xs : List ℕ) (n : ℕ) → has_number xs n ≡ true → 0 < times xs n
times_some [] n some = absurd (false≢true some)
times_some (x ∷ xs) n some = some_next (x == n) (has_number xs n) (times xs n) some (λ h. times_some xs n h)

-- a list of which some are left out
filter_next : (keeps : Bool) (x : ℕ) (kept all : List ℕ) (n : ℕ) → times kept n ≤ times all n → times (cond keeps (x ∷ kept) kept) n ≤ times (x ∷ all) n
filter_next true x kept all n rest = by_test (x == n)
  where
    by_test : (b : Bool) → cond b (suc (times kept n)) (times kept n) ≤ cond b (suc (times all n)) (times all n)
    by_test true = omega (arith, rest)
    by_test false = rest
filter_next false x kept all n rest = by_test (x == n)
  where
    by_test : (b : Bool) → times kept n ≤ cond b (suc (times all n)) (times all n)
    by_test true = omega (arith, rest)
    by_test false = rest

times_filter : (test : ℕ → Bool) (xs : List ℕ) (n : ℕ) → times (filter test xs) n ≤ times xs n
times_filter test [] n = omega arith
times_filter test (x ∷ xs) n = filter_next (test x) x (filter test xs) xs n (times_filter test xs n)

abbrev other_than : ℕ → ℕ → Bool
other_than n k = not (k == n)

others_next : (b : Bool) (x : ℕ) (kept : List ℕ) (total count : ℕ) → total ≡ length kept + count → suc total ≡ length (cond (not b) (x ∷ kept) kept) + cond b (suc count) count
others_next true x kept total count rest = omega (arith, rest)
others_next false x kept total count rest = omega (arith, rest)

-- each number is left or was that one
times_others : (xs : List ℕ) (n : ℕ) → length xs ≡ length (filter (other_than n) xs) + times xs n
times_others [] n = refl
times_others (x ∷ xs) n = others_next (x == n) x (filter (other_than n) xs) (length xs) (times xs n) (times_others xs n)

-- ---- what runs by the steps stands there once

apart_next : (b : Bool) (count : ℕ) → count ≤ 1 → (b ≡ true → count ≡ 0) → cond b (suc count) count ≤ 1
apart_next true count rest none = let z = none refl in omega (arith, z)
apart_next false count rest none = rest

started_apart : (edges : List Edge) (before steps : List Done) → IsOrderlyFrom edges before steps → (n : ℕ) → times (started_in steps) n ≤ 1
started_apart edges before [] orderly n = omega arith
started_apart edges before (Judged i b ∷ steps) orderly n = started_apart edges (before ++ Judged i b ∷ []) steps orderly.1 n
started_apart edges before (Ended i w ∷ steps) orderly n = started_apart edges (before ++ Ended i w ∷ []) steps orderly.1 n
started_apart edges before (Started i ∷ steps) orderly n =
    apart_next (i == n) (times (started_in steps) n) (started_apart edges (before ++ Started i ∷ []) steps orderly.1 n)
    (λ is. times_none (started_in steps) n
    (ap (λ (k : ℕ). has_number (started_in steps) k) (sym (eqb-true i n is))
    ∙ started_before edges (before ++ Started i ∷ []) steps i orderly.1 (in_right started_in started-append before (Started i ∷ []) i (has_number-one i))))

-- so many commands run as by the steps
pub many_by_steps : (tells : Bool) (own : OwnFiles) (task : Task) (steps : List Done) (entry now : World) (count : ℕ) → IsIdle entry.events → IsRun tells own task steps entry now → count ≡ length (running_in steps) → SoManyRun count now.events
many_by_steps tells own task steps entry now count idle run is = record {
  jobs = running_in steps;
  once = λ n.
      let a = times_filter (λ i. not (has_number (ended_in steps) i)) (started_in steps) n in
      let b = started_apart task.graph.edges [] steps run.orderly n in
      omega (arith, a, b);
  all = λ job. running_now tells own task entry steps now idle run job;
  many = is;
}

-- ---- on the site

unequal : (j k : ℕ) (b : Bool) → (j == k) ≡ false → (k == j) ≡ b → b ≡ false
unequal j k true other same = absurd (false≢true (sym other ∙ eq-eqb j k (sym (eqb-true k j same))))
unequal j k false other same = refl

flipped : (j k : ℕ) (b : Bool) → (j == k) ≡ b → (k == j) ≡ b
flipped j k true is = eq-eqb k j (sym (eqb-true j k is))
flipped j k false is = unequal j k (k == j) is refl

-- one less, once one has ended
pub many_less : (tells : Bool) (count : ℕ) (old new : World) (job : ℕ) (ok : Bool) → SoManyRun count old.events → Finishes tells job ok old new → SoManyRun (count - 1) new.events
many_less tells count old new job ok many finish = record {
  jobs = filter (other_than job) many.jobs;
  once = λ n. let a = times_filter (other_than job) many.jobs n in let b = many.once n in omega (arith, a, b);
  all = λ k. ap (λ (l : List Event). runs k l) finish.events ∙ (runs_push k old.events (Finish job ok) ∙ (ended k (runs k old.events) ∙ (ap (λ (b : Bool). b && other_than job k) (many.all k) ∙ sym (has_number-filter (other_than job) many.jobs k))));
  many =
      let a = times_others many.jobs job in
      let b = many.once job in
      let c = times_some many.jobs job (sym (many.all job) ∙ finish.ran) in
      let d = many.many in
      omega (arith, a, b, c, d);
}
  where
    by_flags : (b c r : Bool) → c ≡ b → cond b false r ≡ (r && not c)
    by_flags true true true same = refl
    by_flags true true false same = refl
    by_flags true false r same = absurd (false≢true same)
    by_flags false true r same = absurd (true≢false same)
    by_flags false false true same = refl
    by_flags false false false same = refl

    ended : (k : ℕ) (r : Bool) → cond (job == k) false r ≡ (r && other_than job k)
    ended k r = by_flags (job == k) (k == job) r (flipped job k (job == k) refl)

pub some_of_many : (count : ℕ) (events : List Event) → SoManyRun count events → 0 < count → (job : ℕ) × (runs job events ≡ true)
some_of_many count events many some = by_jobs many.jobs many.all (omega (arith, some, many.many))
  where
    by_jobs : (jobs : List ℕ) → ((job : ℕ) → runs job events ≡ has_number jobs job) → 0 < length jobs → (job : ℕ) × (runs job events ≡ true)
    by_jobs [] all lt = absurd (omega (arith, lt))
    by_jobs (x ∷ xs) all lt = (x, all x ∙ or_left (x == x) (has_number xs x) (eq-eqb x x refl))
