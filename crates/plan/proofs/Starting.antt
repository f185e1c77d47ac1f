-- The edges that may start are those that a plan's queue lets start, where its limits do.
use Rattle.std.proofs.Common.{◌≡◌, inl, inr, ℕ, zero, suc, ◌<◌, ◌==◌, ◌||◌, nat_lt, cond, filter, Bool, true, false, List, [], ◌∷◌, Option, Some, None, length, get_or, count_by, bytes_eq, refl, sym, ◌∙◌, ap, arith}
use Rattle.std.proofs.lemmas.Bool.{false≢true, true≢false, or_cases, or_left, or_right, and_parts, and_from, eq-eqb, eqb-true, lt-ltb, ltb-true, cases_Bool, false_from_ne_true}
use Rattle.model.specs.Graph.{has_number, edge_at, depth_of, IsCommand}
use Rattle.model.specs.Reading.{IsInCone}
use Rattle.model.specs.Schedule.{Task, Step, Started, running_in, failed_in, well_in, IsBelow, is_in_pool, MayStart, NoneMayStart, IsLawfulStep}
use Rattle.theory.proofs.Lists.{same_bytes, bytes_same}
use Rattle.plan.specs.Flags.{has as flagged, AreNone}
use Rattle.plan.specs.Turns.{group_at, room, may, IsFirstTurn, NoTurn}
use Rattle.graph.specs.declared.graph.Graph.{Graph}
use Rattle.plan.specs.declared.plan.Plan.{Plan}
use Rattle.plan.specs.declared.step.Standing.{Standing}
use Rattle.plan.specs.declared.step.Standing.TheVariants.{Outside, Unjudged, Clean, OutOfDate, Running, Well, Failed, Alias, Known}
use Rattle.plan.specs.Standing.{standing_at, is_out_of_date, is_running, is_failed, is_well, is_outside, is_phony}
use Rattle.plan.specs.Pools.{place_of, place_in}
use Rattle.plan.specs.Plan.{has_limits}
use Rattle.plan.specs.Planned.{standing_in, is_place, is_grouped, IsPlanned, AreTaken}
use Rattle.plan.proofs.PlannedSteps as stands
use Rattle.plan.specs.Steps.{IsOnce}
use Rattle.plan.proofs.PlannedCounts.{count_listed, running_once, failed_once, well_once}
use Rattle.plan.proofs.Places.{place_free, place_depth, place_name}
use Rattle.plan.proofs.Judging.{known, none_judged}

out_of_date_is : (s : Standing) → is_out_of_date s ≡ true → is_phony s ≡ false
out_of_date_is Outside h = absurd (false≢true h)
out_of_date_is Unjudged h = absurd (false≢true h)
out_of_date_is Clean h = absurd (false≢true h)
out_of_date_is OutOfDate h = refl
out_of_date_is Running h = absurd (false≢true h)
out_of_date_is Well h = absurd (false≢true h)
out_of_date_is Failed h = absurd (false≢true h)
out_of_date_is Alias h = absurd (false≢true h)
out_of_date_is Known h = absurd (false≢true h)

running_is : (s : Standing) → is_running s ≡ true → is_phony s ≡ false
running_is Outside h = absurd (false≢true h)
running_is Unjudged h = absurd (false≢true h)
running_is Clean h = absurd (false≢true h)
running_is OutOfDate h = absurd (false≢true h)
running_is Running h = refl
running_is Well h = absurd (false≢true h)
running_is Failed h = absurd (false≢true h)
running_is Alias h = absurd (false≢true h)
running_is Known h = absurd (false≢true h)

failed_is : (s : Standing) → is_failed s ≡ true → is_phony s ≡ false
failed_is Outside h = absurd (false≢true h)
failed_is Unjudged h = absurd (false≢true h)
failed_is Clean h = absurd (false≢true h)
failed_is OutOfDate h = absurd (false≢true h)
failed_is Running h = absurd (false≢true h)
failed_is Well h = absurd (false≢true h)
failed_is Failed h = refl
failed_is Alias h = absurd (false≢true h)
failed_is Known h = absurd (false≢true h)

well_is : (s : Standing) → is_well s ≡ true → is_phony s ≡ false
well_is Outside h = absurd (false≢true h)
well_is Unjudged h = absurd (false≢true h)
well_is Clean h = absurd (false≢true h)
well_is OutOfDate h = absurd (false≢true h)
well_is Running h = absurd (false≢true h)
well_is Well h = refl
well_is Failed h = absurd (false≢true h)
well_is Alias h = absurd (false≢true h)
well_is Known h = absurd (false≢true h)

-- ---- limits

below_limit : (limit other count number : ℕ) → limit ≡ other → count ≡ number → ((limit == 0) || nat_lt count limit) ≡ true → IsBelow number other
below_limit limit other count number same is h = elim (or_cases (limit == 0) (nat_lt count limit) h) [
  | inl none ↦ inl (sym same ∙ eqb-true limit 0 none)
  | inr less ↦ inr (omega (arith, same, is, ltb-true count limit less))
]

limit_below : (limit other count number : ℕ) → limit ≡ other → count ≡ number → IsBelow number other → ((limit == 0) || nat_lt count limit) ≡ true
limit_below limit other count number same is (inl none) = or_left (limit == 0) (nat_lt count limit) (eq-eqb limit 0 (same ∙ none))
limit_below limit other count number same is (inr less) = or_right (limit == 0) (nat_lt count limit) (lt-ltb count limit (omega (arith, same, is, less)))

-- ---- lists

empty : (xs : List ℕ) → length xs ≡ 0 → xs ≡ []
empty [] none = refl
empty (x ∷ xs) none = absurd (omega (arith, none))

filter_same : (p q : ℕ → Bool) (xs : List ℕ) → ((i : ℕ) → has_number xs i ≡ true → p i ≡ q i) → length (filter p xs) ≡ length (filter q xs)
filter_same p q [] same = refl
filter_same p q (x ∷ xs) same =
    one_more (p x) (q x) (same x (or_left (x == x) (has_number xs x) (eq-eqb x x refl))) (filter_same p q xs (λ i h. same i (or_right (x == i) (has_number xs i) h)))
  where
    one_more : (b c : Bool) → b ≡ c → length (filter p xs) ≡ length (filter q xs) → length (cond b (x ∷ filter p xs) (filter p xs)) ≡ length (cond c (x ∷ filter q xs) (filter q xs))
    one_more true true e rest = ap suc rest
    one_more true false e rest = absurd (true≢false e)
    one_more false true e rest = absurd (false≢true e)
    one_more false false e rest = rest

module _ (task : Task) (graph : Graph) (plan : Plan) (steps : List Step) (at : IsPlanned task graph plan steps) (lawful : AreTaken task steps) where
  abbrev stood : ℕ → Standing
  stood e = standing_at plan.standings.items e

  commands : (test : Standing → Bool) → test Outside ≡ false → ((s : Standing) → test s ≡ true → is_phony s ≡ false) → (e : ℕ) → test (stood e) ≡ true
      → IsInCone task.graph.edges task.recorded task.targets (suc e) × IsCommand task.graph.edges (suc e) × (test (standing_in steps (suc e)) ≡ true)
  commands test none plain e is =
      let inside = known task graph plan steps at lawful test e none is in
      let within = at.within e inside in
      let command : IsCommand task.graph.edges (suc e) = sym (at.kinds e inside) ∙ plain (stood e) is in
      (within, command, ap test (sym (at.stands e within command)) ∙ is)

  count_is : (test : Standing → Bool) (xs : List ℕ) → test Outside ≡ false → ((s : Standing) → test s ≡ true → is_phony s ≡ false) → IsOnce xs → has_number xs 0 ≡ false
      → ((i : ℕ) → has_number xs i ≡ true → IsInCone task.graph.edges task.recorded task.targets i) → ((i : ℕ) → has_number xs i ≡ true → IsCommand task.graph.edges i)
      → ((i : ℕ) → test (standing_in steps i) ≡ has_number xs i) → count_by test plan.standings.items ≡ length xs
  count_is test xs none plain once positive cone command is = count_listed test none plan.standings.items xs once positive each
    where
      each : (e : ℕ) → test (stood e) ≡ has_number xs (suc e)
      each e = elim (cases_Bool (has_number xs (suc e))) [
        | inl h ↦ ap test (at.stands e (cone (suc e) h) (command (suc e) h)) ∙ is (suc e)
        | inr h ↦ false_from_ne_true (test (stood e)) (λ passes. false≢true (sym h ∙ (sym (is (suc e)) ∙ (commands test none plain e passes).2))) ∙ sym h
      ]

  pub running_count : plan.running ≡ length (running_in steps)
  running_count = plan.tallied.runs ∙ count_is is_running (running_in steps) refl running_is (running_once task steps lawful) (stands.never_running task steps lawful)
      (λ i h. stands.running_in_cone task steps lawful i h) (λ i h. stands.running_command task steps lawful i h) (λ i. stands.running_stands steps i)

  pub failed_count : plan.failed ≡ length (failed_in steps)
  failed_count = plan.tallied.fails ∙ count_is is_failed (failed_in steps) refl failed_is (failed_once task steps lawful) (stands.never_failed task steps lawful)
      (λ i h. stands.failed_in_cone task steps lawful i h) (λ i h. stands.failed_command task steps lawful i h) (λ i. stands.failed_stands task steps lawful i)

  pub well_count : plan.well ≡ length (well_in steps)
  well_count = plan.tallied.ends ∙ count_is is_well (well_in steps) refl well_is (well_once task steps lawful) (stands.never_well task steps lawful)
      (λ i h. stands.well_in_cone task steps lawful i h) (λ i h. stands.well_command task steps lawful i h) (λ i. stands.well_stands steps i)

  -- ---- pools

  group_is : (e : ℕ) → is_outside (stood e) ≡ false → group_at plan.queue e ≡ place_in graph.manifest.pools (edge_at task.graph.edges (suc e)).pool
  group_is e inside = at.over.pooled.groups e inside ∙ ap (place_in graph.manifest.pools) (sym (at.stated.pool e))

  module _ (name : List ℕ) (g : ℕ) (found : place_of graph.manifest.pools name ≡ Some g) where
    same_group : (i : ℕ) → has_number (running_in steps) i ≡ true → is_in_pool name (edge_at task.graph.edges i).pool ≡ is_grouped plan.queue g i
    same_group zero runs = absurd (false≢true (sym (stands.never_running task steps lawful) ∙ runs))
    same_group (suc e) runs =
        by (edge_at task.graph.edges (suc e)).pool
        ∙ sym (ap (λ (o : Option ℕ). is_place o g) (group_is e (at.inside e (stands.running_in_cone task steps lawful (suc e) runs))))
      where
        by_place : (other : List ℕ) (o : Option ℕ) → place_of graph.manifest.pools other ≡ o → bytes_eq other name ≡ is_place o g
        by_place other None none = false_from_ne_true (bytes_eq other name) (λ same. no_place (sym none ∙ (ap (place_of graph.manifest.pools) (same_bytes other name same) ∙ found)))
          where
            no_place : None ≡ Some g → ⊥
            no_place e = cc
        by_place other (Some h) there = elim (cases_Bool (bytes_eq other name)) [
          | inl same ↦ same ∙ sym (eq-eqb h g (some_is h g (sym there ∙ (ap (place_of graph.manifest.pools) (same_bytes other name same) ∙ found))))
          | inr apart ↦ apart ∙ sym (false_from_ne_true (h == g) (λ is. false≢true (sym apart
              ∙ (ap (λ (n : List ℕ). bytes_eq n name) (place_name graph.manifest.pools other name g (there ∙ ap (λ (k : ℕ). Some k) (eqb-true h g is)) found) ∙ bytes_same name))))
        ]
          where
            some_is : (a b : ℕ) → Some a ≡ Some b → a ≡ b
            some_is a b e = cc

        by : (o : Option (List ℕ)) → is_in_pool name o ≡ is_place (place_in graph.manifest.pools o) g
        by None = refl
        by (Some other) = by_place other (place_of graph.manifest.pools other) refl

    runs_same : get_or plan.queue.running g 0 ≡ length (filter (λ j. is_in_pool name (edge_at task.graph.edges j).pool) (running_in steps))
    runs_same = at.runs g ∙ sym (filter_same (λ j. is_in_pool name (edge_at task.graph.edges j).pool) (is_grouped plan.queue g) (running_in steps) same_group)

    depth_same : get_or plan.queue.depths g 0 ≡ depth_of task.graph.pools name
    depth_same =
        ap (λ (l : List ℕ). get_or l g 0) at.over.pooled.depths
        ∙ ((place_depth graph.manifest.pools name g found).0 ∙ sym (ap (λ ps. depth_of ps name) at.stated.pools))

  -- ---- starts

  pub may_be_started : (e : ℕ) → has_limits plan.jobs plan.keep plan.running plan.failed ≡ true → may plan.queue e ≡ true → MayStart task steps (suc e)
  may_be_started e limits turn =
      let rooms = and_parts ((plan.jobs == 0) || nat_lt plan.running plan.jobs) ((plan.keep == 0) || nat_lt plan.failed plan.keep) limits in
      let both = and_parts (flagged plan.queue.waiting e) (room plan.queue (group_at plan.queue e)) turn in
      let stale : is_out_of_date (stood e) ≡ true = sym (plan.waits.waits e) ∙ both.0 in
      let new = stands.stale_and_new steps (suc e) (commands is_out_of_date refl out_of_date_is e stale).2 in
      let inside = known task graph plan steps at lawful is_out_of_date e refl stale in
      record {
        stale = new.0;
        once = new.1;
        job = below_limit plan.jobs task.jobs plan.running (length (running_in steps)) at.limits.0 running_count rooms.0;
        pool = λ name is. by_place name (group_is e inside ∙ ap (place_in graph.manifest.pools) is) both.1 (place_of graph.manifest.pools name) refl;
        keep = below_limit plan.keep task.keep plan.failed (length (failed_in steps)) at.limits.1 failed_count rooms.1;
      }
    where
      by_place : (name : List ℕ) → group_at plan.queue e ≡ place_of graph.manifest.pools name → room plan.queue (group_at plan.queue e) ≡ true → (o : Option ℕ) → place_of graph.manifest.pools name ≡ o
          → IsBelow (length (filter (λ j. is_in_pool name (edge_at task.graph.edges j).pool) (running_in steps))) (depth_of task.graph.pools name)
      by_place name group open_ None none = inl (ap (λ ps. depth_of ps name) at.stated.pools ∙ place_free graph.manifest.pools name none)
      by_place name group open_ (Some g) found =
          let less = ltb-true (get_or plan.queue.running g 0) (get_or plan.queue.depths g 0) (sym (ap (room plan.queue) (group ∙ found)) ∙ open_) in
          inr (omega (arith, less, runs_same name g found, depth_same name g found))

  pub started_may : (e : ℕ) → MayStart task steps (suc e) → (has_limits plan.jobs plan.keep plan.running plan.failed ≡ true) × (may plan.queue e ≡ true)
  started_may e start =
      let within = stands.stale_in_cone task steps lawful (suc e) start.stale in
      let command = stands.stale_command task steps lawful (suc e) start.stale in
      let stale : is_out_of_date (stood e) ≡ true = ap is_out_of_date (at.stands e within command ∙ stands.new_out_of_date task steps lawful (suc e) start.stale start.once) in (
        and_from ((plan.jobs == 0) || nat_lt plan.running plan.jobs) ((plan.keep == 0) || nat_lt plan.failed plan.keep)
            (limit_below plan.jobs task.jobs plan.running (length (running_in steps)) at.limits.0 running_count start.job)
            (limit_below plan.keep task.keep plan.failed (length (failed_in steps)) at.limits.1 failed_count start.keep),
        and_from (flagged plan.queue.waiting e) (room plan.queue (group_at plan.queue e)) (plan.waits.waits e ∙ stale)
            (ap (room plan.queue) (group_is e (at.inside e within)) ∙ by (edge_at task.graph.edges (suc e)).pool refl),
      )
    where
      by_place : (name : List ℕ) → (edge_at task.graph.edges (suc e)).pool ≡ Some name → (o : Option ℕ) → place_of graph.manifest.pools name ≡ o → room plan.queue o ≡ true
      by_place name is None none = refl
      by_place name is (Some g) found = elim (start.pool name is) [
        | inl free ↦ absurd ((place_depth graph.manifest.pools name g found).1 (sym (ap (λ ps. depth_of ps name) at.stated.pools) ∙ free))
        | inr less ↦ lt-ltb (get_or plan.queue.running g 0) (get_or plan.queue.depths g 0) (omega (arith, less, runs_same name g found, depth_same name g found))
      ]

      by : (o : Option (List ℕ)) → (edge_at task.graph.edges (suc e)).pool ≡ o → room plan.queue (place_in graph.manifest.pools o) ≡ true
      by None is = refl
      by (Some name) is = by_place name is (place_of graph.manifest.pools name) refl

  pub none_started : (has_limits plan.jobs plan.keep plan.running plan.failed ≡ true → NoTurn plan.queue) → NoneMayStart task steps
  none_started none zero start = stands.never_may_start task steps lawful start
  none_started none (suc e) start =
      let both = started_may e start in
      false≢true (sym (none both.0 e) ∙ both.1)

  pub start_lawful : (e : ℕ) → AreNone plan.ready → has_limits plan.jobs plan.keep plan.running plan.failed ≡ true → IsFirstTurn plan.queue e → IsLawfulStep task steps (Started (suc e))
  start_lawful e none limits first = (none_judged task graph plan steps at lawful none, may_be_started e limits first.is, lower)
    where
      lower : (k : ℕ) → k < suc e → MayStart task steps k → ⊥
      lower zero lt start = stands.never_may_start task steps lawful start
      lower (suc k) lt start = false≢true (sym (first.lowest k (omega (arith, lt))) ∙ (started_may k start).1)

  pub some_run : 0 < plan.running → running_in steps ≡ [] → ⊥
  some_run runs none = omega (arith, runs, running_count, ap (λ (l : List ℕ). length l) none)

  pub none_run : plan.running ≡ 0 → running_in steps ≡ []
  none_run none = empty (running_in steps) (sym running_count ∙ none)

  pub some_failed : 0 < plan.failed → failed_in steps ≡ [] → ⊥
  some_failed fails none = omega (arith, fails, failed_count, ap (λ (l : List ℕ). length l) none)

  pub none_failed : plan.failed ≡ 0 → failed_in steps ≡ []
  none_failed none = empty (failed_in steps) (sym failed_count ∙ none)
