-- The edges that may be judged and started are those that a scan finds.
use Rattle.std.proofs.Common.{◌≡◌, ◌⊎◌, inl, inr, ℕ, zero, suc, ◌<◌, ◌==◌, ◌&&◌, ◌||◌, nat_lt, filter, Bool, true, false, List, [], ◌∷◌, Option, Some, None, length, count_by, refl, sym, ◌∙◌, ap, subst, arith}
use Rattle.std.proofs.lemmas.Bool.{false≢true, or_cases, or_left, or_right, and_parts, and_from, eq-eqb, eqb-true, lt-ltb, ltb-true, cases_Bool, false_from_ne_true}
use Rattle.model.specs.Graph.{has, has_number, edge_at, inputs, maker, depth_of, IsCommand}
use Rattle.model.specs.Reading.{IsInCone, Needed}
use Rattle.model.specs.Schedule.{Task, Step, Judged, Started, running_in, failed_in, done_in, IsSettled, Done, Alias as ByAlias, IsBelow, is_in_pool, MayBeJudged, NoneMayBeJudged, MayStart, NoneMayStart, IsLawfulStep}
use Rattle.theory.proofs.Lists.{has-cases, has_number-filter}
use Rattle.theory.proofs.Makers.{command_within}
use Rattle.theory.proofs.Orderly.{kept_orderly}
use Rattle.graph.specs.declared.graph.Graph.{Graph}
use Rattle.graph.specs.Links.{links_of, needs_at}
use Rattle.graph.specs.Cone.{maker_at}
use Rattle.graph.specs.Linked.{IsMakerFor}
use Rattle.plan.specs.declared.step.Standing.{Standing}
use Rattle.plan.specs.declared.step.Standing.TheVariants.{Outside, Unjudged, Clean, OutOfDate, Running, Well, Failed, Alias, Known}
use Rattle.plan.specs.Standing.{standing_at, is_unjudged, is_out_of_date, is_running, is_failed, is_alias, is_outside, is_phony, is_settled}
use Rattle.plan.specs.Plan.{has_limits}
use Rattle.plan.specs.Planned.{standing_in, AreTaken}
use Rattle.plan.specs.Steps.{AreCommands, StandingsTell, StepsName, ListsCount}
use Rattle.plan_plain.specs.declared.plain.Plan.{Plan}
use Rattle.plan_plain.specs.Scan.{waits_for_nothing, may_judge, may_start, pool_at, runs_in, counted, has_pool_room, IsFirst, NonePasses}
use Rattle.plan_plain.specs.Planned.{IsPlanned}
use Rattle.plan_plain.proofs.Changing.{stands_within}
use Rattle.plan_plain.proofs.Waiting.{nothing_left, need_settled}
use Rattle.plan_plain.proofs.Counted.{once_filter, counted_listed}

-- ---- standings

pub alias_is : (s : Standing) → is_alias s ≡ true → s ≡ Alias
alias_is Outside h = absurd (false≢true h)
alias_is Unjudged h = absurd (false≢true h)
alias_is Clean h = absurd (false≢true h)
alias_is OutOfDate h = absurd (false≢true h)
alias_is Running h = absurd (false≢true h)
alias_is Well h = absurd (false≢true h)
alias_is Failed h = absurd (false≢true h)
alias_is Alias h = refl
alias_is Known h = absurd (false≢true h)

phony_cases : (s : Standing) → is_phony s ≡ true → (s ≡ Alias) ⊎ (s ≡ Known)
phony_cases Outside h = absurd (false≢true h)
phony_cases Unjudged h = absurd (false≢true h)
phony_cases Clean h = absurd (false≢true h)
phony_cases OutOfDate h = absurd (false≢true h)
phony_cases Running h = absurd (false≢true h)
phony_cases Well h = absurd (false≢true h)
phony_cases Failed h = absurd (false≢true h)
phony_cases Alias h = inl refl
phony_cases Known h = inr refl

-- a test that only commands pass
record IsPlain (test : Standing → Bool) : Type 0 where
  pub outside : test Outside ≡ false
  pub alias : test Alias ≡ false
  pub known : test Known ≡ false

inside_is : (test : Standing → Bool) → IsPlain test → (s : Standing) → test s ≡ true → is_outside s ≡ false
inside_is test plain Outside h = absurd (false≢true (sym plain.outside ∙ h))
inside_is test plain Unjudged h = refl
inside_is test plain Clean h = refl
inside_is test plain OutOfDate h = refl
inside_is test plain Running h = refl
inside_is test plain Well h = refl
inside_is test plain Failed h = refl
inside_is test plain Alias h = refl
inside_is test plain Known h = refl

command_is : (test : Standing → Bool) → IsPlain test → (s : Standing) → test s ≡ true → is_phony s ≡ false
command_is test plain Outside h = refl
command_is test plain Unjudged h = refl
command_is test plain Clean h = refl
command_is test plain OutOfDate h = refl
command_is test plain Running h = refl
command_is test plain Well h = refl
command_is test plain Failed h = refl
command_is test plain Alias h = absurd (false≢true (sym plain.alias ∙ h))
command_is test plain Known h = absurd (false≢true (sym plain.known ∙ h))

unjudged_is : (s : Standing) → is_unjudged s ≡ true → s ≡ Unjudged
unjudged_is Outside h = absurd (false≢true h)
unjudged_is Unjudged h = refl
unjudged_is Clean h = absurd (false≢true h)
unjudged_is OutOfDate h = absurd (false≢true h)
unjudged_is Running h = absurd (false≢true h)
unjudged_is Well h = absurd (false≢true h)
unjudged_is Failed h = absurd (false≢true h)
unjudged_is Alias h = absurd (false≢true h)
unjudged_is Known h = absurd (false≢true h)

out_of_date_is : (s : Standing) → is_out_of_date s ≡ true → s ≡ OutOfDate
out_of_date_is Outside h = absurd (false≢true h)
out_of_date_is Unjudged h = absurd (false≢true h)
out_of_date_is Clean h = absurd (false≢true h)
out_of_date_is OutOfDate h = refl
out_of_date_is Running h = absurd (false≢true h)
out_of_date_is Well h = absurd (false≢true h)
out_of_date_is Failed h = absurd (false≢true h)
out_of_date_is Alias h = absurd (false≢true h)
out_of_date_is Known h = absurd (false≢true h)

-- no edge has the number 0
never_judged : (task : Task) (steps : List Step) → MayBeJudged task steps 0 → ⊥
never_judged task steps may = omega (arith, (command_within task.graph.edges 0 may.command).0)

-- ---- limits

below_limit : (limit other count number : ℕ) → limit ≡ other → count ≡ number → ((limit == 0) || nat_lt count limit) ≡ true → IsBelow number other
below_limit limit other count number same is h = elim (or_cases (limit == 0) (nat_lt count limit) h) [
  | inl none ↦ inl (sym same ∙ eqb-true limit 0 none)
  | inr less ↦ inr (omega (arith, same, is, ltb-true count limit less))
]

limit_below : (limit other count number : ℕ) → limit ≡ other → count ≡ number → IsBelow number other → ((limit == 0) || nat_lt count limit) ≡ true
limit_below limit other count number same is (inl none) = or_left (limit == 0) (nat_lt count limit) (eq-eqb limit 0 (same ∙ none))
limit_below limit other count number same is (inr less) = or_right (limit == 0) (nat_lt count limit) (lt-ltb count limit (omega (arith, same, is, less)))

empty : (xs : List ℕ) → length xs ≡ 0 → xs ≡ []
empty [] none = refl
empty (x ∷ xs) none = absurd (omega (arith, none))

module _ (tell : StandingsTell) (named : StepsName) (counts : ListsCount) (task : Task) (graph : Graph) (plan : Plan) (steps : List Step) (at : IsPlanned task graph plan steps) (lawful : AreTaken task steps) where
  abbrev InCone : ℕ → Type 0
  InCone i = IsInCone task.graph.edges task.recorded task.targets i

  abbrev stand : ℕ → Standing
  stand e = standing_at plan.standings.items e

  -- an edge that passes such a test is a command of the cone, and the test says the same of the steps
  commands : (test : Standing → Bool) → IsPlain test → (e : ℕ) → test (stand e) ≡ true → InCone (suc e) × IsCommand task.graph.edges (suc e) × (test (standing_in steps (suc e)) ≡ true)
  commands test plain e is =
      let inside = inside_is test plain (stand e) is in
      let within = at.stood.within e inside in
      let command : IsCommand task.graph.edges (suc e) = sym (at.stood.kinds e inside) ∙ command_is test plain (stand e) is in
      (within, command, ap test (sym (at.stood.stands e within command)) ∙ is)

  -- ---- judgements

  -- the makers of what an edge needs, by numbers
  maker_of : (e k n : ℕ) → k < length (needs_at (links_of graph) e) → maker_at (links_of graph) e k ≡ Some n → IsMakerFor task.graph.edges task.recorded (suc e) (suc n)
  maker_of e k n lt is = at.stated.linked.linked e (suc n) record { place = k; number = n; within = lt; is = is; same = refl }

  -- what is settled by the steps stands so
  settled_stands : (i n : ℕ) → i ≡ suc n → IsSettled task.graph.edges (done_in steps) i → InCone (suc n) → is_settled (stand n) ≡ true
  settled_stands _ n same (Done i command done) within =
      let mine : IsCommand task.graph.edges (suc n) = subst (λ (j : ℕ). IsCommand task.graph.edges j) same command in
      ap is_settled (at.stood.stands n within mine) ∙ tell.done task steps (suc n) lawful (subst (λ (j : ℕ). has_number (done_in steps) j ≡ true) same done)
  settled_stands _ n same (ByAlias i phony below) within = elim (phony_cases (stand n) (at.stood.kinds n (at.stood.inside n within) ∙ subst (λ (j : ℕ). (edge_at task.graph.edges j).phony ≡ true) same phony)) [
    | inl waiting ↦ absurd (false≢true (sym (at.over.settled n) ∙ and_from (is_alias (stand n)) (waits_for_nothing (links_of graph) plan.standings.items n) (ap is_alias waiting)
        (nothing_left (links_of graph) n plan.standings.items (each (λ p m input made cone_too. settled_stands (suc m) m refl (below p (suc m) input made) cone_too)))))
    | inr settled ↦ ap is_settled settled
  ]
    where
      each : ((p : List ℕ) (m : ℕ) → has (inputs (edge_at task.graph.edges i)) p ≡ true → maker task.graph.edges p ≡ Some (suc m) → InCone (suc m) → is_settled (stand m) ≡ true) → (k m : ℕ) → k < length (needs_at (links_of graph) n) → maker_at (links_of graph) n k ≡ Some m → is_settled (stand m) ≡ true
      each above k m lt is =
          let found = maker_of n k m lt is in
          let mine : (edge_at task.graph.edges (suc n)).phony ≡ true = subst (λ (j : ℕ). (edge_at task.graph.edges j).phony ≡ true) same phony in
          let input : has (inputs (edge_at task.graph.edges (suc n))) found.path ≡ true = elim (has-cases (inputs (edge_at task.graph.edges (suc n))) (task.recorded (suc n)) found.path found.needed) [
            | inl here ↦ here
            | inr noted ↦ absurd (false≢true (subst (λ (ps : List (List ℕ)). has ps found.path ≡ true) (at.stated.bare (suc n) mine) noted))
          ] in
          above found.path m (subst (λ (j : ℕ). has (inputs (edge_at task.graph.edges j)) found.path ≡ true) (sym same) input) found.made
          (Needed (suc m) (suc n) found.path within found.needed found.made)

  may_be_judged : (e : ℕ) → may_judge (links_of graph) plan.standings.items e ≡ true → MayBeJudged task steps (suc e)
  may_be_judged e may =
      let both = and_parts (is_unjudged (stand e)) (waits_for_nothing (links_of graph) plan.standings.items e) may in
      let mine = commands is_unjudged record { outside = refl; alias = refl; known = refl } e both.0 in
      record {
        within = mine.0;
        command = mine.1;
        once = (tell.unjudged task steps (suc e) lawful).0 (unjudged_is (standing_in steps (suc e)) mine.2);
        ready = λ p need j made. need_settled task graph at.stated (done_in steps) plan.standings.items at.stood.settled e both.1 p j need made;
      }

  judged_may : (e : ℕ) → MayBeJudged task steps (suc e) → may_judge (links_of graph) plan.standings.items e ≡ true
  judged_may e may =
      and_from (is_unjudged (stand e)) (waits_for_nothing (links_of graph) plan.standings.items e)
      (ap is_unjudged (at.stood.stands e may.within may.command ∙ (tell.unjudged task steps (suc e) lawful).1 may.once))
      (nothing_left (links_of graph) e plan.standings.items each)
    where
      each : (k n : ℕ) → k < length (needs_at (links_of graph) e) → maker_at (links_of graph) e k ≡ Some n → is_settled (stand n) ≡ true
      each k n lt is =
          let found = maker_of e k n lt is in
          settled_stands (suc n) n refl (may.ready found.path found.needed (suc n) found.made) (Needed (suc n) (suc e) found.path may.within found.needed found.made)

  pub none_judged : NonePasses (may_judge (links_of graph) plan.standings.items) → NoneMayBeJudged task steps
  none_judged none zero may = never_judged task steps may
  none_judged none (suc e) may = false≢true (sym (none e) ∙ judged_may e may)

  pub judge_lawful : (e : ℕ) → IsFirst (may_judge (links_of graph) plan.standings.items) e → (stale : Bool) → IsLawfulStep task steps (Judged (suc e) stale)
  judge_lawful e first stale = (may_be_judged e first.is, lower)
    where
      lower : (k : ℕ) → k < suc e → MayBeJudged task steps k → ⊥
      lower zero lt may = never_judged task steps may
      lower (suc k) lt may = false≢true (sym (first.lowest k (omega (arith, lt))) ∙ judged_may k may)

  -- ---- counts

  listed_is : (test : Standing → Bool) (xs : List ℕ) → IsPlain test → AreCommands task xs → ((i : ℕ) → test (standing_in steps i) ≡ has_number xs i) → (e : ℕ) → test (stand e) ≡ has_number xs (suc e)
  listed_is test xs plain are is e = elim (cases_Bool (has_number xs (suc e))) [
    | inl h ↦ ap test (at.stood.stands e (are.within (suc e) h) (are.commands (suc e) h)) ∙ is (suc e)
    | inr h ↦ false_from_ne_true (test (stand e)) (λ passes. false≢true (sym h ∙ (sym (is (suc e)) ∙ (commands test plain e passes).2))) ∙ sym h
  ]

  runs_is : (e : ℕ) → is_running (stand e) ≡ has_number (running_in steps) (suc e)
  runs_is = listed_is is_running (running_in steps) record { outside = refl; alias = refl; known = refl } (named.running task steps lawful) (λ i. tell.running task steps i lawful)

  running_count : count_by is_running plan.standings.items ≡ length (running_in steps)
  running_count = let are = named.running task steps lawful in counts is_running plan.standings.items (running_in steps) refl are.once are.positive runs_is

  failed_count : count_by is_failed plan.standings.items ≡ length (failed_in steps)
  failed_count =
      let are = named.failed task steps lawful in
      counts is_failed plan.standings.items (failed_in steps) refl are.once are.positive
      (listed_is is_failed (failed_in steps) record { outside = refl; alias = refl; known = refl } are (λ i. tell.failed task steps i lawful))

  in_pool_count : (name : List ℕ) → counted (runs_in graph plan.standings.items name) (length graph.manifest.lines) ≡ length (filter (λ j. is_in_pool name (edge_at task.graph.edges j).pool) (running_in steps))
  in_pool_count name =
      counted_listed (runs_in graph plan.standings.items name) (length graph.manifest.lines) (filter in_pool (running_in steps)) (once_filter in_pool (running_in steps) (named.running task steps lawful).once)
      (has_number-filter in_pool (running_in steps) 0 ∙ ap (λ (b : Bool). b && in_pool 0) (named.running task steps lawful).positive)
      (λ e. ap (λ (b : Bool). b && is_in_pool name (pool_at graph e)) (runs_is e)
      ∙ (ap (λ (o : Option (List ℕ)). has_number (running_in steps) (suc e) && is_in_pool name o) (sym (at.stated.pool e))
      ∙ sym (has_number-filter in_pool (running_in steps) (suc e))))
      (λ e passes. let a = stands_within is_running plan.standings.items e refl (and_parts (is_running (stand e)) (is_in_pool name (pool_at graph e)) passes).0 in omega (arith, a, at.over.edges))
    where
      in_pool : ℕ → Bool
      in_pool j = is_in_pool name (edge_at task.graph.edges j).pool

  -- ---- starts

  never_may_start : MayStart task steps 0 → ⊥
  never_may_start may =
      let kept = kept_orderly task.graph.edges steps lawful.orderly in
      omega (arith, (command_within task.graph.edges 0 (kept.judged 0 (kept.out_of_date 0 may.stale))).0)

  abbrev limits : Bool
  limits = has_limits plan.jobs plan.keep (count_by is_running plan.standings.items) (count_by is_failed plan.standings.items)

  depth_is : (name : List ℕ) → depth_of graph.manifest.pools name ≡ depth_of task.graph.pools name
  depth_is name = sym (ap (λ ps. depth_of ps name) at.stated.pools)

  may_be_started : (e : ℕ) → limits ≡ true → may_start graph plan.standings.items e ≡ true → MayStart task steps (suc e)
  may_be_started e room may =
      let rooms = and_parts ((plan.jobs == 0) || nat_lt (count_by is_running plan.standings.items) plan.jobs) ((plan.keep == 0) || nat_lt (count_by is_failed plan.standings.items) plan.keep) room in
      let both = and_parts (is_out_of_date (stand e)) (has_pool_room graph plan.standings.items (pool_at graph e)) may in
      let new = (tell.out_of_date task steps (suc e) lawful).0 (out_of_date_is (standing_in steps (suc e)) (commands is_out_of_date record { outside = refl; alias = refl; known = refl } e both.0).2) in
      record {
        stale = new.0;
        once = new.1;
        job = below_limit plan.jobs task.jobs (count_by is_running plan.standings.items) (length (running_in steps)) at.limits.0 running_count rooms.0;
        pool = λ name is.
            below_limit (depth_of graph.manifest.pools name) (depth_of task.graph.pools name) (counted (runs_in graph plan.standings.items name) (length graph.manifest.lines)) _ (depth_is name) (in_pool_count name)
            (sym (ap (has_pool_room graph plan.standings.items) (sym (at.stated.pool e) ∙ is)) ∙ both.1);
        keep = below_limit plan.keep task.keep (count_by is_failed plan.standings.items) (length (failed_in steps)) at.limits.1 failed_count rooms.1;
      }

  started_may : (e : ℕ) → MayStart task steps (suc e) → (limits ≡ true) × (may_start graph plan.standings.items e ≡ true)
  started_may e start =
      let kept = kept_orderly task.graph.edges steps lawful.orderly in
      let judged = kept.out_of_date (suc e) start.stale in (
        and_from ((plan.jobs == 0) || nat_lt (count_by is_running plan.standings.items) plan.jobs) ((plan.keep == 0) || nat_lt (count_by is_failed plan.standings.items) plan.keep)
            (limit_below plan.jobs task.jobs (count_by is_running plan.standings.items) (length (running_in steps)) at.limits.0 running_count start.job)
            (limit_below plan.keep task.keep (count_by is_failed plan.standings.items) (length (failed_in steps)) at.limits.1 failed_count start.keep),
        and_from (is_out_of_date (stand e)) (has_pool_room graph plan.standings.items (pool_at graph e))
            (ap is_out_of_date (at.stood.stands e (lawful.within (suc e) judged) (kept.judged (suc e) judged) ∙ (tell.out_of_date task steps (suc e) lawful).1 (start.stale, start.once)))
            (ap (has_pool_room graph plan.standings.items) (sym (at.stated.pool e)) ∙ by (edge_at task.graph.edges (suc e)).pool refl),
      )
    where
      by : (o : Option (List ℕ)) → (edge_at task.graph.edges (suc e)).pool ≡ o → has_pool_room graph plan.standings.items o ≡ true
      by None is = refl
      by (Some name) is = limit_below (depth_of graph.manifest.pools name) (depth_of task.graph.pools name) (counted (runs_in graph plan.standings.items name) (length graph.manifest.lines)) _ (depth_is name) (in_pool_count name) (start.pool name is)

  pub none_started : (limits ≡ true → NonePasses (may_start graph plan.standings.items)) → NoneMayStart task steps
  none_started none zero start = never_may_start start
  none_started none (suc e) start =
      let both = started_may e start in
      false≢true (sym (none both.0 e) ∙ both.1)

  pub start_lawful : (e : ℕ) → NonePasses (may_judge (links_of graph) plan.standings.items) → limits ≡ true → IsFirst (may_start graph plan.standings.items) e → IsLawfulStep task steps (Started (suc e))
  start_lawful e none room first = (none_judged none, may_be_started e room first.is, lower)
    where
      lower : (k : ℕ) → k < suc e → MayStart task steps k → ⊥
      lower zero lt start = never_may_start start
      lower (suc k) lt start = false≢true (sym (first.lowest k (omega (arith, lt))) ∙ (started_may k start).1)

  pub some_run : 0 < count_by is_running plan.standings.items → running_in steps ≡ [] → ⊥
  some_run runs none = omega (arith, runs, running_count, ap (λ (l : List ℕ). length l) none)

  pub none_run : count_by is_running plan.standings.items ≡ 0 → running_in steps ≡ []
  none_run none = empty (running_in steps) (sym running_count ∙ none)

  pub some_failed : 0 < count_by is_failed plan.standings.items → failed_in steps ≡ [] → ⊥
  some_failed fails none = omega (arith, fails, failed_count, ap (λ (l : List ℕ). length l) none)

  pub none_failed : count_by is_failed plan.standings.items ≡ 0 → failed_in steps ≡ []
  none_failed none = empty (failed_in steps) (sym failed_count ∙ none)
