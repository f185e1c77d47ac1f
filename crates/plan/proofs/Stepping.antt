-- One edge stands otherwise after a step.
use Rattle.std.proofs.Common.{◌≡◌, ◌⊎◌, inl, inr, ℕ, zero, suc, ◌+◌, ◌<◌, ◌==◌, ◌&&◌, filter, Bool, true, false, List, [], ◌∷◌, ◌++◌, Option, Some, None, length, get_or, count_by, refl, sym, ◌∙◌, ap, subst, arith}
use Rattle.std.proofs.Math.ListN.{set}
use Rattle.std.proofs.lemmas.List.{length-set, get_or-set_same, get_or-set_other}
use Rattle.std.proofs.lemmas.List.Sums.{sum_by-set}
use Rattle.std.proofs.lemmas.Bool.{true≢false, cases_eq}
use Rattle.model.specs.Graph.{edge_at, IsCommand}
use Rattle.model.specs.Reading.{IsInCone}
use Rattle.model.specs.Schedule.{Task, Step, running_in, done_in, IsSettled}
use Rattle.theory.proofs.Settled.{settled_more}
use Rattle.plan.specs.Flags.{has}
use Rattle.plan.specs.Turns.{Turns}
use Rattle.graph.specs.declared.graph.Graph.{Graph}
use Rattle.graph.specs.Links.{Links}
use Rattle.plan.specs.declared.plan.Plan.{Plan}
use Rattle.plan.specs.declared.step.Standing.{Standing}
use Rattle.plan.specs.declared.step.Standing.TheVariants.{Outside, Alias, Known}
use Rattle.plan.specs.Standing.{standing_at, is_unjudged, is_alias, is_out_of_date, is_running, is_failed, is_well, is_outside, is_phony, is_settled, awaits, maker_settled}
use Rattle.plan.specs.Plan.{IsReady, IsWaiting, IsTallied, IsOver, IsPooled}
use Rattle.plan.specs.Settling.{IsCounted}
use Rattle.plan.specs.Planned.{standing_in, is_place, is_grouped, IsPlanned}
use Rattle.plan.specs.Steps.{edge_of}
use Rattle.plan.proofs.PlannedSteps.{stands_other, done_more}
use Rattle.plan.proofs.Runs.{one_if, same_filter}

module _ (standings : List Standing) (e : ℕ) (s : Standing) (lt : e < length standings) where
  abbrev pub after : List Standing
  after = set standings e s

  abbrev before : Standing
  before = standing_at standings e

  pub here : standing_at after e ≡ s
  here = get_or-set_same standings e s Outside lt

  pub test_same : (test : Standing → Bool) → test s ≡ test before → (k : ℕ) → test (standing_at after k) ≡ test (standing_at standings k)
  test_same test same k = elim (cases_eq k e) [
    | inl here_too ↦ subst (λ (n : ℕ). test (standing_at after n) ≡ test (standing_at standings n)) (sym here_too) (ap test here ∙ same)
    | inr other ↦ ap test (get_or-set_other standings e k s Outside other)
  ]

  pub sets_same : (left : List ℕ) (ready pending : List Bool) → is_unjudged s ≡ is_unjudged before → is_alias s ≡ is_alias before → IsReady standings left ready pending → IsReady after left ready pending
  sets_same left ready pending fresh alias sets = record {
    ready = λ k. sets.ready k ∙ ap (λ (b : Bool). b && (get_or left k 0 == 0)) (sym (test_same is_unjudged fresh k));
    pending = λ k. sets.pending k ∙ ap (λ (b : Bool). b && (get_or left k 0 == 0)) (sym (test_same is_alias alias k));
  }

  -- a command that was ready is judged
  pub sets_judged : (left : List ℕ) (ready pending : List Bool) → is_unjudged s ≡ false → is_alias s ≡ is_alias before → e < length ready → IsReady standings left ready pending → IsReady after left (set ready e false) pending
  sets_judged left ready pending judged alias room sets = record {
    ready = λ k. elim (cases_eq k e) [
      | inl same ↦ subst (λ (n : ℕ). has (set ready e false) n ≡ (is_unjudged (standing_at after n) && (get_or left n 0 == 0))) (sym same)
          (get_or-set_same ready e false false room ∙ sym (ap (λ (b : Bool). b && (get_or left e 0 == 0)) (ap is_unjudged here ∙ judged)))
      | inr other ↦ get_or-set_other ready e k false false other ∙ (sets.ready k ∙ ap (λ (x : Standing). is_unjudged x && (get_or left k 0 == 0)) (sym (get_or-set_other standings e k s Outside other)))
    ];
    pending = λ k. sets.pending k ∙ ap (λ (b : Bool). b && (get_or left k 0 == 0)) (sym (test_same is_alias alias k));
  }

  pub waits_same : (turns new : Turns) → new.waiting ≡ turns.waiting → is_out_of_date s ≡ is_out_of_date before → IsWaiting standings turns → IsWaiting after new
  waits_same turns new is same waits = record {
    fits = ap (λ (l : List Bool). length l) is ∙ (waits.fits ∙ sym (length-set standings e s));
    waits = λ k. ap (λ (l : List Bool). has l k) is ∙ (waits.waits k ∙ sym (test_same is_out_of_date same k));
  }

  pub waits_next : (turns new : Turns) (flag : Bool) → new.waiting ≡ set turns.waiting e flag → is_out_of_date s ≡ flag → IsWaiting standings turns → IsWaiting after new
  waits_next turns new flag is same waits = record {
    fits = ap (λ (l : List Bool). length l) is ∙ (length-set turns.waiting e flag ∙ (waits.fits ∙ sym (length-set standings e s)));
    waits = λ k. ap (λ (l : List Bool). has l k) is ∙ elim (cases_eq k e) [
      | inl here_too ↦ subst (λ (n : ℕ). has (set turns.waiting e flag) n ≡ is_out_of_date (standing_at after n)) (sym here_too)
          (get_or-set_same turns.waiting e flag false (omega (arith, lt, waits.fits)) ∙ (sym same ∙ sym (ap is_out_of_date here)))
      | inr other ↦ get_or-set_other turns.waiting e k flag false other ∙ (waits.waits k ∙ ap is_out_of_date (sym (get_or-set_other standings e k s Outside other)))
    ];
  }

  pub count_moves : (test : Standing → Bool) → count_by test after + one_if (test before) ≡ count_by test standings + one_if (test s)
  count_moves test = let moved = sum_by-set (λ (x : Standing). one_if (test x)) standings e s Outside lt in omega (arith, moved)

  pub tallied_next : (running failed well r f w : ℕ) → IsTallied standings running failed well → r + one_if (is_running before) ≡ running + one_if (is_running s) → f + one_if (is_failed before) ≡ failed + one_if (is_failed s)
      → w + one_if (is_well before) ≡ well + one_if (is_well s) → IsTallied after r f w
  tallied_next running failed well r f w tallied a b c = record {
    runs = let m = count_moves is_running in let t = tallied.runs in omega (arith, m, a, t);
    fails = let m = count_moves is_failed in let t = tallied.fails in omega (arith, m, b, t);
    ends = let m = count_moves is_well in let t = tallied.ends in omega (arith, m, c, t);
  }

  -- ---- over a graph

  module _ (links : Links) (paths : ℕ) (left : List ℕ) (there : List Bool) (over : IsOver links paths standings left there) (waiting : awaits s ≡ true → awaits before ≡ true) where
    awaited : (k : ℕ) → awaits (standing_at after k) ≡ true → awaits (standing_at standings k) ≡ true
    awaited k waits = elim (cases_eq k e) [
      | inl same ↦ subst (λ (n : ℕ). awaits (standing_at standings n) ≡ true) (sym same) (waiting (sym (ap awaits here) ∙ (subst (λ (n : ℕ). awaits (standing_at after n) ≡ true) same waits)))
      | inr other ↦ sym (ap awaits (get_or-set_other standings e k s Outside other)) ∙ waits
    ]

    pub counted_next : IsCounted links paths after left there
    counted_next = record {
      edges = length-set standings e s ∙ over.edges;
      known = over.known;
      counts = λ k waits. over.counts k (awaited k waits);
    }

    maker_same : is_settled s ≡ is_settled before → (o : Option ℕ) → maker_settled after o ≡ maker_settled standings o
    maker_same same None = refl
    maker_same same (Some k) = test_same is_settled same k

    pub over_same : is_settled s ≡ is_settled before → IsOver links paths after left there
    over_same same = record {
      edges = length-set standings e s ∙ over.edges;
      known = over.known;
      counts = λ k waits. over.counts k (awaited k waits);
      sound = λ p flag. maker_same same (links.maker p) ∙ over.sound p flag;
      complete = λ p within settled. over.complete p within (sym (maker_same same (links.maker p)) ∙ settled);
    }

    -- the edge is settled, and what it makes is not there yet
    module _ (settled : is_settled s ≡ true) where
      more_settled : (o : Option ℕ) → maker_settled standings o ≡ true → maker_settled after o ≡ true
      more_settled None is = refl
      more_settled (Some k) is = elim (cases_eq k e) [
        | inl same ↦ subst (λ (n : ℕ). is_settled (standing_at after n) ≡ true) (sym same) (ap is_settled here ∙ settled)
        | inr other ↦ ap is_settled (get_or-set_other standings e k s Outside other) ∙ is
      ]

      pub ahead_sound : (p : ℕ) → has there p ≡ true → maker_settled after (links.maker p) ≡ true
      ahead_sound p flag = more_settled (links.maker p) (over.sound p flag)

      pub ahead_complete : (p : ℕ) → p < paths → maker_settled after (links.maker p) ≡ true → (has there p ≡ true) ⊎ (links.maker p ≡ Some e)
      ahead_complete p within is = by (links.maker p) refl
        where
          by : (o : Option ℕ) → links.maker p ≡ o → (has there p ≡ true) ⊎ (links.maker p ≡ Some e)
          by None none = inl (over.complete p within (ap (maker_settled standings) none))
          by (Some k) some = elim (cases_eq k e) [
            | inl same ↦ inr (some ∙ ap (λ (n : ℕ). Some n) same)
            | inr other ↦ inl (over.complete p within (ap (maker_settled standings) some ∙ (sym (ap is_settled (get_or-set_other standings e k s Outside other)) ∙ (sym (ap (maker_settled after) some) ∙ is))))
          ]

  pub pooled_next : (graph : Graph) (turns new : Turns) → new.groups ≡ turns.groups → new.depths ≡ turns.depths → length new.running ≡ length turns.running → is_outside s ≡ is_outside before → IsPooled graph standings turns → IsPooled graph after new
  pooled_next graph turns new groups depths fits outside pooled = record {
    depths = depths ∙ pooled.depths;
    fits = fits ∙ (pooled.fits ∙ sym (ap (λ (l : List ℕ). length l) depths));
    groups = λ k inside. ap (λ (l : List (Option ℕ)). get_or l k None) groups ∙ pooled.groups k (sym (test_same is_outside outside k) ∙ inside);
  }

-- ---- what a plan knows of the steps, but for what is there

pub record IsHalf (task : Task) (standings : List Standing) (turns : Turns) (steps : List Step) : Type 0 where
  pub within : (e : ℕ) → is_outside (standing_at standings e) ≡ false → IsInCone task.graph.edges task.recorded task.targets (suc e)
  pub inside : (e : ℕ) → IsInCone task.graph.edges task.recorded task.targets (suc e) → is_outside (standing_at standings e) ≡ false
  pub kinds : (e : ℕ) → is_outside (standing_at standings e) ≡ false → is_phony (standing_at standings e) ≡ (edge_at task.graph.edges (suc e)).phony
  pub stands : (e : ℕ) → IsInCone task.graph.edges task.recorded task.targets (suc e) → IsCommand task.graph.edges (suc e) → standing_at standings e ≡ standing_in steps (suc e)
  pub settled : (e : ℕ) → is_settled (standing_at standings e) ≡ true → IsSettled task.graph.edges (done_in steps) (suc e)
  pub runs : (g : ℕ) → get_or turns.running g 0 ≡ length (filter (is_grouped turns g) (running_in steps))

pub half_of : (task : Task) (graph : Graph) (plan : Plan) (steps : List Step) → IsPlanned task graph plan steps → IsHalf task plan.standings.items plan.queue steps
half_of task graph plan steps at = record { within = at.within; inside = at.inside; kinds = at.kinds; stands = at.stands; settled = at.settled; runs = at.runs }

module _ (task : Task) (standings : List Standing) (turns : Turns) (steps : List Step) (half : IsHalf task standings turns steps) where
  pub half_next : (e : ℕ) (s : Standing) (lt : e < length standings) (new : Turns) (step : Step) → edge_of step ≡ suc e
      → is_outside s ≡ is_outside (standing_at standings e) → is_phony s ≡ is_phony (standing_at standings e) → s ≡ standing_in (steps ++ step ∷ []) (suc e)
      → (is_settled s ≡ true → IsSettled task.graph.edges (done_in (steps ++ step ∷ [])) (suc e))
      → ((g : ℕ) → get_or new.running g 0 ≡ length (filter (is_grouped new g) (running_in (steps ++ step ∷ []))))
      → IsHalf task (set standings e s) new (steps ++ step ∷ [])
  half_next e s lt new step of outside phony is done runs = record {
    within = λ k inside. half.within k (sym (test_same standings e s lt is_outside outside k) ∙ inside);
    inside = λ k cone. test_same standings e s lt is_outside outside k ∙ half.inside k cone;
    kinds = λ k inside. test_same standings e s lt is_phony phony k ∙ half.kinds k (sym (test_same standings e s lt is_outside outside k) ∙ inside);
    stands = λ k cone command. elim (cases_eq k e) [
      | inl same ↦ subst (λ (n : ℕ). standing_at (set standings e s) n ≡ standing_in (steps ++ step ∷ []) (suc n)) (sym same) (here standings e s lt ∙ is)
      | inr other ↦ get_or-set_other standings e k s Outside other ∙ (half.stands k cone command ∙ sym (stands_other steps step (suc k) (λ h. other (omega (arith, of, h)))))
    ];
    settled = λ k settled. elim (cases_eq k e) [
      | inl same ↦ subst (λ (n : ℕ). IsSettled task.graph.edges (done_in (steps ++ step ∷ [])) (suc n)) (sym same)
          (done (sym (ap is_settled (here standings e s lt)) ∙ subst (λ (n : ℕ). is_settled (standing_at (set standings e s) n) ≡ true) same settled))
      | inr other ↦ settled_more task.graph.edges (done_in steps) (done_in (steps ++ step ∷ [])) (λ j h. done_more steps step j h) (suc k)
          (half.settled k (sym (ap is_settled (get_or-set_other standings e k s Outside other)) ∙ settled))
    ];
    runs = runs;
  }

  -- aliases are settled
  pub half_settled : (now : List Standing) (new : Turns) → new ≡ turns → ((k : ℕ) → (standing_at now k ≡ standing_at standings k) ⊎ ((standing_at standings k ≡ Alias) × (standing_at now k ≡ Known)))
      → ((k : ℕ) → is_settled (standing_at now k) ≡ true → IsSettled task.graph.edges (done_in steps) (suc k)) → IsHalf task now new steps
  half_settled now new is each settled = record {
    within = λ k inside. half.within k (sym (same is_outside refl k) ∙ inside);
    inside = λ k cone. same is_outside refl k ∙ half.inside k cone;
    kinds = λ k inside. same is_phony refl k ∙ half.kinds k (sym (same is_outside refl k) ∙ inside);
    stands = λ k cone command. elim (each k) [
      | inl old ↦ old ∙ half.stands k cone command
      | inr alias ↦ absurd (true≢false (sym (ap is_phony alias.0) ∙ (half.kinds k (half.inside k cone) ∙ command)))
    ];
    settled = settled;
    runs = λ g. subst (λ (t : Turns). get_or t.running g 0 ≡ length (filter (is_grouped t g) (running_in steps))) (sym is) (half.runs g);
  }
    where
      same : (test : Standing → Bool) → test Known ≡ test Alias → (k : ℕ) → test (standing_at now k) ≡ test (standing_at standings k)
      same test alike k = elim (each k) [
        | inl old ↦ ap test old
        | inr alias ↦ ap test alias.1 ∙ (alike ∙ sym (ap test alias.0))
      ]

-- the pools of edges are the same
pub same_groups : (turns new : Turns) → new.groups ≡ turns.groups → (g : ℕ) (xs : List ℕ) → length (filter (is_grouped turns g) xs) ≡ length (filter (is_grouped new g) xs)
same_groups turns new is g xs = ap (λ (l : List ℕ). length l) (same_filter (is_grouped turns g) (is_grouped new g) xs (λ i h. each i))
  where
    each : (i : ℕ) → is_grouped turns g i ≡ is_grouped new g i
    each zero = refl
    each (suc e) = ap (λ (l : List (Option ℕ)). is_place (get_or l e None) g) (sym is)
