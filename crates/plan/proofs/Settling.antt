-- An alias is settled.
use Rattle.std.proofs.Common.{◌≡◌, ◌⊎◌, inl, inr, ℕ, zero, suc, ◌<◌, ◌==◌, ◌&&◌, not, Bool, true, false, List, [], ◌∷◌, Option, Some, None, length, get_or, count_by, refl, sym, ◌∙◌, ap, subst, arith}
use Rattle.std.proofs.Math.ListN.{set}
use Rattle.std.proofs.lemmas.List.{get_or-set_same, get_or-set_other}
use Rattle.std.proofs.lemmas.Bool.{false≢true, true≢false, and_parts, eqb-true, cases_Bool, cases_eq}
use Rattle.plan.specs.Flags.{has}
use Rattle.plan.specs.declared.step.Standing.{Standing}
use Rattle.plan.specs.declared.step.Standing.TheVariants.{Outside, Unjudged, Clean, OutOfDate, Running, Well, Failed, Alias, Known}
use Rattle.plan.specs.Standing.{standing_at, is_unjudged, is_alias, is_running, is_failed, is_well, is_settled, awaits, maker_settled}
use Rattle.plan.specs.Plan.{IsReady, IsTallied, IsOver, is_missing}
use Rattle.plan.specs.Settling.{IsCounted}
use Rattle.plan.specs.Planned.{IsTaskOf}
use Rattle.plan.specs.Settling.{IsAhead, IsStill, SettlesAliases}
use Rattle.plan.specs.declared.plan.Plan.{Plan}
use Rattle.model.specs.Graph.{has_number, edge_at, inputs}
use Rattle.model.specs.Schedule.{Task, IsSettled, Alias as ByAlias}
use Rattle.theory.proofs.Lists.{has-left}
use Rattle.graph.specs.declared.graph.Graph.{Graph}
use Rattle.graph.specs.Links.{links_of, needs_at}
use Rattle.graph.specs.Linked.{HasMaker}
use Rattle.plan.proofs.CountBy.{count_keeps, count_none}

pub alias_is : (s : Standing) → is_alias s ≡ true → s ≡ Alias
alias_is Outside h = absurd (false≢true h)
alias_is Unjudged h = absurd (false≢true h)
alias_is Clean h = absurd (false≢true h)
alias_is OutOfDate h = absurd (false≢true h)
alias_is Running h = absurd (false≢true h)
alias_is Well h = absurd (false≢true h)
alias_is Failed h = absurd (false≢true h)
alias_is Alias h = refl
alias_is Known h = absurd (false≢true h)

pub inside : (standings : List Standing) (e : ℕ) → is_alias (standing_at standings e) ≡ true → e < length standings
inside [] e is = absurd (false≢true is)
inside (s ∷ standings) zero is = omega arith
inside (s ∷ standings) (suc e) is = let rest = inside standings e is in omega (arith, rest)

module _ (standings : List Standing) (left : List ℕ) (ready pending : List Bool) (sets : IsReady standings left ready pending) (e : ℕ) (here : has pending e ≡ true) where
  both : (is_alias (standing_at standings e) ≡ true) × ((get_or left e 0 == 0) ≡ true)
  both = and_parts (is_alias (standing_at standings e)) (get_or left e 0 == 0) (sym (sets.pending e) ∙ here)

  pub was_alias : standing_at standings e ≡ Alias
  was_alias = alias_is (standing_at standings e) both.0

  pub none_left : get_or left e 0 ≡ 0
  none_left = eqb-true (get_or left e 0) 0 both.1

  pub in_range : e < length standings
  in_range = inside standings e both.0

  pub now_known : standing_at (set standings e Known) e ≡ Known
  now_known = get_or-set_same standings e Known Outside in_range

  pub known_sets : IsReady (set standings e Known) left ready (set pending e false)
  known_sets = record {
    ready = λ k. elim (cases_eq k e) [
      | inl same ↦ subst (λ (n : ℕ). has ready n ≡ (is_unjudged (standing_at (set standings e Known) n) && (get_or left n 0 == 0))) (sym same)
          (sets.ready e ∙ (ap (λ (s : Standing). is_unjudged s && (get_or left e 0 == 0)) was_alias ∙ sym (ap (λ (s : Standing). is_unjudged s && (get_or left e 0 == 0)) now_known)))
      | inr other ↦ sets.ready k ∙ ap (λ (s : Standing). is_unjudged s && (get_or left k 0 == 0)) (sym (get_or-set_other standings e k Known Outside other))
    ];
    pending = λ k. elim (cases_eq k e) [
      | inl same ↦ subst (λ (n : ℕ). has (set pending e false) n ≡ (is_alias (standing_at (set standings e Known) n) && (get_or left n 0 == 0))) (sym same)
          (off ∙ sym (ap (λ (s : Standing). is_alias s && (get_or left e 0 == 0)) now_known))
      | inr other ↦ get_or-set_other pending e k false false other ∙ (sets.pending k ∙ ap (λ (s : Standing). is_alias s && (get_or left k 0 == 0)) (sym (get_or-set_other standings e k Known Outside other)))
    ];
  }
    where
      flag_range : (flags : List Bool) (k : ℕ) → has flags k ≡ true → k < length flags
      flag_range [] k is = absurd (false≢true is)
      flag_range (x ∷ flags) zero is = omega arith
      flag_range (x ∷ flags) (suc k) is = let rest = flag_range flags k is in omega (arith, rest)

      off : has (set pending e false) e ≡ false
      off = get_or-set_same pending e false false (flag_range pending e here)

  -- by a test that tells an alias from no settled one, nothing is changed
  pub known_same : (test : Standing → Bool) → test Known ≡ test Alias → (k : ℕ) → test (standing_at (set standings e Known) k) ≡ test (standing_at standings k)
  known_same test same k = elim (cases_eq k e) [
    | inl here_too ↦ subst (λ (n : ℕ). test (standing_at (set standings e Known) n) ≡ test (standing_at standings n)) (sym here_too) (ap test now_known ∙ (same ∙ sym (ap test was_alias)))
    | inr other ↦ ap test (get_or-set_other standings e k Known Outside other)
  ]

  known_count : (test : Standing → Bool) → test Known ≡ test Alias → count_by test (set standings e Known) ≡ count_by test standings
  known_count test same = count_keeps test standings e Known Outside in_range (same ∙ sym (ap test was_alias))

  pub known_tallied : (running failed well : ℕ) → IsTallied standings running failed well → IsTallied (set standings e Known) running failed well
  known_tallied running failed well tallied = record {
    runs = tallied.runs ∙ sym (known_count is_running refl);
    fails = tallied.fails ∙ sym (known_count is_failed refl);
    ends = tallied.ends ∙ sym (known_count is_well refl);
  }

-- ---- over a graph

module _ (graph : Graph) (standings : List Standing) (left : List ℕ) (there : List Bool) (e : ℕ) (known : standing_at (set standings e Known) e ≡ Known)
    (over : IsOver (links_of graph) (length graph.manifest.paths) standings left there) where
  maker_stays : (o : Option ℕ) → maker_settled standings o ≡ true → maker_settled (set standings e Known) o ≡ true
  maker_stays None is = refl
  maker_stays (Some k) is = elim (cases_eq k e) [
    | inl same ↦ subst (λ (n : ℕ). is_settled (standing_at (set standings e Known) n) ≡ true) (sym same) (ap is_settled known)
    | inr other ↦ ap is_settled (get_or-set_other standings e k Known Outside other) ∙ is
  ]

  pub over_next : (after : List Standing) (counts : List ℕ) (come : List Bool) → after ≡ set standings e Known → IsCounted (links_of graph) (length graph.manifest.paths) after counts come
      → ((p : ℕ) → p < length graph.manifest.paths → has_number ((links_of graph).outputs e) p ≡ true → has come p ≡ true) → ((p : ℕ) → has_number ((links_of graph).outputs e) p ≡ false → has come p ≡ has there p)
      → IsOver (links_of graph) (length graph.manifest.paths) after counts come
  over_next after counts come is counted made others = record {
    edges = counted.edges;
    known = counted.known;
    counts = counted.counts;
    sound = λ p flag. ap (λ (s : List Standing). maker_settled s ((links_of graph).maker p)) is ∙ sound_at p flag;
    complete = λ p lt settled. complete_at p lt ((links_of graph).maker p) refl (sym (ap (λ (s : List Standing). maker_settled s ((links_of graph).maker p)) is) ∙ settled);
  }
    where
      sound_at : (p : ℕ) → has come p ≡ true → maker_settled (set standings e Known) ((links_of graph).maker p) ≡ true
      sound_at p flag = elim (cases_Bool (has_number ((links_of graph).outputs e) p)) [
        | inl output ↦ ap (maker_settled (set standings e Known)) (graph.making.all p e output) ∙ ap is_settled known
        | inr other ↦ maker_stays ((links_of graph).maker p) (over.sound p (sym (others p other) ∙ flag))
      ]

      keeps : (p : ℕ) → p < length graph.manifest.paths → has there p ≡ true → has come p ≡ true
      keeps p lt was = elim (cases_Bool (has_number ((links_of graph).outputs e) p)) [
        | inl output ↦ made p lt output
        | inr other ↦ others p other ∙ was
      ]

      complete_at : (p : ℕ) → p < length graph.manifest.paths → (o : Option ℕ) → (links_of graph).maker p ≡ o → maker_settled (set standings e Known) ((links_of graph).maker p) ≡ true → has come p ≡ true
      complete_at p lt None is_ settled = keeps p lt (over.complete p lt (ap (maker_settled standings) is_))
      complete_at p lt (Some k) is_ settled = elim (cases_eq k e) [
        | inl same ↦ made p lt (graph.making.made p e (is_ ∙ ap (λ (n : ℕ). Some n) same))
        | inr other ↦
            keeps p lt (over.complete p lt (ap (maker_settled standings) is_ ∙ (sym (ap is_settled (get_or-set_other standings e k Known Outside other)) ∙ (sym (ap (maker_settled (set standings e Known)) is_) ∙ settled))))
      ]

  -- an alias all of whose inputs are there is settled
  pub alias_settled : (task : Task) (done : List ℕ) → IsTaskOf task graph → (edge_at task.graph.edges (suc e)).phony ≡ true → standing_at standings e ≡ Alias → get_or left e 0 ≡ 0
      → ((k : ℕ) → is_settled (standing_at standings k) ≡ true → IsSettled task.graph.edges done (suc k)) → IsSettled task.graph.edges done (suc e)
  alias_settled task done stated phony stands none sound =
      ByAlias (suc e) phony (λ p j input made. by_maker j (stated.linked.complete e j record { path = p; needed = has-left (inputs (edge_at task.graph.edges (suc e))) (task.recorded (suc e)) p input; made = made }))
    where
      by_maker : (j : ℕ) → HasMaker (links_of graph) e j → IsSettled task.graph.edges done j
      by_maker j found =
          let nothing : count_by (is_missing there) (needs_at (links_of graph) e) ≡ 0 = sym (over.counts e (ap awaits stands)) ∙ none in
          let p = get_or (needs_at (links_of graph) e) found.place 0 in
          let here : has there p ≡ true = not_false (has there p) (count_none (is_missing there) (needs_at (links_of graph) e) found.place 0 found.within nothing) in
          let is : is_settled (standing_at standings found.number) ≡ true = ap (maker_settled standings) (sym found.is) ∙ over.sound p here in
          subst (λ (n : ℕ). IsSettled task.graph.edges done n) found.same (sound found.number is)
        where
          not_false : (b : Bool) → not b ≡ false → b ≡ true
          not_false true h = refl
          not_false false h = absurd (true≢false h)

  pub sound_next : (task : Task) (done : List ℕ) → IsSettled task.graph.edges done (suc e) → ((k : ℕ) → is_settled (standing_at standings k) ≡ true → IsSettled task.graph.edges done (suc k))
      → (after : List Standing) → after ≡ set standings e Known → (k : ℕ) → is_settled (standing_at after k) ≡ true → IsSettled task.graph.edges done (suc k)
  sound_next task done mine sound after is k settled = elim (cases_eq k e) [
    | inl same ↦ subst (λ (n : ℕ). IsSettled task.graph.edges done (suc n)) (sym same) mine
    | inr other ↦ sound k (sym (ap is_settled (get_or-set_other standings e k Known Outside other)) ∙ (sym (ap (λ (s : List Standing). is_settled (standing_at s k)) is) ∙ settled))
  ]

pub alias_first : (first now : List Standing) (e : ℕ) → (standing_at now e ≡ standing_at first e) ⊎ ((standing_at first e ≡ Alias) × (standing_at now e ≡ Known)) → standing_at now e ≡ Alias → standing_at first e ≡ Alias
alias_first first now e (inl same) stands = sym same ∙ stands
alias_first first now e (inr new) stands = new.0

-- one alias more
pub aliases_next : (first now after : List Standing) (e : ℕ) → length now ≡ length first → ((k : ℕ) → (standing_at now k ≡ standing_at first k) ⊎ ((standing_at first k ≡ Alias) × (standing_at now k ≡ Known))) → standing_at now e ≡ Alias
    → standing_at (set now e Known) e ≡ Known → after ≡ set now e Known → (k : ℕ) → (standing_at after k ≡ standing_at first k) ⊎ ((standing_at first k ≡ Alias) × (standing_at after k ≡ Known))
aliases_next first now after e fits before stands known is k = subst (λ (s : List Standing). (standing_at s k ≡ standing_at first k) ⊎ ((standing_at first k ≡ Alias) × (standing_at s k ≡ Known))) (sym is) (elim (cases_eq k e) [
  | inl same ↦ inr (subst (λ (n : ℕ). standing_at first n ≡ Alias) (sym same) (alias_first first now e (before e) stands), subst (λ (n : ℕ). standing_at (set now e Known) n ≡ Known) (sym same) known)
  | inr other ↦ elim (before k) [
    | inl old ↦ inl (get_or-set_other now e k Known Outside other ∙ old)
    | inr new ↦ inr (new.0, get_or-set_other now e k Known Outside other ∙ new.1)
  ]
])

-- what the edge makes came in
pub ahead_over : (graph : Graph) (e : ℕ) (plan : Plan) (after : List Standing) (counts : List ℕ) (come : List Bool) → IsAhead graph e plan → is_settled (standing_at plan.standings.items e) ≡ true → after ≡ plan.standings.items
    → IsCounted (links_of graph) (length graph.manifest.paths) after counts come
    → ((p : ℕ) → p < length graph.manifest.paths → has_number ((links_of graph).outputs e) p ≡ true → has come p ≡ true) → ((p : ℕ) → has_number ((links_of graph).outputs e) p ≡ false → has come p ≡ has plan.there.items p)
    → IsOver (links_of graph) (length graph.manifest.paths) after counts come
ahead_over graph e plan after counts come ahead mine is counted made others = record {
  edges = counted.edges;
  known = counted.known;
  counts = counted.counts;
  sound = λ p flag. ap (λ (s : List Standing). maker_settled s ((links_of graph).maker p)) is ∙ elim (cases_Bool (has_number ((links_of graph).outputs e) p)) [
    | inl output ↦ ap (maker_settled plan.standings.items) (graph.making.all p e output) ∙ mine
    | inr other ↦ ahead.sound p (sym (others p other) ∙ flag)
  ];
  complete = λ p lt settled. elim (ahead.complete p lt (sym (ap (λ (s : List Standing). maker_settled s ((links_of graph).maker p)) is) ∙ settled)) [
    | inl was ↦ elim (cases_Bool (has_number ((links_of graph).outputs e) p)) [
      | inl output ↦ made p lt output
      | inr other ↦ others p other ∙ was
    ]
    | inr maker ↦ made p lt (graph.making.made p e maker)
  ];
}

pub still_aliases : (first now after : Plan) → IsStill first now → SettlesAliases now after → SettlesAliases first after
still_aliases first now after still aliases = record {
  fits = aliases.fits ∙ ap (λ (s : List Standing). length s) still.standings;
  stands = λ e. subst (λ (s : List Standing). (standing_at after.standings.items e ≡ standing_at s e) ⊎ ((standing_at s e ≡ Alias) × (standing_at after.standings.items e ≡ Known))) still.standings (aliases.stands e);
  queue = aliases.queue ∙ still.queue;
  changed = aliases.changed ∙ still.changed;
  loads = aliases.loads ∙ still.loads;
  running = aliases.running ∙ still.running;
  failed = aliases.failed ∙ still.failed;
  well = aliases.well ∙ still.well;
  jobs = aliases.jobs ∙ still.jobs;
  keep = aliases.keep ∙ still.keep;
}
