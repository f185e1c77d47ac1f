-- A plan goes on when a dyndep file is loaded: what is so of the edges as they were is so of them as they are.
use Rattle.std.proofs.Common.{◌≡◌, ◌⊎◌, inl, inr, ℕ, zero, suc, ◌+◌, ◌<◌, ◌≤◌, cond, Bool, true, false, List, [], ◌∷◌, ◌++◌, Some, length, get_or, count_by, refl, sym, ◌∙◌, ap, subst, arith}
use Rattle.std.proofs.lemmas.Bool.{false≢true, cases_Bool}
use Rattle.std.proofs.lemmas.List.{length-append}
use Rattle.std.proofs.lemmas.List.Sums.{sum_by-cons}
use Rattle.model.specs.declared.graph.Edge.{Edge}
use Rattle.model.specs.declared.graph.Pool.{Pool}
use Rattle.model.specs.Graph.{has, has_number, edge_at, inputs, maker, no_edge, IsCommand, Addition}
use Rattle.model.specs.Reading.{needs, IsInCone, Wanted, Needed, Validating}
use Rattle.model.specs.Schedule.{Task, Step, Judged, Started, Ended, judged_in, done_in, Done}
use Rattle.theory.specs.Order.{IsOrderlyStep, IsOrderlyFrom}
use Rattle.theory.proofs.Lists.{has-left, has-right, has-cases}
use Rattle.theory.proofs.Growth.{HasGrown, grown_by, cases_named, maker_still}
use Rattle.theory.proofs.Settled.{settled_command}
use Rattle.plan.specs.Turns.{Turns}
use Rattle.paths.specs.declared.line.Line.{Line}
use Rattle.paths.specs.declared.manifest.Action.{Action}
use Rattle.paths.specs.declared.manifest.Action.TheVariants as action
use Rattle.paths.specs.Lists.{line_at, line_outputs}
use Rattle.paths.specs.Commands.{no_action}
use Rattle.paths.specs.Told.{edge_of, edges_of}
use Rattle.graph.specs.declared.cone.Mark.{Mark}
use Rattle.graph.specs.declared.cone.Mark.TheVariants.{Unseen}
use Rattle.graph.specs.declared.graph.Graph.{Graph}
use Rattle.graph.specs.Cone.{mark_at, is_listed}
use Rattle.graph.specs.Links.{Links, links_of}
use Rattle.graph.specs.Linked.{IsConeOf}
use Rattle.graph.specs.Told.{declared_by}
use Rattle.graph.specs.Extended.{HasLoaded}
use Rattle.plan.specs.declared.plan.Plan.{Plan}
use Rattle.plan.specs.declared.step.Standing.{Standing}
use Rattle.plan.specs.declared.step.Standing.TheVariants.{Outside, Unjudged, Clean, OutOfDate, Running, Well, Failed, Alias, Known}
use Rattle.plan.specs.Standing.{standing_at, is_out_of_date, is_running, is_failed, is_well, is_outside, is_phony, is_settled}
use Rattle.plan.specs.Pools.{place_in, pool_of, depths_of}
use Rattle.plan.specs.Plan.{IsOver, IsWaiting, IsTallied, IsPooled, AreAllPooled}
use Rattle.plan.specs.First.{first_of, first_at, AreCounts}
use Rattle.plan.specs.Planned.{IsPlanOver, IsPlanned, IsTaskOf, AreTaken}
use Rattle.plan.specs.Growing.{grown_of, AreGrown, AreThere}
use Rattle.plan.specs.Extended.{MayGoOn, IsGrownTask}
use Rattle.plan.proofs.PlannedSteps.{fresh_unjudged}
use Rattle.plan.proofs.Begun.{first_fails, inside_listed, listed_inside, inside_kind, listed_command, has_later}
use Rattle.plan.proofs.Stepping.{IsHalf}
use Rattle.plan.proofs.Loaded.{flag_range}

-- ---- where edges stand

-- an edge stands as at the beginning, where it was outside or is an alias, else as before
grown_cases : (s first : Standing) → ((grown_of s first ≡ first) × ((is_outside s ≡ true) ⊎ (is_phony s ≡ true))) ⊎ ((grown_of s first ≡ s) × (is_outside s ≡ false) × (is_phony s ≡ false))
grown_cases Outside first = inl (refl, inl refl)
grown_cases Unjudged first = inr (refl, refl, refl)
grown_cases Clean first = inr (refl, refl, refl)
grown_cases OutOfDate first = inr (refl, refl, refl)
grown_cases Running first = inr (refl, refl, refl)
grown_cases Well first = inr (refl, refl, refl)
grown_cases Failed first = inr (refl, refl, refl)
grown_cases Alias first = inl (refl, inr refl)
grown_cases Known first = inl (refl, inr refl)

grown_test : (test : Standing → Bool) → test Outside ≡ false → test Unjudged ≡ false → test Alias ≡ false → test Known ≡ false → (s : Standing) (listed phony : Bool) → test (grown_of s (first_of listed phony)) ≡ test s
grown_test test outside unjudged alias known Outside l p = first_fails test outside unjudged alias l p ∙ sym outside
grown_test test outside unjudged alias known Unjudged l p = refl
grown_test test outside unjudged alias known Clean l p = refl
grown_test test outside unjudged alias known OutOfDate l p = refl
grown_test test outside unjudged alias known Running l p = refl
grown_test test outside unjudged alias known Well l p = refl
grown_test test outside unjudged alias known Failed l p = refl
grown_test test outside unjudged alias known Alias l p = first_fails test outside unjudged alias l p ∙ sym alias
grown_test test outside unjudged alias known Known l p = first_fails test outside unjudged alias l p ∙ sym known

abbrev one_if : Bool → ℕ
one_if b = cond b 1 0

-- as many pass a test where each passes it just as before
same_count : (test : Standing → Bool) (xs ys : List Standing) → length xs ≡ length ys → ((e : ℕ) → test (standing_at xs e) ≡ test (standing_at ys e)) → count_by test xs ≡ count_by test ys
same_count test [] [] fits same = refl
same_count test [] (y ∷ ys) fits same = absurd (omega (arith, fits))
same_count test (x ∷ xs) [] fits same = absurd (omega (arith, fits))
same_count test (x ∷ xs) (y ∷ ys) fits same =
    let rest = same_count test xs ys (omega (arith, fits)) (λ e. same (suc e)) in
    let one : count_by test (x ∷ xs) ≡ one_if (test x) + count_by test xs = sum_by-cons (λ (s : Standing). one_if (test s)) x xs in
    let two : count_by test (y ∷ ys) ≡ one_if (test y) + count_by test ys = sum_by-cons (λ (s : Standing). one_if (test s)) y ys in
    let here : one_if (test x) ≡ one_if (test y) = ap one_if (same 0) in
    omega (arith, one, two, here, rest)

module _ (links : Links) (marks : List Mark) (old new : List Standing) (grown : AreGrown links marks old new) where
  test_same : (test : Standing → Bool) → test Outside ≡ false → test Unjudged ≡ false → test Alias ≡ false → test Known ≡ false → (e : ℕ) → test (standing_at new e) ≡ test (standing_at old e)
  test_same test outside unjudged alias known e = ap test (grown.each e) ∙ grown_test test outside unjudged alias known (standing_at old e) (is_listed (mark_at marks e)) (links.phony e)

  pub tallied_grown : (running failed well : ℕ) → IsTallied old running failed well → IsTallied new running failed well
  tallied_grown running failed well tallied = record {
    runs = tallied.runs ∙ sym (same_count is_running new old grown.fits (test_same is_running refl refl refl refl));
    fails = tallied.fails ∙ sym (same_count is_failed new old grown.fits (test_same is_failed refl refl refl refl));
    ends = tallied.ends ∙ sym (same_count is_well new old grown.fits (test_same is_well refl refl refl refl));
  }

  pub waits_grown : (turns : Turns) → IsWaiting old turns → IsWaiting new turns
  waits_grown turns waiting = record {
    fits = waiting.fits ∙ sym grown.fits;
    waits = λ e. waiting.waits e ∙ sym (test_same is_out_of_date refl refl refl refl e);
  }

pub lower_or_past : (a b : ℕ) → (a < b) ⊎ (b ≤ a)
lower_or_past a zero = inr (omega arith)
lower_or_past zero (suc b) = inl (omega arith)
lower_or_past (suc a) (suc b) = elim (lower_or_past a b) [
  | inl less ↦ inl (omega (arith, less))
  | inr past ↦ inr (omega (arith, past))
]

pub past_end : {X : Type 0} (xs : List X) (k : ℕ) (d : X) → length xs ≤ k → get_or xs k d ≡ d
past_end [] k d past = refl
past_end (x ∷ xs) zero d past = absurd (omega (arith, past))
past_end (x ∷ xs) (suc k) d past = past_end xs k d (omega (arith, past))

-- so it is of each edge, where it is so of the edges of a graph
pub grown_all : (links : Links) (marks : List Mark) (old new : List Standing) (count : ℕ) → length new ≡ count → count ≡ length old → length marks ≡ length old
    → ((e : ℕ) → e < count → standing_at new e ≡ grown_of (standing_at old e) (first_at links marks e)) → AreGrown links marks old new
grown_all links marks old new count fits all size each = record {
  fits = fits ∙ all;
  each = λ e. elim (lower_or_past e count) [
    | inl less ↦ each e less
    | inr past ↦
        past_end new e Outside (omega (arith, fits, past))
        ∙ (sym (ap (λ (m : Mark). first_of (is_listed m) (links.phony e)) (past_end marks e Unseen (omega (arith, size, all, past))))
        ∙ sym (ap (λ (s : Standing). grown_of s (first_at links marks e)) (past_end old e Outside (omega (arith, all, past)))))
  ];
}

-- who makes a path is an edge of the graph
pub maker_below : (graph : Graph) (p e : ℕ) → (links_of graph).maker p ≡ Some e → e < length graph.manifest.lines
maker_below graph p e is = below graph.manifest.lines e (graph.making.made p e is)
  where
    below : (lines : List Line) (k : ℕ) → has_number (line_outputs (line_at lines k)) p ≡ true → k < length lines
    below [] k h = absurd (false≢true h)
    below (line ∷ lines) zero h = omega arith
    below (line ∷ lines) (suc k) h = let low = below lines k h in omega (arith, low)

-- what is there, and what edges wait for
pub over_grown : (links : Links) (paths : ℕ) (standings : List Standing) (there : List Bool) (left : List ℕ) → length standings ≡ links.count → AreThere links paths standings there → AreCounts links standings there left
    → IsOver links paths standings left there
over_grown links paths standings there left edges is counts = record {
  edges = edges;
  known = is.fits;
  counts = counts.each;
  sound = λ p flag. sym (is.each p (let low = flag_range there p flag in omega (arith, low, is.fits))) ∙ flag;
  complete = λ p lt settled. is.each p lt ∙ settled;
}

-- ---- pools

pub pool_is : (paths : List (List ℕ)) (line : Line) (a : Action) → (edge_of paths line a).pool ≡ pool_of a
pool_is paths line action.Alias = refl
pool_is paths line (action.Command command) = refl

pool_get : (paths : List (List ℕ)) (lines : List Line) (actions : List Action) (e : ℕ) → length actions ≡ length lines → (get_or (edges_of paths lines actions) e no_edge).pool ≡ pool_of (get_or actions e no_action)
pool_get paths [] [] e fits = refl
pool_get paths [] (a ∷ actions) e fits = absurd (omega (arith, fits))
pool_get paths (line ∷ lines) [] e fits = absurd (omega (arith, fits))
pool_get paths (line ∷ lines) (a ∷ actions) zero fits = pool_is paths line a
pool_get paths (line ∷ lines) (a ∷ actions) (suc e) fits = pool_get paths lines actions e (omega (arith, fits))

pool_at : (graph : Graph) (e : ℕ) → (edge_at (declared_by graph).edges (suc e)).pool ≡ pool_of (get_or graph.manifest.actions e no_action)
pool_at graph e = pool_get graph.manifest.paths graph.manifest.lines graph.manifest.actions e graph.manifest.fits

pub all_pooled : (graph : Graph) (plan : Plan) → MayGoOn graph plan → AreAllPooled graph plan.queue
all_pooled graph plan may = λ e.
    may.over.loading.all may.some e
    ∙ (ap (λ (ps : List Pool). place_in ps (pool_of (get_or may.before.manifest.actions e no_action))) (sym may.pools)
    ∙ ap (place_in graph.manifest.pools) (sym (pool_at may.before e) ∙ (sym (may.pool (suc e)) ∙ pool_at graph e)))

pub pooled_grown : (graph : Graph) (plan : Plan) (new : List Standing) → MayGoOn graph plan → IsPooled graph new plan.queue
pooled_grown graph plan new may = record {
  depths = may.over.pooled.depths ∙ ap depths_of (sym may.pools);
  fits = may.over.pooled.fits;
  groups = λ e inside. all_pooled graph plan may e;
}

-- ---- edges and their cone

orderly_step_grown : (few many : List Edge) → HasGrown few many → (before : List Step) (s : Step) → IsOrderlyStep few before s → IsOrderlyStep many before s
orderly_step_grown few many grown before (Judged i b) orderly = (grown.phony i ∙ orderly.0, orderly.1)
orderly_step_grown few many grown before (Started i) orderly = orderly
orderly_step_grown few many grown before (Ended i w) orderly = orderly

orderly_grown : (few many : List Edge) → HasGrown few many → (before steps : List Step) → IsOrderlyFrom few before steps → IsOrderlyFrom many before steps
orderly_grown few many grown before [] orderly = tt
orderly_grown few many grown before (s ∷ steps) orderly = (orderly_step_grown few many grown before s orderly.0, orderly_grown few many grown (before ++ s ∷ []) steps orderly.1)

module _ (earlier task : Task) (more : IsGrownTask earlier task) where
  grown : HasGrown earlier.graph.edges task.graph.edges
  grown = grown_by more.file more.additions earlier.graph.edges task.graph.edges more.grown

  same_validations : (j : ℕ) → (edge_at task.graph.edges j).validations ≡ (edge_at earlier.graph.edges j).validations
  same_validations j = elim (cases_named (edge_at earlier.graph.edges j).dyndep more.file) [
    | inl named ↦ ap (λ (e : Edge). e.validations) (more.grown.named j named).2
    | inr other ↦ ap (λ (e : Edge). e.validations) (more.grown.others j other)
  ]

  still_made : (p : List ℕ) (i : ℕ) → maker earlier.graph.edges p ≡ Some i → maker task.graph.edges p ≡ Some i
  still_made p i made = maker_still earlier.graph.edges task.graph.edges grown more.once p i made

  still_needed : (j : ℕ) (p : List ℕ) → has (needs earlier.graph.edges earlier.recorded j) p ≡ true → has (needs task.graph.edges task.recorded j) p ≡ true
  still_needed j p need = elim (has-cases (inputs (edge_at earlier.graph.edges j)) (earlier.recorded j) p need) [
    | inl input ↦ has-left (inputs (edge_at task.graph.edges j)) (task.recorded j) p (grown.inputs j p input)
    | inr noted ↦ has-right (inputs (edge_at task.graph.edges j)) (task.recorded j) p (more.recorded j p noted)
  ]

  -- an edge of the cone is in it still
  pub still_in_cone : (i : ℕ) → IsInCone earlier.graph.edges earlier.recorded earlier.targets i → IsInCone task.graph.edges task.recorded task.targets i
  still_in_cone _ (Wanted i p wanted made) = Wanted i p (subst (λ (ps : List (List ℕ)). has ps p ≡ true) (sym more.targets) wanted) (still_made p i made)
  still_in_cone _ (Needed i j p below need made) = Needed i j p (still_in_cone j below) (still_needed j p need) (still_made p i made)
  still_in_cone _ (Validating i j p below named made) =
      Validating i j p (still_in_cone j below) (subst (λ (ps : List (List ℕ)). has ps p ≡ true) (sym (same_validations j)) named) (still_made p i made)

  pub still_taken : (steps : List Step) → AreTaken earlier steps → AreTaken task steps
  still_taken steps taken = record {
    orderly = orderly_grown earlier.graph.edges task.graph.edges grown [] steps taken.orderly;
    within = λ i judged. still_in_cone i (taken.within i judged);
  }

  module _ (before graph : Graph) (plan : Plan) (steps : List Step) (at : IsPlanned earlier before plan steps) (taken : AreTaken earlier steps) (stated : IsTaskOf task graph)
      (order : List ℕ) (marks : List Mark) (cone : IsConeOf task.graph.edges task.recorded task.targets order marks)
      (new : List Standing) (stand : AreGrown (links_of graph) marks plan.standings.items new) where
    abbrev InCone : ℕ → Type 0
    InCone i = IsInCone task.graph.edges task.recorded task.targets i

    abbrev was : ℕ → Standing
    was e = standing_at plan.standings.items e

    abbrev listed : ℕ → Bool
    listed e = is_listed (mark_at marks e)

    abbrev first : ℕ → Standing
    first e = first_at (links_of graph) marks e

    in_list : (e : ℕ) → InCone (suc e) → listed e ≡ true
    in_list e in_cone = cone.marked e ∙ (sym (has_later order e) ∙ cone.all (suc e) in_cone)

    -- a command that stood in the cone is one of the steps still
    was_command : (e : ℕ) → is_outside (was e) ≡ false → is_phony (was e) ≡ false → IsCommand earlier.graph.edges (suc e)
    was_command e inside command = sym (at.kinds e inside) ∙ command

    -- an edge that was outside, or is an alias, was not judged
    never_judged : (e : ℕ) → IsCommand task.graph.edges (suc e) → (is_outside (was e) ≡ true) ⊎ (is_phony (was e) ≡ true) → has_number (judged_in steps) (suc e) ≡ false
    never_judged e command kind = elim (cases_Bool (has_number (judged_in steps) (suc e))) [
      | inl judged ↦ absurd (differ (at.inside e (taken.within (suc e) judged)) kind)
      | inr fresh ↦ fresh
    ]
      where
        differ : is_outside (was e) ≡ false → (is_outside (was e) ≡ true) ⊎ (is_phony (was e) ≡ true) → ⊥
        differ inside (inl outside) = false≢true (sym inside ∙ outside)
        differ inside (inr phony) = false≢true (sym (sym (grown.phony (suc e)) ∙ command) ∙ (sym (at.kinds e inside) ∙ phony))

    pub half_grown : IsHalf task new plan.queue steps
    half_grown = record {
      within = λ e inside. elim (grown_cases (was e) (first e)) [
        | inl begins ↦ cone.within e (sym (cone.marked e) ∙ inside_listed (listed e) ((links_of graph).phony e) (sym (ap is_outside (stand.each e ∙ begins.0)) ∙ inside))
        | inr stays ↦ still_in_cone (suc e) (at.within e stays.1)
      ];
      inside = λ e in_cone. elim (grown_cases (was e) (first e)) [
        | inl begins ↦ ap is_outside (stand.each e ∙ begins.0) ∙ listed_inside (listed e) ((links_of graph).phony e) (in_list e in_cone)
        | inr stays ↦ ap is_outside (stand.each e ∙ stays.0) ∙ stays.1
      ];
      kinds = λ e inside. elim (grown_cases (was e) (first e)) [
        | inl begins ↦
            ap is_phony (stand.each e ∙ begins.0)
            ∙ (inside_kind (listed e) ((links_of graph).phony e) (sym (ap is_outside (stand.each e ∙ begins.0)) ∙ inside) ∙ stated.phony e)
        | inr stays ↦ ap is_phony (stand.each e ∙ stays.0) ∙ (at.kinds e stays.1 ∙ sym (grown.phony (suc e)))
      ];
      stands = λ e in_cone command. elim (grown_cases (was e) (first e)) [
        | inl begins ↦
            stand.each e ∙ (begins.0 ∙ (listed_command (listed e) ((links_of graph).phony e) (in_list e in_cone) (stated.phony e ∙ command)
            ∙ sym (fresh_unjudged earlier steps taken (suc e) (never_judged e command begins.1))))
        | inr stays ↦ stand.each e ∙ (stays.0 ∙ at.stands e (at.within e stays.1) (was_command e stays.1 stays.2))
      ];
      settled = λ e settled. elim (grown_cases (was e) (first e)) [
        | inl begins ↦ absurd (false≢true (sym (first_fails is_settled refl refl refl (listed e) ((links_of graph).phony e)) ∙ (sym (ap is_settled (stand.each e ∙ begins.0)) ∙ settled)))
        | inr stays ↦
            let command = was_command e stays.1 stays.2 in
            Done (suc e) (grown.phony (suc e) ∙ command)
            (settled_command earlier.graph.edges (done_in steps) (suc e) command (at.settled e (sym (ap is_settled (stand.each e ∙ stays.0)) ∙ settled)))
      ];
      runs = at.runs;
    }

-- ---- what a caller knows once a file is loaded

pub may_go_on : (before after : Graph) (file : List ℕ) (additions : List Addition) (plan : Plan) → IsPlanOver before plan → 0 < length plan.loads.items → HasLoaded before after file additions → MayGoOn after plan
may_go_on before after file additions plan over some loaded = record {
  before = before;
  over = over;
  some = some;
  edges = loaded.lines;
  paths = let e = length-append before.manifest.paths loaded.added in omega (arith, ap (λ (ps : List (List ℕ)). length ps) loaded.paths, e);
  pools = loaded.pools;
  pool = λ i. elim (cases_named (edge_at (declared_by before).edges i).dyndep file) [
    | inl named ↦ ap (λ (e : Edge). e.pool) (loaded.grown.named i named).2
    | inr other ↦ ap (λ (e : Edge). e.pool) (loaded.grown.others i other)
  ];
}
