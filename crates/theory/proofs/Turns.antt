-- What may start where nothing runs, and what is settled at the end.
use Rattle.std.proofs.Common.{◌≡◌, ◌⊎◌, inl, inr, ℕ, zero, suc, ◌==◌, not, filter, length, Bool, true, false, List, [], ◌∷◌, ◌++◌, Some, refl, sym, ◌∙◌, ap, subst, arith, append_assoc}
use Rattle.std.proofs.lemmas.Bool.{false≢true, or_left, eq-eqb, and_from, not_from_false}
use Rattle.model.specs.declared.graph.Edge.{Edge}
use Rattle.model.specs.declared.graph.BuildGraph.{BuildGraph}
use Rattle.model.specs.Graph.{has, has_number, edge_at, maker, inputs, depth_of, IsCommand}
use Rattle.model.specs.Reading.{needs, IsInCone}
use Rattle.model.specs.Schedule.{Task, Step, Judged, Started, Ended, judged_in, clean_in, out_of_date_in, started_in, ended_in, well_in, failed_in, running_in, done_in, IsSettled, Done, Alias, IsBelow, is_in_pool, HasPoolRoom, MayStart, NoneMayBeJudged, NoneMayStart}
use Rattle.theory.specs.Order.{AreMakersFirst}
use Rattle.theory.proofs.Lists.{has-left, has_number-left, has_number-right, has_number-cases, has_number-is}
use Rattle.theory.proofs.Steps.{running_is}

-- ---- room for one command

-- where nothing runs, there is room in each pool
pub room_alone : (graph : BuildGraph) (steps : List Step) (i : ℕ) → running_in steps ≡ [] → HasPoolRoom graph steps i
room_alone graph steps i none name is =
    subst (λ (l : List ℕ). IsBelow (length (filter (λ j. is_in_pool name (edge_at graph.edges j).pool) l)) (depth_of graph.pools name)) (sym none) (below (depth_of graph.pools name))
  where
    below : (depth : ℕ) → IsBelow 0 depth
    below zero = inl refl
    below (suc depth) = inr (omega arith)

below_limit : (limit : ℕ) → IsBelow 0 limit
below_limit zero = inl refl
below_limit (suc limit) = inr (omega arith)

-- where nothing runs and nothing failed, an edge that is out of date and was not started may start, whatever the limits
pub may_start_alone : (task : Task) (steps : List Step) (i : ℕ) → has_number (out_of_date_in steps) i ≡ true → has_number (started_in steps) i ≡ false → running_in steps ≡ [] → failed_in steps ≡ [] → MayStart task steps i
may_start_alone task steps i stale fresh idle fine = record {
  stale = stale;
  once = fresh;
  job = subst (λ (l : List ℕ). IsBelow (length l) task.jobs) (sym idle) (below_limit task.jobs);
  pool = room_alone task.graph steps i idle;
  keep = subst (λ (l : List ℕ). IsBelow (length l) task.keep) (sym fine) (below_limit task.keep);
}

-- ---- settled by an order

settled_from : (edges : List Edge) (recorded : ℕ → List (List ℕ)) (done before rest : List ℕ) → ((i : ℕ) → has_number (before ++ rest) i ≡ true → IsCommand edges i → has_number done i ≡ true)
    → ((i : ℕ) → has_number before i ≡ true → IsSettled edges done i) → AreMakersFirst edges recorded before rest → (i : ℕ) → has_number rest i ≡ true → IsSettled edges done i
settled_from edges recorded done before [] commands settled order i h = absurd (false≢true h)
settled_from edges recorded done before (j ∷ rest) commands settled order i h = elim (has_number-cases (j ∷ []) rest i h) [
  | inl here ↦ subst (λ (n : ℕ). IsSettled edges done n) (has_number-is j i here) now
  | inr later ↦ settled_from edges recorded done (before ++ j ∷ []) rest (λ k within. commands k (subst (λ (l : List ℕ). has_number l k ≡ true) (append_assoc before (j ∷ []) rest) within)) next order.1 i later
]
  where
    by_phony : (b : Bool) → (edge_at edges j).phony ≡ b → IsSettled edges done j
    by_phony true phony = Alias j phony (λ p k input is. settled k (order.0 p k (has-left (inputs (edge_at edges j)) (recorded j) p input) is))
    by_phony false command = Done j command (commands j (has_number-right before (j ∷ rest) j (or_left (j == j) (has_number rest j) (eq-eqb j j refl))) command)

    now : IsSettled edges done j
    now = by_phony (edge_at edges j).phony refl

    next : (k : ℕ) → has_number (before ++ j ∷ []) k ≡ true → IsSettled edges done k
    next k within = elim (has_number-cases before (j ∷ []) k within) [
      | inl old ↦ settled k old
      | inr new ↦ subst (λ (n : ℕ). IsSettled edges done n) (has_number-is j k new) now
    ]

-- edges of which the makers come first are settled where the commands among them are done
pub settled_by_order : (edges : List Edge) (recorded : ℕ → List (List ℕ)) (done order : List ℕ) → AreMakersFirst edges recorded [] order
    → ((i : ℕ) → has_number order i ≡ true → IsCommand edges i → has_number done i ≡ true) → (i : ℕ) → has_number order i ≡ true → IsSettled edges done i
settled_by_order edges recorded done order makers commands i h =
    settled_from edges recorded done [] order commands (λ j none. absurd (false≢true none)) makers i h

-- the makers of what a listed edge needs are listed
pub makers_within : (edges : List Edge) (recorded : ℕ → List (List ℕ)) (before rest : List ℕ) → AreMakersFirst edges recorded before rest
    → (i : ℕ) → has_number rest i ≡ true → (p : List ℕ) (j : ℕ) → has (needs edges recorded i) p ≡ true → maker edges p ≡ Some j → has_number (before ++ rest) j ≡ true
makers_within edges recorded before [] order i h p j need is = absurd (false≢true h)
makers_within edges recorded before (k ∷ rest) order i h p j need is = elim (has_number-cases (k ∷ []) rest i h) [
  | inl here ↦ has_number-left before (k ∷ rest) j (order.0 p j (subst (λ (n : ℕ). has (needs edges recorded n) p ≡ true) (sym (has_number-is k i here)) need) is)
  | inr later ↦ subst (λ (l : List ℕ). has_number l j ≡ true) (append_assoc before (k ∷ []) rest) (makers_within edges recorded (before ++ k ∷ []) rest order.1 i later p j need is)
]

-- ---- the end of a build

module _ (task : Task) (steps : List Step) (unjudged : NoneMayBeJudged task steps) (unstarted : NoneMayStart task steps) (idle : running_in steps ≡ []) (fine : failed_in steps ≡ []) where
  -- an edge out of date was started, has ended, and ended well
  out_of_date_done : (i : ℕ) → has_number (out_of_date_in steps) i ≡ true → has_number (well_in steps) i ≡ true
  out_of_date_done i stale = by_started (has_number (started_in steps) i) refl
    where
      by_ended : (b : Bool) → has_number (ended_in steps) i ≡ b → has_number (started_in steps) i ≡ true → has_number (well_in steps) i ≡ true
      by_ended true ended was = well_or_failed (ended_either steps i ended)
        where
          ended_either : (steps : List Step) (i : ℕ) → has_number (ended_in steps) i ≡ true → (has_number (well_in steps) i ≡ true) ⊎ (has_number (failed_in steps) i ≡ true)
          ended_either [] i h = absurd (false≢true h)
          ended_either (Judged j b ∷ steps) i h = ended_either steps i h
          ended_either (Started j ∷ steps) i h = ended_either steps i h
          ended_either (Ended j true ∷ steps) i h = elim (has_number-cases (j ∷ []) (ended_in steps) i h) [
            | inl here ↦ inl (has_number-left (j ∷ []) (well_in steps) i here)
            | inr there ↦ elim (ended_either steps i there) [
              | inl well ↦ inl (has_number-right (j ∷ []) (well_in steps) i well)
              | inr failed ↦ inr failed
            ]
          ]
          ended_either (Ended j false ∷ steps) i h = elim (has_number-cases (j ∷ []) (ended_in steps) i h) [
            | inl here ↦ inr (has_number-left (j ∷ []) (failed_in steps) i here)
            | inr there ↦ elim (ended_either steps i there) [
              | inl well ↦ inl well
              | inr failed ↦ inr (has_number-right (j ∷ []) (failed_in steps) i failed)
            ]
          ]

          well_or_failed : (has_number (well_in steps) i ≡ true) ⊎ (has_number (failed_in steps) i ≡ true) → has_number (well_in steps) i ≡ true
          well_or_failed (inl well) = well
          well_or_failed (inr failed) = absurd (false≢true (subst (λ (l : List ℕ). has_number l i ≡ true) fine failed))
      by_ended false runs was =
          absurd (false≢true (ap (λ (l : List ℕ). has_number l i) (sym idle) ∙ (running_is steps i ∙ and_from (has_number (started_in steps) i) (not (has_number (ended_in steps) i)) was (not_from_false (has_number (ended_in steps) i) runs))))

      by_started : (b : Bool) → has_number (started_in steps) i ≡ b → has_number (well_in steps) i ≡ true
      by_started true was = by_ended (has_number (ended_in steps) i) refl was
      by_started false fresh = absurd (unstarted i (may_start_alone task steps i stale fresh idle fine))

  judged_done : (i : ℕ) → has_number (judged_in steps) i ≡ true → has_number (done_in steps) i ≡ true
  judged_done i h = elim (judged_either steps i h) [
    | inl clean ↦ has_number-left (clean_in steps) (well_in steps) i clean
    | inr stale ↦ has_number-right (clean_in steps) (well_in steps) i (out_of_date_done i stale)
  ]
    where
      judged_either : (steps : List Step) (i : ℕ) → has_number (judged_in steps) i ≡ true → (has_number (clean_in steps) i ≡ true) ⊎ (has_number (out_of_date_in steps) i ≡ true)
      judged_either [] i h = absurd (false≢true h)
      judged_either (Judged j true ∷ steps) i h = elim (has_number-cases (j ∷ []) (judged_in steps) i h) [
        | inl here ↦ inr (has_number-left (j ∷ []) (out_of_date_in steps) i here)
        | inr there ↦ elim (judged_either steps i there) [
          | inl clean ↦ inl clean
          | inr stale ↦ inr (has_number-right (j ∷ []) (out_of_date_in steps) i stale)
        ]
      ]
      judged_either (Judged j false ∷ steps) i h = elim (has_number-cases (j ∷ []) (judged_in steps) i h) [
        | inl here ↦ inl (has_number-left (j ∷ []) (clean_in steps) i here)
        | inr there ↦ elim (judged_either steps i there) [
          | inl clean ↦ inl (has_number-right (j ∷ []) (clean_in steps) i clean)
          | inr stale ↦ inr stale
        ]
      ]
      judged_either (Started j ∷ steps) i h = judged_either steps i h
      judged_either (Ended j w ∷ steps) i h = judged_either steps i h

  end_from : (before rest : List ℕ) → ((i : ℕ) → has_number (before ++ rest) i ≡ true → IsInCone task.graph.edges task.recorded task.targets i) → ((i : ℕ) → has_number before i ≡ true → IsSettled task.graph.edges (done_in steps) i)
      → AreMakersFirst task.graph.edges task.recorded before rest → (i : ℕ) → has_number rest i ≡ true → IsSettled task.graph.edges (done_in steps) i
  end_from before [] cone settled order i h = absurd (false≢true h)
  end_from before (j ∷ rest) cone settled order i h = elim (has_number-cases (j ∷ []) rest i h) [
    | inl here ↦ subst (λ (n : ℕ). IsSettled task.graph.edges (done_in steps) n) (has_number-is j i here) now
    | inr later ↦ end_from (before ++ j ∷ []) rest (λ k within. cone k (subst (λ (l : List ℕ). has_number l k ≡ true) (append_assoc before (j ∷ []) rest) within)) next order.1 i later
  ]
    where
      by_judged : (b : Bool) → has_number (judged_in steps) j ≡ b → (edge_at task.graph.edges j).phony ≡ false → has_number (done_in steps) j ≡ true
      by_judged true was command = judged_done j was
      by_judged false fresh command = absurd (unjudged j record {
        within = cone j (has_number-right before (j ∷ rest) j (or_left (j == j) (has_number rest j) (eq-eqb j j refl)));
        command = command;
        once = fresh;
        ready = λ p need k is. settled k (order.0 p k need is);
      })

      by_phony : (b : Bool) → (edge_at task.graph.edges j).phony ≡ b → IsSettled task.graph.edges (done_in steps) j
      by_phony true phony = Alias j phony (λ p k input is. settled k (order.0 p k (has-left (inputs (edge_at task.graph.edges j)) (task.recorded j) p input) is))
      by_phony false command = Done j command (by_judged (has_number (judged_in steps) j) refl command)

      now : IsSettled task.graph.edges (done_in steps) j
      now = by_phony (edge_at task.graph.edges j).phony refl

      next : (k : ℕ) → has_number (before ++ j ∷ []) k ≡ true → IsSettled task.graph.edges (done_in steps) k
      next k within = elim (has_number-cases before (j ∷ []) k within) [
        | inl old ↦ settled k old
        | inr new ↦ subst (λ (n : ℕ). IsSettled task.graph.edges (done_in steps) n) (has_number-is j k new) now
      ]

  -- Where nothing may be judged or started, nothing runs and nothing failed, each edge of the cone is settled, if the cone can
  -- be listed with makers first.
  pub settled_at_end : (order : List ℕ) → AreMakersFirst task.graph.edges task.recorded [] order → ((i : ℕ) → has_number order i ≡ true → IsInCone task.graph.edges task.recorded task.targets i)
      → (i : ℕ) → has_number order i ≡ true → IsSettled task.graph.edges (done_in steps) i
  settled_at_end order makers cone i h = end_from [] order cone (λ j none. absurd (false≢true none)) makers i h
