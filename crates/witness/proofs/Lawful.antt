-- Lawful schedules, decided by going through the edges at each step.
use Rattle.std.proofs.Common.{◌≡◌, inl, inr, ℕ, nat_lt, ◌&&◌, ◌||◌, not, Bool, true, List, [], ◌∷◌, ◌++◌, length, Some, sym, ◌∙◌}
use Rattle.std.proofs.lemmas.Bool.{false≢true, or_cases, and_parts, ltb-true, lt-ltb, not-true}
use Rattle.model.specs.declared.graph.Edge.{Edge}
use Rattle.model.specs.Graph.{has_number, edge_at, maker, IsCommand}
use Rattle.model.specs.Reading.{IsInCone, needs}
use Rattle.model.specs.Schedule.{Task, Step, Judged, Started, Ended, IsSettled, MayBeJudged, NoneMayBeJudged, NoneMayStart, IsLawfulStep, IsLawfulFrom, judged_in, out_of_date_in, started_in, failed_in, running_in, done_in}
use Rattle.model.specs.Phases.{NoLoadIsDue, IsLawfulPhase, AreUnloadedFrom}
use Rattle.witness.proofs.RichLists.{none_some, every, some_of, every_number, every_path, some_path, below, below_has, if_there, is_there, if_there_at, is_there_at, other_of, at_each}
use Rattle.witness.proofs.Graphs.{numbers, within, command_within, is_flat, settles, settled, is_settled}

-- ---- tests

module _ (task : Task) where
  abbrev es : List Edge
  es = task.graph.edges

  -- the path waits for an edge that is not settled
  abbrev pub waits : List ℕ → List ℕ → Bool
  waits done p = is_there (λ j. not (settles es done j)) (maker es p)

  -- the edge may not be judged: it was, or waits
  abbrev pub is_blocked : List ℕ → List ℕ → ℕ → Bool
  is_blocked judged done i = has_number judged i || some_of (waits done) (needs es task.recorded i)

  abbrev pub all_blocked : List ℕ → List ℕ → List ℕ → Bool
  all_blocked judged done these = every (λ i. (edge_at es i).phony || is_blocked judged done i) these

  -- no further command may start, or all that are out of date were started
  abbrev pub none_starts : List Step → Bool
  none_starts before = not (nat_lt (length (running_in before)) task.jobs) || every (has_number (started_in before)) (out_of_date_in before)

  abbrev pub no_load : List ℕ → Bool
  no_load done = every (λ i. if_there (waits done) (edge_at es i).dyndep) (numbers es)

  abbrev pub is_lawful : List Step → Step → Bool
  is_lawful before (Judged i out_of_date) =
      not (edge_at es i).phony && (not (has_number (judged_in before) i)
      && (every (λ p. if_there (settles es (done_in before)) (maker es p)) (needs es task.recorded i) && all_blocked (judged_in before) (done_in before) (below i)))
  is_lawful before (Started i) =
      all_blocked (judged_in before) (done_in before) (numbers es) && (has_number (out_of_date_in before) i && (not (has_number (started_in before) i)
      && (nat_lt (length (running_in before)) task.jobs && (nat_lt (length (failed_in before)) task.keep
      && every (λ k. not (has_number (out_of_date_in before) k) || has_number (started_in before) k) (below i)))))
  is_lawful before (Ended i well) =
      has_number (running_in before) i && (all_blocked (judged_in before) (done_in before) (numbers es) && none_starts before)

  abbrev pub is_next : List Step → Step → Bool
  is_next before step = no_load (done_in before) && is_lawful before step

  -- ---- what they show

  module _ (flat : is_flat es ≡ true) where
    unsettled : (done : List ℕ) (j : ℕ) → not (settles es done j) ≡ true → IsSettled es done j → ⊥
    unsettled done j test so = false≢true (sym (not-true (settles es done j) test) ∙ is_settled es flat done j so)

    blocked : (before : List Step) (i : ℕ) → is_blocked (judged_in before) (done_in before) i ≡ true → MayBeJudged task before i → ⊥
    blocked before i test may = elim (or_cases (has_number (judged_in before) i) (some_of (waits (done_in before)) (needs es task.recorded i)) test) [
      | inl judged ↦ false≢true (sym may.once ∙ judged)
      | inr waiting ↦
          let one = some_path (waits (done_in before)) (needs es task.recorded i) waiting in
          let by = is_there_at (λ j. not (settles es (done_in before) j)) (maker es one.path) one.passes in
          unsettled (done_in before) by.value by.passes (may.ready one.path one.here by.value by.is)
    ]

    all_are_blocked : (before : List Step) (these : List ℕ) → all_blocked (judged_in before) (done_in before) these ≡ true → (k : ℕ) → has_number these k ≡ true → MayBeJudged task before k → ⊥
    all_are_blocked before these all k here may =
        blocked before k (other_of (edge_at es k).phony (is_blocked (judged_in before) (done_in before) k)
        (every_number (λ i. (edge_at es i).phony || is_blocked (judged_in before) (done_in before) i) these k all here) may.command) may

    pub none_judged : (before : List Step) → all_blocked (judged_in before) (done_in before) (numbers es) ≡ true → NoneMayBeJudged task before
    none_judged before all k may = all_are_blocked before (numbers es) all k (command_within es k may.command) may

    pub none_loads : (before : List Step) → no_load (done_in before) ≡ true → NoLoadIsDue task before
    none_loads before all file due =
        let here = within es (λ (e : Edge). e.dyndep ≡ Some file) (λ is. none_some file is) due.edge due.names in
        let test = if_there_at (waits (done_in before)) (edge_at es due.edge).dyndep file (every_number (λ i. if_there (waits (done_in before)) (edge_at es i).dyndep) (numbers es) due.edge all here) due.names in
        let by = is_there_at (λ j. not (settles es (done_in before) j)) (maker es file) test in
        unsettled (done_in before) by.value by.passes (due.settled by.value by.is)

    module _ (some_jobs : task.jobs ≡ 0 → ⊥) where
      pub none_may_start : (before : List Step) → none_starts before ≡ true → NoneMayStart task before
      none_may_start before test k may = elim (or_cases (not (nat_lt (length (running_in before)) task.jobs)) (every (has_number (started_in before)) (out_of_date_in before)) test) [
        | inl full ↦ elim may.job [
          | inl none ↦ some_jobs none
          | inr room ↦ false≢true (sym (not-true (nat_lt (length (running_in before)) task.jobs) full) ∙ lt-ltb (length (running_in before)) task.jobs room)
        ]
        | inr all ↦ false≢true (sym may.once ∙ every_number (has_number (started_in before)) (out_of_date_in before) k all may.stale)
      ]

      module _ (cone : (i : ℕ) → IsCommand es i → IsInCone es task.recorded task.targets i) (no_pools : (i : ℕ) (name : List ℕ) → (edge_at es i).pool ≡ Some name → ⊥) where
        lawful_at : (before : List Step) (step : Step) → is_lawful before step ≡ true → IsLawfulStep task before step
        lawful_at before (Judged i out_of_date) test =
            let a = and_parts (not (edge_at es i).phony) (not (has_number (judged_in before) i) && (every (λ p. if_there (settles es (done_in before)) (maker es p)) (needs es task.recorded i) && all_blocked (judged_in before) (done_in before) (below i))) test in
            let b = and_parts (not (has_number (judged_in before) i)) (every (λ p. if_there (settles es (done_in before)) (maker es p)) (needs es task.recorded i) && all_blocked (judged_in before) (done_in before) (below i)) a.1 in
            let c = and_parts (every (λ p. if_there (settles es (done_in before)) (maker es p)) (needs es task.recorded i)) (all_blocked (judged_in before) (done_in before) (below i)) b.1 in
            let command = not-true (edge_at es i).phony a.0 in (
              record {
                within = cone i command;
                command = command;
                once = not-true (has_number (judged_in before) i) b.0;
                ready = λ p h j made. settled es flat (done_in before) j
                    (if_there_at (settles es (done_in before)) (maker es p) j (every_path (λ q. if_there (settles es (done_in before)) (maker es q)) (needs es task.recorded i) p c.0 h) made);
              },
              λ k lt may. all_are_blocked before (below i) c.1 k (below_has i k lt) may,
            )
        lawful_at before (Started i) test =
            let lowest = every (λ k. not (has_number (out_of_date_in before) k) || has_number (started_in before) k) (below i) in
            let a = and_parts (all_blocked (judged_in before) (done_in before) (numbers es)) (has_number (out_of_date_in before) i && (not (has_number (started_in before) i) && (nat_lt (length (running_in before)) task.jobs && (nat_lt (length (failed_in before)) task.keep && lowest)))) test in
            let b = and_parts (has_number (out_of_date_in before) i) (not (has_number (started_in before) i) && (nat_lt (length (running_in before)) task.jobs && (nat_lt (length (failed_in before)) task.keep && lowest))) a.1 in
            let c = and_parts (not (has_number (started_in before) i)) (nat_lt (length (running_in before)) task.jobs && (nat_lt (length (failed_in before)) task.keep && lowest)) b.1 in
            let d = and_parts (nat_lt (length (running_in before)) task.jobs) (nat_lt (length (failed_in before)) task.keep && lowest) c.1 in
            let e = and_parts (nat_lt (length (failed_in before)) task.keep) lowest d.1 in (
              none_judged before a.0,
              record {
                stale = b.0;
                once = not-true (has_number (started_in before) i) c.0;
                job = inr (ltb-true (length (running_in before)) task.jobs d.0);
                pool = λ name some. absurd (no_pools i name some);
                keep = inr (ltb-true (length (failed_in before)) task.keep e.0);
              },
              λ k lt may. elim (or_cases (not (has_number (out_of_date_in before) k)) (has_number (started_in before) k)
                  (every_number (λ n. not (has_number (out_of_date_in before) n) || has_number (started_in before) n) (below i) k e.1 (below_has i k lt))) [
                    | inl fresh ↦ false≢true (sym (not-true (has_number (out_of_date_in before) k) fresh) ∙ may.stale)
                    | inr started ↦ false≢true (sym may.once ∙ started)
                  ],
            )
        lawful_at before (Ended i well) test =
            let a = and_parts (has_number (running_in before) i) (all_blocked (judged_in before) (done_in before) (numbers es) && none_starts before) test in
            let b = and_parts (all_blocked (judged_in before) (done_in before) (numbers es)) (none_starts before) a.1 in
            (a.0, none_judged before b.0, none_may_start before b.1)

        lawful_from : (before steps : List Step) → at_each is_next before steps ≡ true → IsLawfulFrom task before steps
        lawful_from before [] all = tt
        lawful_from before (step ∷ steps) all =
            let both = and_parts (is_next before step) (at_each is_next (before ++ step ∷ []) steps) all in
            (lawful_at before step (and_parts (no_load (done_in before)) (is_lawful before step) both.0).1, lawful_from (before ++ step ∷ []) steps both.1)

        unloaded_from : (before steps : List Step) → at_each is_next before steps ≡ true → AreUnloadedFrom task before steps
        unloaded_from before [] all = tt
        unloaded_from before (step ∷ steps) all =
            let both = and_parts (is_next before step) (at_each is_next (before ++ step ∷ []) steps) all in
            (none_loads before (and_parts (no_load (done_in before)) (is_lawful before step) both.0).0, unloaded_from (before ++ step ∷ []) steps both.1)

        pub phase_lawful : (before steps : List Step) → at_each is_next before steps ≡ true → IsLawfulPhase task before steps
        phase_lawful before steps all = record { lawful = lawful_from before steps all; unloaded = unloaded_from before steps all }
