-- The four builds of the history.
use Rattle.std.proofs.Common.{◌≡◌, inl, inr, ℕ, ◌==◌, Bool, true, false, List, [], ◌∷◌, ◌++◌, Option, Some, None, take, drop, refl, sym, subst}
use Rattle.std.proofs.lemmas.Bool.{false≢true, cases_Bool}
use Rattle.std.specs.Prelude.{codes}
use Rattle.std.specs.List.{AllByRecursion}
use Rattle.model.specs.declared.event.Event.TheVariants.{Start, Finish}
use Rattle.model.specs.declared.fault.SiteFault.TheVariants.{Stopped}
use Rattle.model.specs.World.{view_of, IsIdle}
use Rattle.model.specs.Graph.{Addition, has_number}
use Rattle.model.specs.Outcome.{Behaviour}
use Rattle.model.specs.Records.{Store, LogFormat, OwnFiles, IsOwnIn, tick_name, recorded_inputs}
use Rattle.model.specs.OutOfDate.{IsVerdict}
use Rattle.model.specs.Schedule.{Step, Judged, Started, Ended, IsSettled, Done, done_in}
use Rattle.model.specs.SingleBuild.{SingleBuild, Success, Failed, Fault, InCone, IsOfBuild, MayChange}
use Rattle.log_text.specs.DepsFormat.{ReadsLogs}
use Rattle.witness.specs.Scanning.{cat, scan, edges, asked, toys}
use Rattle.witness.specs.Worlds.{failing, stopping, succeeding, again, named, failed_events, failed, edited, stopped, restarted_world, built_events, built, edited_again, more_events, last}
use Rattle.witness.proofs.MetLists.{none_some}
use Rattle.witness.proofs.Given.{ReadsNames}
use Rattle.witness.proofs.TwoEdges.{in_cone, counts_g, counts_all, no_load, judged_both, started_all, first_judged, first_started, first_ended, second_judged, second_started, second_ended, alone_started, alone_ended}
use Rattle.witness.proofs.TwoBuilt.{written_in, ready_cat, ready_scan, h_is, b_is, some_moment, untouched_at, untouched_still, frame_of, behind_tick, ticked_of, clean_first, ends_of, read_of, judged_of, in_one_phase, in_order, was_in_order}
use Rattle.witness.proofs.Between.{no_store, failed_store, stopped_store, built_store, at_named, at_edited, at_stopped, at_edited_again, failing_steps, stopping_steps, good_steps, all_steps, failing_ends, stopping_ends, succeeding_ends, again_ends}

pub some_none : {A : Type 0} (x : A) → Some x ≡ None → ⊥
some_none x e = cc

pub not_none : {A : Type 0} (x : A) → x ∷ [] ≡ [] → ⊥
not_none x e = cc

-- ---- commands that run

pub ended : (job stamp : ℕ) (ok : Bool) → IsIdle (Start job scan stamp ∷ Finish job ok ∷ [])
ended job stamp ok other = elim (cases_Bool (job == other)) [ inl here ↦ rw here refl | inr differs ↦ rw differs refl ]

pub both_ended : (stamp later : ℕ) (ok : Bool) → IsIdle (Start 1 cat stamp ∷ Finish 1 true ∷ Start 2 scan later ∷ Finish 2 ok ∷ [])
both_ended stamp later ok job = elim (cases_Bool (2 == job)) [
  | inl here ↦ rw here refl
  | inr differs ↦ elim (cases_Bool (1 == job)) [ inl one ↦ rw differs (rw one refl) | inr other ↦ rw differs (rw other refl) ]
]

pub all_ended : (stamp later last : ℕ) → IsIdle (Start 2 scan stamp ∷ Finish 2 true ∷ Start 1 cat later ∷ Finish 1 true ∷ Start 2 scan last ∷ Finish 2 true ∷ [])
all_ended stamp later last job = elim (cases_Bool (2 == job)) [
  | inl here ↦ rw here refl
  | inr differs ↦ elim (cases_Bool (1 == job)) [ inl one ↦ rw differs (rw one refl) | inr other ↦ rw differs (rw other refl) ]
]

-- ---- who writes what

module _ (all : OwnFiles) (fits : IsOwnIn all []) where
  pub failing_writes : AllByRecursion (IsOfBuild all edges failing_steps) failing
  failing_writes = (inl fits.is_log, (inl fits.is_log, (inl fits.tick, (tt, (refl, (tt, (inl fits.is_log, (inl fits.is_log, (inr (inl (2, refl, refl, refl)), (inl fits.tick, (tt, (tt, tt))))))))))))

  pub failing_changes : AllByRecursion (MayChange all edges failing_steps) (written_in failing)
  failing_changes = (inl fits.is_log, (inl fits.is_log, (inl fits.tick, (inr (inl (1, refl, refl)), (inl fits.is_log, (inl fits.is_log, (inr (inr (inl (2, refl, refl))), (inl fits.tick, tt))))))))

  pub stopping_writes : AllByRecursion (IsOfBuild all edges stopping_steps) stopping
  stopping_writes = (inl fits.is_log, (inr (inl (2, refl, refl, refl)), (inl fits.tick, (tt, (refl, (refl, tt))))))

  pub stopping_changes : AllByRecursion (MayChange all edges stopping_steps) (written_in stopping)
  stopping_changes = (inl fits.is_log, (inr (inr (inl (2, refl, refl))), (inl fits.tick, (inr (inl (2, refl, refl)), (inr (inr (inl (2, refl, refl))), tt)))))

  pub succeeding_writes : AllByRecursion (IsOfBuild all edges good_steps) succeeding
  succeeding_writes = (inl fits.is_log, (inr (inl (2, refl, refl, refl)), (inl fits.tick, (tt, (refl, (refl, (tt, (inl fits.is_deps, (inl fits.is_deps, (inl fits.is_log, (inr (inl (2, refl, refl, refl)), tt)))))))))))

  pub succeeding_changes : AllByRecursion (MayChange all edges good_steps) (written_in succeeding)
  succeeding_changes = (inl fits.is_log, (inr (inr (inl (2, refl, refl))), (inl fits.tick, (inr (inl (2, refl, refl)), (inr (inr (inl (2, refl, refl))), (inl fits.is_deps, (inl fits.is_deps, (inl fits.is_log, (inr (inr (inl (2, refl, refl))), tt)))))))))

  pub again_writes : AllByRecursion (IsOfBuild all edges all_steps) again
  again_writes = (inl fits.is_log, (inl fits.tick, (tt, (refl, (tt, (inl fits.is_log, (inl fits.is_log, (inr (inl (2, refl, refl, refl)), (inl fits.tick, (tt, (refl, (refl, (tt, (inl fits.is_deps, (inl fits.is_log, (inr (inl (2, refl, refl, refl)), tt))))))))))))))))

  pub again_changes : AllByRecursion (MayChange all edges all_steps) (written_in again)
  again_changes = (inl fits.is_log, (inl fits.tick, (inr (inl (1, refl, refl)), (inl fits.is_log, (inl fits.is_log, (inr (inr (inl (2, refl, refl))), (inl fits.tick, (inr (inl (2, refl, refl)), (inr (inr (inl (2, refl, refl))), (inl fits.is_deps, (inl fits.is_log, (inr (inr (inl (2, refl, refl))), tt))))))))))))

-- ---- verdicts

-- the outputs are absent
pub h_absent : IsVerdict edges no_store [] named.history failed.history 1 true
h_absent = record { read = codes "g" ∷ []; counted = counts_g no_store [] refl refl tt failed.history; verdict = refl }

-- and that of the second, which waited for the first
pub b_absent : IsVerdict edges no_store (1 ∷ []) named.history failed.history 2 true
b_absent = record { read = codes "a" ∷ []; counted = counts_all no_store [] refl refl tt failed.history; verdict = refl }

-- the first command is not out of date
pub h_clean : IsVerdict edges failed_store [] edited.history stopped.history 1 false
h_clean = record { read = codes "g" ∷ []; counted = counts_g failed_store [] refl refl tt stopped.history; verdict = refl }

-- the output of the second is absent
pub b_absent_still : IsVerdict edges failed_store [] edited.history stopped.history 2 true
b_absent_still = record { read = codes "a" ∷ []; counted = counts_all failed_store [] refl refl tt stopped.history; verdict = refl }

-- the first command is not out of date
pub h_clean_still : IsVerdict edges stopped_store [] restarted_world.history built.history 1 false
h_clean_still = record { read = codes "g" ∷ []; counted = counts_g stopped_store [] refl refl tt built.history; verdict = refl }

-- no record is in force for the output that is there
pub b_unknown : IsVerdict edges stopped_store [] restarted_world.history built.history 2 true
b_unknown = record { read = codes "a" ∷ []; counted = counts_all stopped_store [] refl refl tt built.history; verdict = refl }

-- its input is later than its start
pub h_later : IsVerdict edges built_store [] edited_again.history last.history 1 true
h_later = record { read = codes "g" ∷ []; counted = counts_g built_store (codes "h" ∷ []) refl refl (refl, tt) last.history; verdict = refl }

-- what it told was made anew, which is no input that counts
pub b_changed : IsVerdict edges built_store (1 ∷ []) edited_again.history last.history 2 true
b_changed = record { read = codes "a" ∷ codes "h" ∷ []; counted = counts_all built_store (codes "h" ∷ []) refl refl (refl, tt) last.history; verdict = refl }

pub settled : (store : Store) (extra : List (List ℕ)) (first_none : recorded_inputs store edges 1 ≡ []) (recorded_is : recorded_inputs store edges 2 ≡ extra)
    (all_h : AllByRecursion (λ p. p ≡ codes "h") extra) (steps : List Step)
    → has_number (done_in steps) 1 ≡ true → has_number (done_in steps) 2 ≡ true → (i : ℕ) → InCone asked store i → IsSettled edges (done_in steps) i
settled store extra first_none recorded_is all_h steps first second i within = elim (in_cone store extra first_none recorded_is all_h i within) [
  | inl one ↦ subst (λ (n : ℕ). IsSettled edges (done_in steps) n) (sym one) (Done 1 refl first)
  | inr two ↦ subst (λ (n : ℕ). IsSettled edges (done_in steps) n) (sym two) (Done 2 refl second)
]

-- ---- the builds

module _ (reading : List ℕ → Option (List (List ℕ))) (dyndep : List ℕ → Option (List Addition)) (reads : ReadsNames reading) (format : LogFormat) (reads_logs : ReadsLogs format) where
  abbrev B : Behaviour
  B = toys reading dyndep

  abbrev pub failing_build : (all : OwnFiles) → IsOwnIn all asked.folder → SingleBuild true B format all asked named failed (Failed (codes "b" ∷ []))
  failing_build all fits = record {
    store = no_store;
    logs = λ tells unedited. at_named format reads_logs all fits;
    texts = λ p. None;
    held = λ tells kept file content bound is _. absurd (none_some content is);
    held_then = λ tells. (tt, λ next load. absurd (none_some load.content load.holds));
    steps = failing_steps;
    schedule = record {
      lawful = in_one_phase reading dyndep no_store [] refl refl tt (λ p. None) failing_steps (
        first_judged no_store [] refl refl tt true,
        (
          first_started no_store [] refl refl tt,
          (
            first_ended no_store [] refl refl tt,
            (
              second_judged no_store [] refl refl tt (Judged 1 true ∷ Started 1 ∷ Ended 1 true ∷ []) refl refl refl,
              (second_started no_store [] refl refl tt, (second_ended no_store [] refl refl tt false, tt)),
            ),
          ),
        ),
      );
      first = failed_events;
      later = [];
      grows = refl;
      of_steps = (refl, refl, (refl, (λ well. well, λ none. refl), (refl, refl, (refl, (λ well. well, λ none. refl), tt))));
      finishes = tt;
      whole = λ none. refl;
      went_on = λ went. refl;
    };
    met = None;
    met_fault = λ i is. absurd (none_some i is);
    ended_then = λ tells. read_of reading dyndep no_store [] refl refl tt failing_steps named.history failing (failing_ends reading dyndep reads);
    ended = λ tells kept. ends_of reading dyndep no_store [] refl refl tt failing_steps named.history failing (failing_ends reading dyndep reads);
    judged_then = λ tells kept apart. (tt, ((record { at = named.history ++ take 0 failing; moment = record { so_far = take 0 failing; later = drop 0 failing; is = refl; grows = refl; happened = refl }; right = λ unread. record { read = codes "g" ∷ []; counted = counts_g no_store [] refl refl tt (named.history ++ take 0 failing); verdict = refl } }), ((record { at = named.history ++ take 6 failing; moment = record { so_far = take 6 failing; later = drop 6 failing; is = refl; grows = refl; happened = refl }; right = λ unread. record { read = codes "a" ∷ []; counted = counts_all no_store [] refl refl tt (named.history ++ take 6 failing); verdict = refl } }), tt)));
    judged = λ tells kept apart known. judged_of reading dyndep no_store [] refl refl tt kept.free failing_steps named.history failing (h_absent, (tt, (tt, (b_absent, (tt, (tt, tt)))))) (failing_ends reading dyndep reads);
    clean = λ tells kept i h stale. false≢true h;
    answers = (
      in_order reading dyndep no_store [] refl refl tt all named failed (λ none. some_none _ none) (λ none. some_none _ none),
      record {
        idle = both_ended 6 11 false;
        judged = judged_both no_store [] refl refl tt failing_steps refl refl;
        started = started_all no_store [] refl refl tt failing_steps refl;
        loaded = no_load no_store [] refl refl tt failing_steps;
      },
      refl,
      λ none. not_none 2 none,
    );
    in_order = inr (was_in_order reading dyndep no_store [] refl refl tt all named failed (λ none. some_none _ none) (λ none. some_none _ none) failing_steps);
    faults = record { refused = λ none. refl; starts = inl refl; stopped = λ stop. absurd (false≢true stop); earlier = refl };
    idle = λ none. both_ended 6 11 false;
    taken_in = λ going unrefused. both_ended 6 11 false;
    frame = λ tells.
        frame_of all failing_steps named.history failing (failing_writes all fits) (failing_changes all fits) (
          tt,
          (
            tt,
            (
              tt,
              (
                (h_is named.history (named.history ++ take 3 failing) refl, ready_cat _),
                (tt, (tt, (tt, (tt, (tt, (tt, ((b_is named.history (named.history ++ take 10 failing) refl, ready_scan _ refl), (tt, tt)))))))),
              ),
            ),
          ),
        ) (
          untouched_still named.history failing [] 1 true refl,
          (
            tt,
            (
              tt,
              (
                untouched_at named.history (take 6 failing) (drop 6 failing) (Judged 1 true ∷ Started 1 ∷ Ended 1 true ∷ []) refl (not_none 1)
                    (some_moment _ _, (some_moment _ _, (some_moment _ _, (some_moment _ _, tt)))) refl refl,
                (tt, (tt, tt)),
              ),
            ),
          ),
        );
    ticked = λ tells. ticked_of named.history failing (tt, (tt, (tt, (behind_tick (take 2 failing) tick_name [] 6, (tt, (tt, (tt, (tt, (tt, (tt, (behind_tick (take 9 failing) tick_name [] 11, (tt, tt))))))))))));
    from_nothing = λ tells success. absurd success;
  }

  abbrev pub stopping_build : (all : OwnFiles) → IsOwnIn all asked.folder → SingleBuild true B format all asked edited stopped (Fault Stopped)
  stopping_build all fits = record {
    store = failed_store;
    logs = λ tells unedited. at_edited format reads_logs all fits;
    texts = λ p. None;
    held = λ tells kept file content bound is _. absurd (none_some content is);
    held_then = λ tells. (tt, λ next load. absurd (none_some load.content load.holds));
    steps = stopping_steps;
    schedule = record {
      lawful = in_one_phase reading dyndep failed_store [] refl refl tt (λ p. None) stopping_steps
          (first_judged failed_store [] refl refl tt false, (second_judged failed_store [] refl refl tt (Judged 1 false ∷ []) refl refl refl, (alone_started failed_store [] refl refl tt, tt)));
      first = Start 2 scan 15 ∷ [];
      later = [];
      grows = refl;
      of_steps = (refl, refl, tt);
      finishes = tt;
      whole = λ none. refl;
      went_on = λ went. refl;
    };
    met = None;
    met_fault = λ i is. absurd (none_some i is);
    ended_then = λ tells. read_of reading dyndep failed_store [] refl refl tt stopping_steps edited.history stopping (stopping_ends reading dyndep reads);
    ended = λ tells kept. ends_of reading dyndep failed_store [] refl refl tt stopping_steps edited.history stopping (stopping_ends reading dyndep reads);
    judged_then = λ tells kept apart. (tt, ((record { at = edited.history ++ take 0 stopping; moment = record { so_far = take 0 stopping; later = drop 0 stopping; is = refl; grows = refl; happened = refl }; right = λ unread. record { read = codes "g" ∷ []; counted = counts_g failed_store [] refl refl tt (edited.history ++ take 0 stopping); verdict = refl } }), ((record { at = edited.history ++ take 0 stopping; moment = record { so_far = take 0 stopping; later = drop 0 stopping; is = refl; grows = refl; happened = refl }; right = λ unread. record { read = codes "a" ∷ []; counted = counts_all failed_store [] refl refl tt (edited.history ++ take 0 stopping); verdict = refl } }), tt)));
    judged = λ tells kept apart known. judged_of reading dyndep failed_store [] refl refl tt kept.free stopping_steps edited.history stopping (h_clean, (b_absent_still, (tt, tt))) (stopping_ends reading dyndep reads);
    clean = λ tells kept i h stale. clean_first failed_store edited.history refl i h stale;
    answers = refl;
    in_order = inr (was_in_order reading dyndep failed_store [] refl refl tt all edited stopped (λ none. some_none _ none) (λ none. some_none _ none) stopping_steps);
    faults = record { refused = λ none. refl; starts = inl refl; stopped = λ stop. refl; earlier = refl };
    idle = λ none. absurd (false≢true (sym none));
    taken_in = λ going. absurd (false≢true (sym going));
    frame = λ tells.
        frame_of all stopping_steps edited.history stopping (stopping_writes all fits) (stopping_changes all fits)
        (tt, (tt, (tt, ((b_is edited.history (edited.history ++ take 3 stopping) refl, ready_scan _ refl), (tt, (tt, tt))))))
        (untouched_still edited.history stopping [] 1 false refl, (untouched_still edited.history stopping (Judged 1 false ∷ []) 2 true refl, (tt, tt)));
    ticked = λ tells. ticked_of edited.history stopping (tt, (tt, (tt, (behind_tick (take 2 stopping) tick_name [] 15, (tt, (tt, tt))))));
    from_nothing = λ tells success. absurd success;
  }

  abbrev pub succeeding_build : (all : OwnFiles) → IsOwnIn all asked.folder → SingleBuild true B format all asked restarted_world built (Success 1)
  succeeding_build all fits = record {
    store = stopped_store;
    logs = λ tells unedited. at_stopped format reads_logs all fits;
    texts = λ p. None;
    held = λ tells kept file content bound is _. absurd (none_some content is);
    held_then = λ tells. (tt, λ next load. absurd (none_some load.content load.holds));
    steps = good_steps;
    schedule = record {
      lawful = in_one_phase reading dyndep stopped_store [] refl refl tt (λ p. None) good_steps (
        first_judged stopped_store [] refl refl tt false,
        (
          second_judged stopped_store [] refl refl tt (Judged 1 false ∷ []) refl refl refl,
          (alone_started stopped_store [] refl refl tt, (alone_ended stopped_store [] refl refl tt true, tt)),
        ),
      );
      first = built_events;
      later = [];
      grows = refl;
      of_steps = (refl, refl, (refl, (λ well. well, λ none. refl), tt));
      finishes = tt;
      whole = λ none. refl;
      went_on = λ went. refl;
    };
    met = None;
    met_fault = λ i is. absurd (none_some i is);
    ended_then = λ tells. read_of reading dyndep stopped_store [] refl refl tt good_steps restarted_world.history succeeding (succeeding_ends reading dyndep reads);
    ended = λ tells kept. ends_of reading dyndep stopped_store [] refl refl tt good_steps restarted_world.history succeeding (succeeding_ends reading dyndep reads);
    judged_then = λ tells kept apart. (tt, ((record { at = restarted_world.history ++ take 0 succeeding; moment = record { so_far = take 0 succeeding; later = drop 0 succeeding; is = refl; grows = refl; happened = refl }; right = λ unread. record { read = codes "g" ∷ []; counted = counts_g stopped_store [] refl refl tt (restarted_world.history ++ take 0 succeeding); verdict = refl } }), ((record { at = restarted_world.history ++ take 0 succeeding; moment = record { so_far = take 0 succeeding; later = drop 0 succeeding; is = refl; grows = refl; happened = refl }; right = λ unread. record { read = codes "a" ∷ []; counted = counts_all stopped_store [] refl refl tt (restarted_world.history ++ take 0 succeeding); verdict = refl } }), tt)));
    judged = λ tells kept apart known. judged_of reading dyndep stopped_store [] refl refl tt kept.free good_steps restarted_world.history succeeding (h_clean_still, (b_unknown, (tt, (tt, tt)))) (succeeding_ends reading dyndep reads);
    clean = λ tells kept i h stale. clean_first stopped_store restarted_world.history refl i h stale;
    answers = (
      in_order reading dyndep stopped_store [] refl refl tt all restarted_world built (λ none. some_none _ none) (λ none. some_none _ none),
      record {
        idle = ended 2 20 true;
        judged = judged_both stopped_store [] refl refl tt good_steps refl refl;
        started = started_all stopped_store [] refl refl tt good_steps refl;
        loaded = no_load stopped_store [] refl refl tt good_steps;
      },
      settled stopped_store [] refl refl tt good_steps refl refl,
      refl,
      refl,
    );
    in_order = inr (was_in_order reading dyndep stopped_store [] refl refl tt all restarted_world built (λ none. some_none _ none) (λ none. some_none _ none) good_steps);
    faults = record { refused = λ none. refl; starts = inl refl; stopped = λ stop. absurd (false≢true stop); earlier = refl };
    idle = λ none. ended 2 20 true;
    taken_in = λ going unrefused. ended 2 20 true;
    frame = λ tells.
        frame_of all good_steps restarted_world.history succeeding (succeeding_writes all fits) (succeeding_changes all fits)
        (tt, (tt, (tt, ((b_is restarted_world.history (restarted_world.history ++ take 3 succeeding) refl, ready_scan _ refl), (tt, (tt, (tt, (tt, (tt, (tt, (tt, tt)))))))))))
        (untouched_still restarted_world.history succeeding [] 1 false refl, (untouched_still restarted_world.history succeeding (Judged 1 false ∷ []) 2 true refl, (tt, (tt, tt))));
    ticked = λ tells. ticked_of restarted_world.history succeeding (tt, (tt, (tt, (behind_tick (take 2 succeeding) tick_name [] 20, (tt, (tt, (tt, (tt, (tt, (tt, (tt, tt)))))))))));
    from_nothing = λ tells success nothing premises.
        absurd (some_none _ (subst (λ (p : List ℕ). view_of restarted_world.history p ≡ None) fits.build_log nothing.build_log));
  }

  abbrev pub building_again : (all : OwnFiles) → IsOwnIn all asked.folder → SingleBuild true B format all asked edited_again last (Success 2)
  building_again all fits = record {
    store = built_store;
    logs = λ tells unedited. at_edited_again format reads_logs all fits;
    texts = λ p. None;
    held = λ tells kept file content bound is _. absurd (none_some content is);
    held_then = λ tells. (tt, λ next load. absurd (none_some load.content load.holds));
    steps = all_steps;
    schedule = record {
      lawful = in_one_phase reading dyndep built_store (codes "h" ∷ []) refl refl (refl, tt) (λ p. None) all_steps (
        first_judged built_store (codes "h" ∷ []) refl refl (refl, tt) true,
        (
          first_started built_store (codes "h" ∷ []) refl refl (refl, tt),
          (
            first_ended built_store (codes "h" ∷ []) refl refl (refl, tt),
            (
              second_judged built_store (codes "h" ∷ []) refl refl (refl, tt) (Judged 1 true ∷ Started 1 ∷ Ended 1 true ∷ []) refl refl refl,
              (
                second_started built_store (codes "h" ∷ []) refl refl (refl, tt),
                (second_ended built_store (codes "h" ∷ []) refl refl (refl, tt) true, tt),
              ),
            ),
          ),
        ),
      );
      first = more_events;
      later = [];
      grows = refl;
      of_steps = (refl, refl, (refl, (λ well. well, λ none. refl), (refl, refl, (refl, (λ well. well, λ none. refl), tt))));
      finishes = tt;
      whole = λ none. refl;
      went_on = λ went. refl;
    };
    met = None;
    met_fault = λ i is. absurd (none_some i is);
    ended_then = λ tells. read_of reading dyndep built_store (codes "h" ∷ []) refl refl (refl, tt) all_steps edited_again.history again (again_ends reading dyndep reads);
    ended = λ tells kept. ends_of reading dyndep built_store (codes "h" ∷ []) refl refl (refl, tt) all_steps edited_again.history again (again_ends reading dyndep reads);
    judged_then = λ tells kept apart. (tt, ((record { at = edited_again.history ++ take 0 again; moment = record { so_far = take 0 again; later = drop 0 again; is = refl; grows = refl; happened = refl }; right = λ unread. record { read = codes "g" ∷ []; counted = counts_g built_store (codes "h" ∷ []) refl refl (refl, tt) (edited_again.history ++ take 0 again); verdict = refl } }), ((record { at = edited_again.history ++ take 5 again; moment = record { so_far = take 5 again; later = drop 5 again; is = refl; grows = refl; happened = refl }; right = λ unread. record { read = codes "a" ∷ codes "h" ∷ []; counted = counts_all built_store (codes "h" ∷ []) refl refl (refl, tt) (edited_again.history ++ take 5 again); verdict = refl } }), tt)));
    judged = λ tells kept apart known. judged_of reading dyndep built_store (codes "h" ∷ []) refl refl (refl, tt) kept.free all_steps edited_again.history again (h_later, (tt, (tt, (b_changed, (tt, (tt, tt)))))) (again_ends reading dyndep reads);
    clean = λ tells kept i h stale. false≢true h;
    answers = (
      in_order reading dyndep built_store (codes "h" ∷ []) refl refl (refl, tt) all edited_again last (λ none. some_none _ none) (λ none. some_none _ none),
      record {
        idle = all_ended 20 29 34;
        judged = judged_both built_store (codes "h" ∷ []) refl refl (refl, tt) all_steps refl refl;
        started = started_all built_store (codes "h" ∷ []) refl refl (refl, tt) all_steps refl;
        loaded = no_load built_store (codes "h" ∷ []) refl refl (refl, tt) all_steps;
      },
      settled built_store (codes "h" ∷ []) refl refl (refl, tt) all_steps refl refl,
      refl,
      refl,
    );
    in_order = inr (was_in_order reading dyndep built_store (codes "h" ∷ []) refl refl (refl, tt) all edited_again last (λ none. some_none _ none) (λ none. some_none _ none) all_steps);
    faults = record { refused = λ none. refl; starts = inl refl; stopped = λ stop. absurd (false≢true stop); earlier = refl };
    idle = λ none. all_ended 20 29 34;
    taken_in = λ going unrefused. all_ended 20 29 34;
    frame = λ tells.
        frame_of all all_steps edited_again.history again (again_writes all fits) (again_changes all fits) (
          tt,
          (
            tt,
            (
              (h_is edited_again.history (edited_again.history ++ take 2 again) refl, ready_cat _),
              (
                tt,
                (
                  tt,
                  (
                    tt,
                    (
                      tt,
                      (
                        tt,
                        (
                          tt,
                          (
                            (b_is edited_again.history (edited_again.history ++ take 9 again) refl, ready_scan _ refl),
                            (tt, (tt, (tt, (tt, (tt, (tt, tt)))))),
                          ),
                        ),
                      ),
                    ),
                  ),
                ),
              ),
            ),
          ),
        ) (
          untouched_still edited_again.history again [] 1 true refl,
          (
            tt,
            (
              tt,
              (
                untouched_at edited_again.history (take 5 again) (drop 5 again) (Judged 1 true ∷ Started 1 ∷ Ended 1 true ∷ []) refl (not_none 1)
                    (some_moment _ _, (some_moment _ _, (some_moment _ _, tt))) refl refl,
                (tt, (tt, tt)),
              ),
            ),
          ),
        );
    ticked = λ tells. ticked_of edited_again.history again (tt, (tt, (behind_tick (take 1 again) tick_name [] 29, (tt, (tt, (tt, (tt, (tt, (tt, (behind_tick (take 8 again) tick_name [] 34, (tt, (tt, (tt, (tt, (tt, (tt, tt))))))))))))))));
    from_nothing = λ tells success nothing premises.
        absurd (some_none _ (subst (λ (p : List ℕ). view_of edited_again.history p ≡ None) fits.build_log nothing.build_log));
  }
