-- The graph with two edges: what follows from its lists alone.
use Rattle.std.proofs.Common.{◌≡◌, ◌⊎◌, inl, inr, ℕ, zero, suc, ◌<◌, ◌==◌, ◌||◌, Bool, true, false, List, [], ◌∷◌, ◌++◌, Some, None, bytes_eq, refl, sym, ◌∙◌, subst, arith}
use Rattle.std.proofs.lemmas.Bool.{false≢true, or_cases, or_left, or_right, cases_Bool, eqb-true}
use Rattle.std.specs.Prelude.{codes}
use Rattle.std.specs.List.{AllByRecursion}
use Rattle.model.specs.declared.event.Moment.{Moment}
use Rattle.model.specs.Graph.{has, has_number, edge_at, maker, outputs, inputs, IsCommand, IsMadeOnce, StandsTwice}
use Rattle.model.specs.Reading.{Itself, Through, IsAlias, IsAbove, Direct, Further, Wanted, Needed, Validating, needs}
use Rattle.model.specs.Records.{Store, recorded_inputs}
use Rattle.model.specs.OutOfDate.{Counted, ListsCounted}
use Rattle.model.specs.Schedule.{Step, Judged, Started, Ended, IsSettled, Done, Alias, MayBeJudged, NoneMayBeJudged, NoneMayStart, IsLawfulStep, judged_in, out_of_date_in, started_in, done_in}
use Rattle.model.specs.Phases.{NoLoadIsDue}
use Rattle.model.specs.SingleBuild.{NamesOther, HasNoCycle, InCone, task_of}
use Rattle.witness.specs.Scanning.{edges, asked}
use Rattle.witness.proofs.MetLists.{all_has, none_some, same_bytes}

some_same : (i j : ℕ) → Some i ≡ Some j → i ≡ j
some_same i j e = cc

not_two : ◌≡◌ {A = ℕ} 1 2 → ⊥
not_two e = omega (arith, e)

-- ---- the edges

pub one_or_two : (i : ℕ) → IsCommand edges i → (i ≡ 1) ⊎ (i ≡ 2)
one_or_two zero command = absurd (false≢true (sym command))
one_or_two (suc zero) command = inl refl
one_or_two (suc (suc zero)) command = inr refl
one_or_two (suc (suc (suc i))) command = absurd (false≢true (sym command))

only : (o p : List ℕ) → has (o ∷ []) p ≡ true → p ≡ o
only o p h = all_has (λ q. q ≡ o) (o ∷ []) p (refl, tt) h

pub makes : (i : ℕ) (p : List ℕ) → has (outputs (edge_at edges i)) p ≡ true → ((i ≡ 1) × (p ≡ codes "h")) ⊎ ((i ≡ 2) × (p ≡ codes "b"))
makes zero p h = absurd (false≢true h)
makes (suc zero) p h = inl (refl, only (codes "h") p h)
makes (suc (suc zero)) p h = inr (refl, only (codes "b") p h)
makes (suc (suc (suc i))) p h = absurd (false≢true h)

-- what an edge names as an input
abbrev pub IsInput : ℕ → List ℕ → Type 0
IsInput i p = ((i ≡ 1) × (p ≡ codes "g")) ⊎ ((i ≡ 2) × ((p ≡ codes "a") ⊎ (p ≡ codes "h")))

a_or_h : (p : List ℕ) → has (codes "a" ∷ codes "h" ∷ []) p ≡ true → (p ≡ codes "a") ⊎ (p ≡ codes "h")
a_or_h p h = all_has (λ q. (q ≡ codes "a") ⊎ (q ≡ codes "h")) (codes "a" ∷ codes "h" ∷ []) p (inl refl, (inr refl, tt)) h

pub reads_these : (i : ℕ) (p : List ℕ) → has (inputs (edge_at edges i)) p ≡ true → IsInput i p
reads_these zero p h = absurd (false≢true h)
reads_these (suc zero) p h = inl (refl, only (codes "g") p h)
reads_these (suc (suc zero)) p h = inr (refl, a_or_h p h)
reads_these (suc (suc (suc i))) p h = absurd (false≢true h)

pub maker_is : (p : List ℕ) (j : ℕ) → maker edges p ≡ Some j → ((j ≡ 1) × (p ≡ codes "h")) ⊎ ((j ≡ 2) × (p ≡ codes "b"))
maker_is p j made = elim (cases_Bool (has (codes "h" ∷ []) p)) [
  | inl first ↦ let here : Some 1 ≡ Some j = rw first at made in inl (sym (some_same 1 j here), only (codes "h") p first)
  | inr other ↦ elim (cases_Bool (has (codes "b" ∷ []) p)) [
    | inl second ↦ let here : Some 2 ≡ Some j = rw second at (rw other at made) in inr (sym (some_same 2 j here), only (codes "b") p second)
    | inr neither ↦ let none : None ≡ Some j = rw neither at (rw other at made) in absurd (none_some j none)
  ]
]

is_command : (p : List ℕ) (j : ℕ) → maker edges p ≡ Some j → IsCommand edges j
is_command p j made = elim (maker_is p j made) [
  | inl first ↦ subst (λ (n : ℕ). IsCommand edges n) (sym first.0) refl
  | inr second ↦ subst (λ (n : ℕ). IsCommand edges n) (sym second.0) refl
]

pub no_alias : (p : List ℕ) (j : ℕ) → IsAlias edges p j → ⊥
no_alias p j alias = false≢true (sym (is_command p j alias.made) ∙ alias.phony)

pub no_dyndep : (i : ℕ) (file : List ℕ) → (edge_at edges i).dyndep ≡ Some file → ⊥
no_dyndep zero file is = none_some file is
no_dyndep (suc zero) file is = none_some file is
no_dyndep (suc (suc zero)) file is = none_some file is
no_dyndep (suc (suc (suc i))) file is = none_some file is

pub names_no_other : (file : List ℕ) → NamesOther edges file → ⊥
names_no_other file other = no_dyndep other.edge file other.names

twice_in_one : (p q : List ℕ) → StandsTwice (q ∷ []) p → ⊥
twice_in_one p q twice = none_twice twice.before twice.after twice.splits twice.earlier
  where
    none_twice : (before after : List (List ℕ)) → (q ∷ []) ≡ before ++ p ∷ after → has before p ≡ true → ⊥
    none_twice [] after is h = false≢true h
    none_twice (x ∷ []) after is h = cc
    none_twice (x ∷ y ∷ before) after is h = cc

none_twice_in_none : (p : List ℕ) → StandsTwice [] p → ⊥
none_twice_in_none p twice = empty twice.before twice.after twice.splits
  where
    empty : (before after : List (List ℕ)) → [] ≡ before ++ p ∷ after → ⊥
    empty [] after is = cc
    empty (x ∷ before) after is = cc

once_in : (i : ℕ) (p : List ℕ) → StandsTwice (outputs (edge_at edges i)) p → ⊥
once_in zero p twice = none_twice_in_none p twice
once_in (suc zero) p twice = twice_in_one p (codes "h") twice
once_in (suc (suc zero)) p twice = twice_in_one p (codes "b") twice
once_in (suc (suc (suc i))) p twice = none_twice_in_none p twice

not_both : (p : List ℕ) → p ≡ codes "h" → p ≡ codes "b" → ⊥
not_both p is_h is_b = false≢true (subst (λ (q : List ℕ). bytes_eq q (codes "h") ≡ true) (sym is_h ∙ is_b) refl)

pub made_once : IsMadeOnce edges
made_once p (inl two) = elim (makes two.0 p two.3) [
  | inl first ↦ elim (makes two.1 p two.4) [ inl other ↦ two.2 (first.0 ∙ sym other.0) | inr other ↦ not_both p first.1 other.1 ]
  | inr second ↦ elim (makes two.1 p two.4) [ inl other ↦ not_both p other.1 second.1 | inr other ↦ two.2 (second.0 ∙ sym other.0) ]
]
made_once p (inr one) = once_in one.0 p one.1

-- ---- numbers in lists

pub is_one : (k : ℕ) → has_number (1 ∷ []) k ≡ true → k ≡ 1
is_one k h = elim (or_cases (1 == k) false h) [ inl here ↦ sym (eqb-true 1 k here) | inr none ↦ absurd (false≢true none) ]

pub is_two : (k : ℕ) → has_number (2 ∷ []) k ≡ true → k ≡ 2
is_two k h = elim (or_cases (2 == k) false h) [ inl here ↦ sym (eqb-true 2 k here) | inr none ↦ absurd (false≢true none) ]

pub is_either : (k : ℕ) → has_number (1 ∷ 2 ∷ []) k ≡ true → (k ≡ 1) ⊎ (k ≡ 2)
is_either k h = elim (or_cases (1 == k) (has_number (2 ∷ []) k) h) [ inl here ↦ inl (sym (eqb-true 1 k here)) | inr more ↦ inr (is_two k more) ]

no_pool : (name : List ℕ) → None ≡ Some name → ⊥
no_pool name e = none_some name e

below_one : (k : ℕ) → k < 1 → IsCommand edges k → ⊥
below_one zero lt command = false≢true (sym command)
below_one (suc k) lt command = omega (arith, lt)

below_two : (k : ℕ) → k < 2 → IsCommand edges k → k ≡ 1
below_two k lt command = elim (one_or_two k command) [ inl one ↦ one | inr two ↦ absurd (omega (arith, lt, two)) ]

-- ---- a store that tells of no recorded input but that of `h` by the second edge

module _ (store : Store) (extra : List (List ℕ)) (first_none : recorded_inputs store edges 1 ≡ []) (recorded_is : recorded_inputs store edges 2 ≡ extra) (all_h : AllByRecursion (λ p. p ≡ codes "h") extra) where
  abbrev recorded : ℕ → List (List ℕ)
  recorded = recorded_inputs store edges

  pub recorded_h : (i : ℕ) (p : List ℕ) → has (recorded_inputs store edges i) p ≡ true → (i ≡ 2) × (p ≡ codes "h")
  recorded_h zero p h = absurd (false≢true h)
  recorded_h (suc zero) p h = absurd (false≢true (subst (λ (l : List (List ℕ)). has l p ≡ true) first_none h))
  recorded_h (suc (suc zero)) p h = (refl, all_has (λ q. q ≡ codes "h") extra p all_h (subst (λ (l : List (List ℕ)). has l p ≡ true) recorded_is h))
  recorded_h (suc (suc (suc i))) p h = absurd (false≢true h)

  needs_these : (i : ℕ) (p : List ℕ) → has (needs edges recorded i) p ≡ true → IsInput i p
  needs_these zero p h = absurd (false≢true h)
  needs_these (suc zero) p h = elim (or_cases (bytes_eq (codes "g") p) (has (recorded 1) p) h) [
    | inl here ↦ inl (refl, sym (same_bytes (codes "g") p here))
    | inr more ↦ absurd (not_two (recorded_h 1 p more).0)
  ]
  needs_these (suc (suc zero)) p h = elim (or_cases (bytes_eq (codes "a") p) (bytes_eq (codes "h") p || has (recorded 2) p) h) [
    | inl here ↦ inr (refl, inl (sym (same_bytes (codes "a") p here)))
    | inr more ↦ elim (or_cases (bytes_eq (codes "h") p) (has (recorded 2) p) more) [
      | inl here ↦ inr (refl, inr (sym (same_bytes (codes "h") p here)))
      | inr told ↦ inr (refl, inr (recorded_h 2 p told).1)
    ]
  ]
  needs_these (suc (suc (suc i))) p h = absurd (false≢true h)

  -- only the second edge needs what the first one makes
  needs_made : (e f : ℕ) (p : List ℕ) → IsInput e p → maker edges p ≡ Some f → (f ≡ 1) × (e ≡ 2)
  needs_made e f p (inl one) made = absurd (none_some f (subst (λ (q : List ℕ). maker edges q ≡ Some f) one.1 made))
  needs_made e f p (inr (two, inl is_a)) made = absurd (none_some f (subst (λ (q : List ℕ). maker edges q ≡ Some f) is_a made))
  needs_made e f p (inr (two, inr is_h)) made = (sym (some_same 1 f (subst (λ (q : List ℕ). maker edges q ≡ Some f) is_h made)), two)

  above_is : (f e : ℕ) → IsAbove (needs edges recorded) (maker edges) f e → (f ≡ 1) × (e ≡ 2)
  above_is f e (Direct _ _ p h made) = needs_made e f p (needs_these e p h) made
  above_is f e (Further _ d _ one more) = absurd (not_two (sym (above_is d e more).0 ∙ (above_is f d one).1))

  pub no_cycle : HasNoCycle asked store
  no_cycle i within cycle = not_two (sym (above_is i i cycle).0 ∙ (above_is i i cycle).1)

  pub in_cone : (i : ℕ) → InCone asked store i → (i ≡ 1) ⊎ (i ≡ 2)
  in_cone i (Wanted _ p h made) = one_or_two i (is_command p i made)
  in_cone i (Needed _ j p inner h made) = one_or_two i (is_command p i made)
  in_cone i (Validating _ j p inner h made) = one_or_two i (is_command p i made)

  pub second_in_cone : InCone asked store 2
  second_in_cone = Wanted 2 (codes "b") refl refl

  pub first_in_cone : InCone asked store 1
  first_in_cone = Needed 1 2 (codes "h") second_in_cone refl refl

  -- what counts for the first edge is `g`, and for the second `a` and what is recorded
  pub counts_g : (files : List Moment) → ListsCounted edges store files 1 (codes "g" ∷ [])
  counts_g files p = (there, back)
    where
      there : has (codes "g" ∷ []) p ≡ true → Counted edges store files 1 p
      there h = inl (Itself 1 p h (inl (λ j alias. no_alias p j alias)))

      back : Counted edges store files 1 p → has (codes "g" ∷ []) p ≡ true
      back (inl (Itself _ _ h counts)) = h
      back (inl (Through _ j q _ h alias read)) = absurd (no_alias q j alias)
      back (inr h) = absurd (not_two (recorded_h 1 p h).0)

  pub counts_all : (files : List Moment) → ListsCounted edges store files 2 (codes "a" ∷ extra)
  counts_all files p = (there, back)
    where
      there : has (codes "a" ∷ extra) p ≡ true → Counted edges store files 2 p
      there h = elim (or_cases (bytes_eq (codes "a") p) (has extra p) h) [
        | inl here ↦ inl (Itself 2 p (or_left (bytes_eq (codes "a") p) false here) (inl (λ j alias. no_alias p j alias)))
        | inr told ↦ inr (subst (λ (l : List (List ℕ)). has l p ≡ true) (sym recorded_is) told)
      ]

      back : Counted edges store files 2 p → has (codes "a" ∷ extra) p ≡ true
      back (inl (Itself _ _ h counts)) = elim (or_cases (bytes_eq (codes "a") p) false h) [
        | inl here ↦ or_left (bytes_eq (codes "a") p) (has extra p) here
        | inr none ↦ absurd (false≢true none)
      ]
      back (inl (Through _ j q _ h alias read)) = absurd (no_alias q j alias)
      back (inr h) = or_right (bytes_eq (codes "a") p) (has extra p) (subst (λ (l : List (List ℕ)). has l p ≡ true) recorded_is h)

  -- ---- the schedule

  pub no_load : (before : List Step) → NoLoadIsDue (task_of asked store) before
  no_load before file due = no_dyndep due.edge file due.names

  pub judged_both : (before : List Step) → has_number (judged_in before) 1 ≡ true → has_number (judged_in before) 2 ≡ true → NoneMayBeJudged (task_of asked store) before
  judged_both before first second k may = elim (one_or_two k may.command) [
    | inl one ↦ false≢true (sym may.once ∙ subst (λ (n : ℕ). has_number (judged_in before) n ≡ true) (sym one) first)
    | inr two ↦ false≢true (sym may.once ∙ subst (λ (n : ℕ). has_number (judged_in before) n ≡ true) (sym two) second)
  ]

  not_settled : (done : List ℕ) → has_number done 1 ≡ false → IsSettled edges done 1 → ⊥
  not_settled done none (Done _ command here) = false≢true (sym none ∙ here)
  not_settled done none (Alias _ phony all) = false≢true phony

  -- the first one runs, so that the second may not be judged
  pub first_runs : (before : List Step) → has_number (judged_in before) 1 ≡ true → has_number (done_in before) 1 ≡ false → NoneMayBeJudged (task_of asked store) before
  first_runs before judged none k may = elim (one_or_two k may.command) [
    | inl one ↦ false≢true (sym may.once ∙ subst (λ (n : ℕ). has_number (judged_in before) n ≡ true) (sym one) judged)
    | inr two ↦
        let ready = subst (λ (n : ℕ). MayBeJudged (task_of asked store) before n) two may in
        not_settled (done_in before) none (ready.ready (codes "h") refl 1 refl)
  ]

  -- what is out of date was started
  pub started_all : (before : List Step) → out_of_date_in before ≡ started_in before → NoneMayStart (task_of asked store) before
  started_all before same k may = false≢true (sym may.once ∙ subst (λ (l : List ℕ). has_number l k ≡ true) same may.stale)

  pub first_judged : (b : Bool) → IsLawfulStep (task_of asked store) [] (Judged 1 b)
  first_judged b = (
    record { within = first_in_cone; command = refl; once = refl; ready = λ p h j made. absurd (not_two (needs_made 1 j p (needs_these 1 p h) made).1) },
    λ k lt may. below_one k lt may.command,
  )

  pub first_started : IsLawfulStep (task_of asked store) (Judged 1 true ∷ []) (Started 1)
  first_started = (
    first_runs (Judged 1 true ∷ []) refl refl,
    record { stale = refl; once = refl; job = inr (omega arith); pool = λ name some. absurd (no_pool name some); keep = inr (omega arith) },
    λ k lt may. let one = is_one k may.stale in omega (arith, lt, one),
  )

  pub first_ended : IsLawfulStep (task_of asked store) (Judged 1 true ∷ Started 1 ∷ []) (Ended 1 true)
  first_ended = (refl, first_runs (Judged 1 true ∷ Started 1 ∷ []) refl refl, started_all (Judged 1 true ∷ Started 1 ∷ []) refl)

  -- the first one is done
  pub second_judged : (before : List Step) → has_number (judged_in before) 1 ≡ true → has_number (judged_in before) 2 ≡ false → has_number (done_in before) 1 ≡ true
      → IsLawfulStep (task_of asked store) before (Judged 2 true)
  second_judged before judged once done = (
    record {
      within = second_in_cone;
      command = refl;
      once = once;
      ready = λ p h j made. subst (λ (n : ℕ). IsSettled edges (done_in before) n) (sym (needs_made 2 j p (needs_these 2 p h) made).0) (Done 1 refl done);
    },
    λ k lt may. false≢true (sym may.once ∙ subst (λ (n : ℕ). has_number (judged_in before) n ≡ true) (sym (below_two k lt may.command)) judged),
  )

  -- the steps up to the judgement of the second edge
  abbrev pub both_run : List Step
  both_run = Judged 1 true ∷ Started 1 ∷ Ended 1 true ∷ Judged 2 true ∷ []

  abbrev pub first_clean : List Step
  first_clean = Judged 1 false ∷ Judged 2 true ∷ []

  pub second_started : IsLawfulStep (task_of asked store) both_run (Started 2)
  second_started = (
    judged_both both_run refl refl,
    record { stale = refl; once = refl; job = inr (omega arith); pool = λ name some. absurd (no_pool name some); keep = inr (omega arith) },
    λ k lt may. elim (is_either k may.stale) [
      | inl one ↦ false≢true (sym may.once ∙ subst (λ (n : ℕ). has_number (1 ∷ []) n ≡ true) (sym one) refl)
      | inr two ↦ omega (arith, lt, two)
    ],
  )

  pub second_ended : (well : Bool) → IsLawfulStep (task_of asked store) (both_run ++ Started 2 ∷ []) (Ended 2 well)
  second_ended well = (refl, judged_both (both_run ++ Started 2 ∷ []) refl refl, started_all (both_run ++ Started 2 ∷ []) refl)

  pub alone_started : IsLawfulStep (task_of asked store) first_clean (Started 2)
  alone_started = (
    judged_both first_clean refl refl,
    record { stale = refl; once = refl; job = inr (omega arith); pool = λ name some. absurd (no_pool name some); keep = inr (omega arith) },
    λ k lt may. let two = is_two k may.stale in omega (arith, lt, two),
  )

  pub alone_ended : (well : Bool) → IsLawfulStep (task_of asked store) (first_clean ++ Started 2 ∷ []) (Ended 2 well)
  alone_ended well = (refl, judged_both (first_clean ++ Started 2 ∷ []) refl refl, started_all (first_clean ++ Started 2 ∷ []) refl)
