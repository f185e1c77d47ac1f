-- The graph after the load: makers, cycles, and the steps that follow.
use Rattle.std.proofs.Common.{◌≡◌, ◌⊎◌, inl, inr, ℕ, zero, suc, ◌<◌, ◌==◌, Bool, true, false, if◌then◌else◌, List, [], ◌∷◌, ◌++◌, Some, refl, sym, ◌∙◌, ap, subst, bytes_eq, arith}
use Rattle.std.proofs.lemmas.Bool.{false≢true, or_cases, eqb-true}
use Rattle.std.specs.Prelude.{codes}
use Rattle.model.specs.declared.graph.Edge.{Edge}
use Rattle.model.specs.Graph.{has, has_number, edge_at, maker, outputs, IsCommand, IsMadeOnce, StandsTwice}
use Rattle.model.specs.Reading.{IsAbove, Direct, Further, IsCycle, IsInCone, Wanted, Needed, needs}
use Rattle.model.specs.Records.{recorded_inputs}
use Rattle.model.specs.Schedule.{Task, Step, Judged, Started, Ended, IsSettled, Done, Alias, IsSettledPath, MayBeJudged, NoneMayBeJudged, judged_in, started_in, done_in}
use Rattle.model.specs.Phases.{NoLoadIsDue, IsLawfulPhase, AreUnloadedFrom}
use Rattle.witness.specs.Small.{no_records}
use Rattle.witness.specs.Dyndep.{grown, first_phase, last_phase, clean_first, clean_last}
use Rattle.witness.proofs.RowLists.{all_has, none_some}
use Rattle.witness.proofs.ThreeEdges.{task_over, three_of_grown}

some_same : (i j : ℕ) → Some i ≡ Some j → i ≡ j
some_same i j e = cc

abbrev edges : List Edge
edges = grown (codes "a")

abbrev recorded : ℕ → List (List ℕ)
recorded = recorded_inputs no_records edges

abbrev task : Task
task = task_over edges

-- ---- each path is made once

abbrev owner : List ℕ → ℕ
owner p = if bytes_eq p (codes "dd") then 1 else (if bytes_eq p (codes "h") then 3 else 2)

pub made_by : (i : ℕ) (p : List ℕ) → has (outputs (edge_at edges i)) p ≡ true → i ≡ owner p
made_by zero p h = absurd (false≢true h)
made_by (suc zero) p h = all_has (λ q. 1 ≡ owner q) (codes "dd" ∷ []) p (refl, tt) h
made_by (suc (suc zero)) p h = all_has (λ q. 2 ≡ owner q) (codes "o" ∷ codes "x" ∷ []) p (refl, (refl, tt)) h
made_by (suc (suc (suc zero))) p h = all_has (λ q. 3 ≡ owner q) (codes "h" ∷ []) p (refl, tt) h
made_by (suc (suc (suc (suc i)))) p h = absurd (false≢true h)

none_twice : (p : List ℕ) (before after : List (List ℕ)) → [] ≡ before ++ p ∷ after → ⊥
none_twice p [] after is = cc
none_twice p (x ∷ before) after is = cc

one_twice : (p y : List ℕ) (before after : List (List ℕ)) → (y ∷ []) ≡ before ++ p ∷ after → has before p ≡ true → ⊥
one_twice p y [] after is h = false≢true h
one_twice p y (x ∷ []) after is h = cc
one_twice p y (x ∷ w ∷ before) after is h = cc

two_twice : (p : List ℕ) (before after : List (List ℕ)) → (codes "o" ∷ codes "x" ∷ []) ≡ before ++ p ∷ after → has before p ≡ true → ⊥
two_twice p [] after is h = false≢true h
two_twice p (y ∷ []) after is h =
    let one : has (y ∷ []) p ≡ has (codes "o" ∷ []) (codes "x") = ap (λ (l : List (List ℕ)). both l) (sym is) in
    false≢true (sym one ∙ h)
  where
    both : List (List ℕ) → Bool
    both [] = false
    both (q ∷ []) = false
    both (q ∷ r ∷ rest) = has (q ∷ []) r
two_twice p (y ∷ z ∷ []) after is h = cc
two_twice p (y ∷ z ∷ w ∷ before) after is h = cc

twice_in : (i : ℕ) (p : List ℕ) → StandsTwice (outputs (edge_at edges i)) p → ⊥
twice_in zero p twice = none_twice p twice.before twice.after twice.splits
twice_in (suc zero) p twice = one_twice p (codes "dd") twice.before twice.after twice.splits twice.earlier
twice_in (suc (suc zero)) p twice = two_twice p twice.before twice.after twice.splits twice.earlier
twice_in (suc (suc (suc zero))) p twice = one_twice p (codes "h") twice.before twice.after twice.splits twice.earlier
twice_in (suc (suc (suc (suc i)))) p twice = none_twice p twice.before twice.after twice.splits

pub made_once : IsMadeOnce edges
made_once p (inl two) = two.2 (made_by two.0 p two.3 ∙ sym (made_by two.1 p two.4))
made_once p (inr one) = twice_in one.0 p one.1

-- ---- there is no cycle

abbrev rank : ℕ → ℕ
rank i = if i == 2 then 1 else 0

abbrev Under : ℕ → List ℕ → Type 0
Under e p = (f : ℕ) → maker edges p ≡ Some f → rank f < rank e

ranked : (n e f : ℕ) → rank n < rank e → Some n ≡ Some f → rank f < rank e
ranked n e f less is = subst (λ (m : ℕ). rank m < rank e) (some_same n f is) less

needed : (e : ℕ) (p : List ℕ) → has (needs edges recorded e) p ≡ true → Under e p
needed zero p h = absurd (false≢true h)
needed (suc zero) p h = all_has (Under 1) (codes "dd.src" ∷ []) p (λ f m. absurd (none_some f m), tt) h
needed (suc (suc zero)) p h =
    all_has (Under 2) (codes "a" ∷ codes "h" ∷ codes "dd" ∷ []) p
    (λ f m. absurd (none_some f m), (λ f m. ranked 3 2 f (omega arith) m, (λ f m. ranked 1 2 f (omega arith) m, tt))) h
needed (suc (suc (suc zero))) p h = all_has (Under 3) (codes "a" ∷ []) p (λ f m. absurd (none_some f m), tt) h
needed (suc (suc (suc (suc e)))) p h = absurd (false≢true h)

under : (f e : ℕ) → IsAbove (needs edges recorded) (maker edges) f e → rank f < rank e
under f e (Direct _ _ p h made) = needed e p h f made
under f e (Further _ d _ first second) = let one = under f d first in let two = under d e second in omega (arith, one, two)

pub no_cycle : (i : ℕ) → IsCycle edges recorded i → ⊥
no_cycle i cycle = let less = under i i cycle in omega (arith, less)

-- ---- the cone

abbrev Cone : ℕ → Type 0
Cone i = IsInCone edges recorded (codes "o" ∷ []) i

pub second_within : Cone 2
second_within = Wanted 2 (codes "o") refl refl

third_within : Cone 3
third_within = Needed 3 2 (codes "h") second_within refl refl

-- ---- the steps after the load

pub no_names : (i : ℕ) (file : List ℕ) → (edge_at edges i).dyndep ≡ Some file → ⊥
no_names zero file is = none_some file is
no_names (suc zero) file is = none_some file is
no_names (suc (suc zero)) file is = none_some file is
no_names (suc (suc (suc zero))) file is = none_some file is
no_names (suc (suc (suc (suc i)))) file is = none_some file is

pub no_load : (before : List Step) → NoLoadIsDue task before
no_load before file due = no_names due.edge file due.names

unloaded : (before steps : List Step) → AreUnloadedFrom task before steps
unloaded before [] = tt
unloaded before (step ∷ steps) = (λ file due. no_names due.edge file due.names, unloaded (before ++ step ∷ []) steps)

pub unsettled : (i : ℕ) (numbers : List ℕ) → IsCommand edges i → has_number numbers i ≡ false → IsSettled edges numbers i → ⊥
unsettled i numbers command none (Done _ _ h) = false≢true (sym none ∙ h)
unsettled i numbers command none (Alias _ phony each) = false≢true (sym command ∙ phony)

judged_twice : (before : List Step) (i k : ℕ) → has_number (judged_in before) i ≡ true → k ≡ i → has_number (judged_in before) k ≡ false → ⊥
judged_twice before i k judged same once = false≢true (sym once ∙ subst (λ (n : ℕ). has_number (judged_in before) n ≡ true) (sym same) judged)

-- the second edge waits for the third
waits : (before : List Step) (k : ℕ) → has_number (done_in before) 3 ≡ false → MayBeJudged task before k → k ≡ 2 → ⊥
waits before k none may two =
    let here : MayBeJudged task before 2 = subst (λ (n : ℕ). MayBeJudged task before n) two may in
    unsettled 3 (done_in before) refl none (here.ready (codes "h") refl 3 refl)

first_and_third : (before : List Step) → has_number (judged_in before) 1 ≡ true → has_number (judged_in before) 3 ≡ true → has_number (done_in before) 3 ≡ false → NoneMayBeJudged task before
first_and_third before first third none k may = elim (three_of_grown (codes "a") k may.command) [
  | inl one ↦ judged_twice before 1 k first one may.once
  | inr (inl two) ↦ waits before k none may two
  | inr (inr three) ↦ judged_twice before 3 k third three may.once
]

pub all_judged : (before : List Step) → has_number (judged_in before) 1 ≡ true → has_number (judged_in before) 2 ≡ true → has_number (judged_in before) 3 ≡ true → NoneMayBeJudged task before
all_judged before first second third k may = elim (three_of_grown (codes "a") k may.command) [
  | inl one ↦ judged_twice before 1 k first one may.once
  | inr (inl two) ↦ judged_twice before 2 k second two may.once
  | inr (inr three) ↦ judged_twice before 3 k third three may.once
]

-- a list of numbers that has no others
one_of : (i : ℕ) (numbers : List ℕ) (k : ℕ) → has_number (i ∷ numbers) k ≡ true → (k ≡ i) ⊎ (has_number numbers k ≡ true)
one_of i numbers k h = elim (or_cases (i == k) (has_number numbers k) h) [ inl here ↦ inl (sym (eqb-true i k here)) | inr more ↦ inr more ]

-- one that was started may not start again
started_twice : (before : List Step) (i k : ℕ) → has_number (started_in before) i ≡ true → k ≡ i → has_number (started_in before) k ≡ false → ⊥
started_twice before i k started same once = false≢true (sym once ∙ subst (λ (n : ℕ). has_number (started_in before) n ≡ true) (sym same) started)

abbrev after_3 : List Step
after_3 = first_phase ++ (Judged 3 true ∷ Started 3 ∷ Ended 3 true ∷ [])

settled_at : (i j : ℕ) (numbers : List ℕ) → IsCommand edges i → has_number numbers i ≡ true → Some i ≡ Some j → IsSettled edges numbers j
settled_at i j numbers command h is = subst (λ (n : ℕ). IsSettled edges numbers n) (some_same i j is) (Done i command h)

pub last_lawful : IsLawfulPhase task first_phase last_phase
last_lawful = record {
  lawful = (
    (
      record {
        within = third_within;
        command = refl;
        once = refl;
        ready = λ p h. all_has (λ q. IsSettledPath edges first_phase q) (codes "a" ∷ []) p (λ j made. absurd (none_some j made), tt) h;
      },
      λ k lt may. elim (three_of_grown (codes "a") k may.command) [
        | inl one ↦ judged_twice first_phase 1 k refl one may.once
        | inr (inl two) ↦ waits first_phase k refl may two
        | inr (inr three) ↦ omega (arith, lt, three)
      ],
    ),
    (
      (
        first_and_third (first_phase ++ Judged 3 true ∷ []) refl refl refl,
        record { stale = refl; once = refl; job = inr (omega arith); pool = λ name some. absurd (none_some name some); keep = inr (omega arith) },
        λ k lt may. elim (one_of 1 (3 ∷ []) k may.stale) [
          | inl one ↦ started_twice (first_phase ++ Judged 3 true ∷ []) 1 k refl one may.once
          | inr more ↦ elim (one_of 3 [] k more) [ inl three ↦ omega (arith, lt, three) | inr none ↦ absurd (false≢true none) ]
        ],
      ),
      (
        (
          refl,
          first_and_third (first_phase ++ (Judged 3 true ∷ Started 3 ∷ [])) refl refl refl,
          λ k may. false≢true (sym may.once ∙ may.stale),
        ),
        (
          (
            record {
              within = second_within;
              command = refl;
              once = refl;
              ready = λ p h. all_has (λ q. IsSettledPath edges after_3 q) (codes "a" ∷ codes "h" ∷ codes "dd" ∷ []) p
                  (λ j made. absurd (none_some j made), (λ j made. settled_at 3 j (done_in after_3) refl refl made, (λ j made. settled_at 1 j (done_in after_3) refl refl made, tt))) h;
            },
            λ k lt may. elim (three_of_grown (codes "a") k may.command) [
              | inl one ↦ judged_twice after_3 1 k refl one may.once
              | inr (inl two) ↦ omega (arith, lt, two)
              | inr (inr three) ↦ omega (arith, lt, three)
            ],
          ),
          (
            (
              all_judged (after_3 ++ Judged 2 true ∷ []) refl refl refl,
              record { stale = refl; once = refl; job = inr (omega arith); pool = λ name some. absurd (none_some name some); keep = inr (omega arith) },
              λ k lt may. elim (one_of 1 (3 ∷ 2 ∷ []) k may.stale) [
                | inl one ↦ started_twice (after_3 ++ Judged 2 true ∷ []) 1 k refl one may.once
                | inr more ↦ elim (one_of 3 (2 ∷ []) k more) [
                  | inl three ↦ omega (arith, lt, three)
                  | inr rest ↦ elim (one_of 2 [] k rest) [ inl two ↦ omega (arith, lt, two) | inr none ↦ absurd (false≢true none) ]
                ]
              ],
            ),
            (
              (
                refl,
                all_judged (after_3 ++ (Judged 2 true ∷ Started 2 ∷ [])) refl refl refl,
                λ k may. false≢true (sym may.once ∙ may.stale),
              ),
              tt,
            ),
          ),
        ),
      ),
    ),
  );
  unloaded = unloaded first_phase last_phase;
}

-- where all is up to date
pub clean_lawful_after : IsLawfulPhase task clean_first clean_last
clean_lawful_after = record {
  lawful = (
    (
      record {
        within = third_within;
        command = refl;
        once = refl;
        ready = λ p h. all_has (λ q. IsSettledPath edges clean_first q) (codes "a" ∷ []) p (λ j made. absurd (none_some j made), tt) h;
      },
      λ k lt may. elim (three_of_grown (codes "a") k may.command) [
        | inl one ↦ judged_twice clean_first 1 k refl one may.once
        | inr (inl two) ↦ waits clean_first k refl may two
        | inr (inr three) ↦ omega (arith, lt, three)
      ],
    ),
    (
      (
        record {
          within = second_within;
          command = refl;
          once = refl;
          ready = λ p h. all_has (λ q. IsSettledPath edges (clean_first ++ Judged 3 false ∷ []) q) (codes "a" ∷ codes "h" ∷ codes "dd" ∷ []) p (
            λ j made. absurd (none_some j made),
            (λ j made. settled_at 3 j (1 ∷ 3 ∷ []) refl refl made, (λ j made. settled_at 1 j (1 ∷ 3 ∷ []) refl refl made, tt)),
          ) h;
        },
        λ k lt may. elim (three_of_grown (codes "a") k may.command) [
          | inl one ↦ judged_twice (clean_first ++ Judged 3 false ∷ []) 1 k refl one may.once
          | inr (inl two) ↦ omega (arith, lt, two)
          | inr (inr three) ↦ omega (arith, lt, three)
        ],
      ),
      tt,
    ),
  );
  unloaded = unloaded clean_first clean_last;
}

-- ---- all is settled at the end

pub each_settled : (numbers : List ℕ) → has_number numbers 1 ≡ true → has_number numbers 2 ≡ true → has_number numbers 3 ≡ true → (i : ℕ) → IsCommand edges i → IsSettled edges numbers i
each_settled numbers first second third i command = elim (three_of_grown (codes "a") i command) [
  | inl one ↦ subst (IsSettled edges numbers) (sym one) (Done 1 refl first)
  | inr (inl two) ↦ subst (IsSettled edges numbers) (sym two) (Done 2 refl second)
  | inr (inr three) ↦ subst (IsSettled edges numbers) (sym three) (Done 3 refl third)
]
