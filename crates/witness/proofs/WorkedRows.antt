-- The worked rows, each by computation or by cases.
use Rattle.std.proofs.Common.{◌≡◌, ◌⊎◌, inl, inr, ℕ, zero, suc, ◌<◌, true, false, List, [], ◌∷◌, ◌++◌, Some, None, refl, sym, ◌∙◌, subst, bytes_eq, arith}
use Rattle.std.proofs.lemmas.Bool.{or_right, false≢true}
use Rattle.std.specs.Prelude.{codes}
use Rattle.model.specs.World.{View}
use Rattle.model.specs.Graph.{has, has_number, edge_at, maker, inputs, regular_inputs}
use Rattle.model.specs.Reading.{IsRead, Itself, Through, IsAlias, Counts, needs, IsAbove, Direct, Further, IsCycle, IsInCone, Wanted, Needed, Validating}
use Rattle.model.specs.Schedule.{Task, Step, Judged, Started, Ended, IsSettled, Done, Alias, MayBeJudged, MayStart, IsBelow, NoneMayBeJudged, IsLawful, judged_in, done_in}
use Rattle.witness.specs.Beyond.{none_recorded}
use Rattle.witness.specs.Example.{two_edges, one_by_one}
use Rattle.witness.specs.Rows.{through_phony, no_file, only, with_validation, task_with, side_by_side, x1_and_x2, WorkedRows}
use Rattle.witness.proofs.CleanLists.{has_from_all, has-left}

none_some : {A : Type 0} (x : A) → None ≡ Some x → ⊥
none_some x e = cc

some_same : (i j : ℕ) → Some i ≡ Some j → i ≡ j
some_same i j e = cc

-- ---- reading sets

alias_all : IsAlias through_phony (codes "all") 2
alias_all = record { made = refl; phony = refl }

alias_force : IsAlias through_phony (codes "force") 1
alias_force = record { made = refl; phony = refl }

source_x : (view : View) → Counts through_phony view (codes "x")
source_x view = inl (λ j alias. none_some j alias.made)

-- what the edges read where no file is there
abbrev bound : ℕ → List (List ℕ)
bound zero = []
bound (suc zero) = []
bound (suc (suc zero)) = codes "x" ∷ codes "y" ∷ []
bound (suc (suc (suc zero))) = codes "a" ∷ codes "x" ∷ codes "y" ∷ codes "force" ∷ []
bound (suc (suc (suc (suc i)))) = []

all_counts : Counts through_phony no_file (codes "all") → ⊥
all_counts (inl none) = none 2 alias_all
all_counts (inr (inl there)) = false≢true there
all_counts (inr (inr some)) =
    let two : 2 ≡ some.0 = some_same 2 some.0 some.1.made in
    let empty : inputs (edge_at through_phony 2) ≡ [] = subst (λ (n : ℕ). inputs (edge_at through_phony n) ≡ []) (sym two) some.2 in
    cc

itself : (i : ℕ) (p : List ℕ) → has (regular_inputs (edge_at through_phony i)) p ≡ true → Counts through_phony no_file p → has (bound i) p ≡ true
itself zero p h counts = absurd (false≢true h)
itself (suc zero) p h counts = absurd (false≢true h)
itself (suc (suc zero)) p h counts = h
itself (suc (suc (suc zero))) p h counts =
    has_from_all (λ q. Counts through_phony no_file q → has (bound 3) q ≡ true) (codes "a" ∷ codes "all" ∷ codes "force" ∷ []) p
    (λ c. refl, (λ c. absurd (all_counts c), (λ c. refl, tt))) h counts
itself (suc (suc (suc (suc i)))) p h counts = absurd (false≢true h)

no_alias : (q : List ℕ) → maker through_phony q ≡ None → (j : ℕ) → IsAlias through_phony q j → ⊥
no_alias q none j alias = none_some j (sym none ∙ alias.made)

through : (i j : ℕ) (q p : List ℕ) → has (regular_inputs (edge_at through_phony i)) q ≡ true → IsAlias through_phony q j → has (bound j) p ≡ true → has (bound i) p ≡ true
through zero j q p h alias below = absurd (false≢true h)
through (suc zero) j q p h alias below = absurd (false≢true h)
through (suc (suc zero)) j q p h alias below =
    has_from_all (λ r. IsAlias through_phony r j → has (bound 2) p ≡ true) (codes "x" ∷ codes "y" ∷ []) q
    (λ a. absurd (no_alias (codes "x") refl j a), (λ a. absurd (no_alias (codes "y") refl j a), tt)) h alias
through (suc (suc (suc zero))) j q p h alias below =
    has_from_all (λ r. IsAlias through_phony r j → has (bound 3) p ≡ true) (codes "a" ∷ codes "all" ∷ codes "force" ∷ []) q
    (λ a. absurd (no_alias (codes "a") refl j a), (λ a. by_all (some_same 2 j a.made), (λ a. by_force (some_same 1 j a.made), tt))) h alias
  where
    by_all : 2 ≡ j → has (bound 3) p ≡ true
    by_all two =
        or_right (bytes_eq (codes "a") p) (has ((codes "x" ∷ codes "y" ∷ []) ++ codes "force" ∷ []) p)
        (has-left (codes "x" ∷ codes "y" ∷ []) (codes "force" ∷ []) p (subst (λ (n : ℕ). has (bound n) p ≡ true) (sym two) below))

    by_force : 1 ≡ j → has (bound 3) p ≡ true
    by_force one = let no : false ≡ true = subst (λ (n : ℕ). has (bound n) p ≡ true) (sym one) below in absurd (false≢true no)
through (suc (suc (suc (suc i)))) j q p h alias below = absurd (false≢true h)

within_bound : (i : ℕ) (p : List ℕ) → IsRead through_phony no_file i p → has (bound i) p ≡ true
within_bound i p (Itself _ _ h counts) = itself i p h counts
within_bound i p (Through _ j q _ h alias read) = through i j q p h alias (within_bound j p read)

-- ---- cones

one_or_two : (i : ℕ) → IsInCone with_validation none_recorded (codes "b" ∷ []) i → (i ≡ 1) ⊎ (i ≡ 2)
one_or_two i (Wanted _ p h made) =
    inl (has_from_all (λ q. maker with_validation q ≡ Some i → i ≡ 1) (codes "b" ∷ []) p (λ m. sym (some_same 1 i m), tt) h made)
one_or_two i (Needed _ j p inner h made) = elim (one_or_two j inner) [
  | inl one ↦
      let h1 : has (needs with_validation none_recorded 1) p ≡ true = subst (λ (n : ℕ). has (needs with_validation none_recorded n) p ≡ true) one h in
      has_from_all (λ q. maker with_validation q ≡ Some i → (i ≡ 1) ⊎ (i ≡ 2)) (codes "a" ∷ []) p (λ m. absurd (none_some i m), tt) h1 made
  | inr two ↦
      let h2 : has (needs with_validation none_recorded 2) p ≡ true = subst (λ (n : ℕ). has (needs with_validation none_recorded n) p ≡ true) two h in
      has_from_all (λ q. maker with_validation q ≡ Some i → (i ≡ 1) ⊎ (i ≡ 2)) (codes "b" ∷ []) p (λ m. inl (sym (some_same 1 i m)), tt) h2 made
]
one_or_two i (Validating _ j p inner h made) = elim (one_or_two j inner) [
  | inl one ↦
      let h1 : has (edge_at with_validation 1).validations p ≡ true = subst (λ (n : ℕ). has (edge_at with_validation n).validations p ≡ true) one h in
      has_from_all (λ q. maker with_validation q ≡ Some i → (i ≡ 1) ⊎ (i ≡ 2)) (codes "v" ∷ []) p (λ m. inr (sym (some_same 2 i m)), tt) h1 made
  | inr two ↦
      let h2 : false ≡ true = subst (λ (n : ℕ). has (edge_at with_validation n).validations p ≡ true) two h in
      absurd (false≢true h2)
]

abbrev Over : ℕ → ℕ → Type 0
Over f e = IsAbove (needs with_validation none_recorded) (maker with_validation) f e

needed_by : (e : ℕ) (p : List ℕ) (f : ℕ) → has (needs with_validation none_recorded e) p ≡ true → maker with_validation p ≡ Some f → (f ≡ 1) × (e ≡ 2)
needed_by zero p f h made = absurd (false≢true h)
needed_by (suc zero) p f h made = has_from_all (λ q. maker with_validation q ≡ Some f → (f ≡ 1) × (◌≡◌ {A = ℕ} 1 2)) (codes "a" ∷ []) p (λ m. absurd (none_some f m), tt) h made
needed_by (suc (suc zero)) p f h made = has_from_all (λ q. maker with_validation q ≡ Some f → (f ≡ 1) × (◌≡◌ {A = ℕ} 2 2)) (codes "b" ∷ []) p (λ m. (sym (some_same 1 f m), refl), tt) h made
needed_by (suc (suc (suc zero))) p f h made = has_from_all (λ q. maker with_validation q ≡ Some f → (f ≡ 1) × (◌≡◌ {A = ℕ} 3 2)) (codes "a" ∷ []) p (λ m. absurd (none_some f m), tt) h made
needed_by (suc (suc (suc (suc e)))) p f h made = absurd (false≢true h)

only_above : (f e : ℕ) → Over f e → (f ≡ 1) × (e ≡ 2)
only_above f e (Direct _ _ p h made) = needed_by e p f h made
only_above f e (Further _ d _ first second) =
    let below = only_above f d first in
    let here = only_above d e second in
    absurd (let two = below.1 in let one = here.0 in omega (arith, two, one))

no_cycle : (i : ℕ) → IsCycle with_validation none_recorded i → ⊥
no_cycle i cycle = let both = only_above i i cycle in let one = both.0 in let two = both.1 in omega (arith, one, two)

-- ---- schedules

abbrev task : Task
task = task_with two_edges [] (codes "o" ∷ []) 1

first_or_second : (before : List Step) (k : ℕ) → MayBeJudged task before k → (k ≡ 1) ⊎ (k ≡ 2)
first_or_second before zero may = absurd (false≢true (sym may.command))
first_or_second before (suc zero) may = inl refl
first_or_second before (suc (suc zero)) may = inr refl
first_or_second before (suc (suc (suc k))) may = absurd (false≢true (sym may.command))

judged_once : (before : List Step) (k i : ℕ) → has_number (judged_in before) i ≡ true → MayBeJudged task before k → k ≡ i → ⊥
judged_once before k i judged may same = false≢true (sym (subst (λ (n : ℕ). has_number (judged_in before) n ≡ false) same may.once) ∙ judged)

unready : (before : List Step) (k : ℕ) → (IsSettled two_edges (done_in before) 1 → ⊥) → MayBeJudged task before k → k ≡ 2 → ⊥
unready before k unsettled may same =
    let here : MayBeJudged task before 2 = subst (λ (n : ℕ). MayBeJudged task before n) same may in
    unsettled (here.ready (codes "b") refl 1 refl)

not_settled : IsSettled two_edges [] 1 → ⊥
not_settled (Done _ command h) = false≢true h
not_settled (Alias _ phony each) = false≢true phony

-- nothing may be judged once the first edge was judged and is not settled, or both were
after_first : (before : List Step) → has_number (judged_in before) 1 ≡ true → (IsSettled two_edges (done_in before) 1 → ⊥) → NoneMayBeJudged task before
after_first before judged unsettled k may = elim (first_or_second before k may) [ inl one ↦ judged_once before k 1 judged may one | inr two ↦ unready before k unsettled may two ]

after_both : (before : List Step) → has_number (judged_in before) 1 ≡ true → has_number (judged_in before) 2 ≡ true → NoneMayBeJudged task before
after_both before first second k may = elim (first_or_second before k may) [ inl one ↦ judged_once before k 1 first may one | inr two ↦ judged_once before k 2 second may two ]

in_cone_2 : IsInCone two_edges none_recorded (codes "o" ∷ []) 2
in_cone_2 = Wanted 2 (codes "o") refl refl

may_first : MayBeJudged task [] 1
may_first = record {
  within = Needed 1 2 (codes "b") in_cone_2 refl refl;
  command = refl;
  once = refl;
  ready = λ p h j made. has_from_all (λ q. maker two_edges q ≡ Some j → IsSettled two_edges [] j) (codes "a" ∷ []) p (λ m. absurd (none_some j m), tt) h made;
}

abbrev first_done : List Step
first_done = Judged 1 true ∷ Started 1 ∷ Ended 1 true ∷ []

may_second : MayBeJudged task first_done 2
may_second = record {
  within = in_cone_2;
  command = refl;
  once = refl;
  ready = λ p h j made. has_from_all (λ q. maker two_edges q ≡ Some j → IsSettled two_edges (1 ∷ []) j) (codes "b" ∷ []) p
      (λ m. subst (λ (n : ℕ). IsSettled two_edges (1 ∷ []) n) (some_same 1 j m) (Done 1 refl refl), tt) h made;
}

start_first : MayStart task (Judged 1 true ∷ []) 1
start_first = record { stale = refl; once = refl; job = inr (omega arith); pool = λ name some. absurd (none_some name some); keep = inr (omega arith) }

start_second : MayStart task (first_done ++ Judged 2 true ∷ []) 2
start_second = record { stale = refl; once = refl; job = inr (omega arith); pool = λ name some. absurd (none_some name some); keep = inr (omega arith) }

lowest_second : (k : ℕ) → k < 2 → MayStart task (first_done ++ Judged 2 true ∷ []) k → ⊥
lowest_second zero lt may = false≢true may.stale
lowest_second (suc zero) lt may = false≢true (sym may.once)
lowest_second (suc (suc k)) lt may = omega arith

lowest_first : (k : ℕ) → k < 1 → MayStart task (Judged 1 true ∷ []) k → ⊥
lowest_first zero lt may = false≢true may.stale
lowest_first (suc k) lt may = omega arith

lawful : IsLawful task one_by_one
lawful = (
  (may_first, λ k lt may. elim (first_or_second [] k may) [ inl one ↦ omega (arith, one) | inr two ↦ omega (arith, two) ]),
  (
    (after_first (Judged 1 true ∷ []) refl not_settled, start_first, lowest_first),
    (
      (refl, after_first (Judged 1 true ∷ Started 1 ∷ []) refl not_settled, λ k may. false≢true (sym may.once ∙ may.stale)),
      (
        (may_second, λ k lt may. elim (first_or_second first_done k may) [ inl one ↦ judged_once first_done k 1 refl may one | inr two ↦ omega (arith, two) ]),
        (
          (after_both (first_done ++ Judged 2 true ∷ []) refl refl, start_second, lowest_second),
          ((refl, after_both (first_done ++ Judged 2 true ∷ Started 2 ∷ []) refl refl, λ k may. false≢true (sym may.once ∙ may.stale)), tt),
        ),
      ),
    ),
  ),
)

full : IsBelow 1 1 → ⊥
full (inl zero_is) = omega arith
full (inr less) = omega arith

abbrev free : Task
free = task_with (side_by_side None) [] x1_and_x2 2

another : MayStart free (Judged 1 true ∷ Judged 2 true ∷ Started 1 ∷ []) 2
another = record { stale = refl; once = refl; job = inr (omega arith); pool = λ name some. absurd (none_some name some); keep = inr (omega arith) }

pub worked_rows : WorkedRows
worked_rows = record {
  contents = refl;
  no_source = refl;
  read = (Through 3 2 (codes "all") (codes "x") refl alias_all (Itself 2 (codes "x") refl (source_x no_file)), Itself 3 (codes "force") refl (inr (inr (1, alias_force, refl))));
  unread = (λ read. false≢true (within_bound 3 (codes "all") read), λ read. false≢true (within_bound 3 (codes "m") read));
  read_file = (Itself 3 (codes "all") refl (inr (inl refl)), Through 3 2 (codes "all") (codes "x") refl alias_all (Itself 2 (codes "x") refl (source_x (only (codes "all") []))));
  cone = (
    Validating 2 1 (codes "v") (Wanted 1 (codes "b") refl refl) refl refl,
    λ within. elim (one_or_two 3 within) [ inl one ↦ omega (arith, one) | inr two ↦ omega (arith, two) ],
  );
  no_cycle = no_cycle;
  reasons = (refl, refl, refl, refl, refl, refl, refl, refl);
  lawful = lawful;
  unsettled = λ l. not_settled (l.0.0.ready (codes "b") refl 1 refl);
  past_depth = λ l. full (l.1.1.1.0.1.pool (codes "p") refl);
  too_soon = λ l. l.1.1.1.0.2 2 another;
}
