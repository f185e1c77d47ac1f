-- A path comes in.
use Rattle.std.proofs.Common.{◌≡◌, inl, inr, ℕ, zero, suc, ◌+◌, ◌-◌, ◌<◌, ◌≤◌, ◌==◌, ◌||◌, nat_lt, not, cond, Bool, true, false, List, [], ◌∷◌, ◌++◌, length, get_or, take, count_by, refl, sym, ◌∙◌, ap, subst, arith}
use Rattle.std.proofs.Math.ListN.{set}
use Rattle.std.proofs.lemmas.List.{length-set, get_or-set_same, get_or-set_other, take_more}
use Rattle.std.proofs.lemmas.List.Sums.{sum_by-cons}
use Rattle.std.proofs.lemmas.Bool.{false≢true, true≢false, or_cases, eq-eqb, eqb-true, cases_Bool, cases_eq, false_from_ne_true, lt-ltb, ltb-true}
use Rattle.model.specs.Graph.{has_number}
use Rattle.plan.specs.Changed.{AreSetAt}
use Rattle.plan.specs.Flags.{has}
use Rattle.graph.specs.Held.{times, list_at}
use Rattle.graph.specs.declared.graph.Graph.{Graph}
use Rattle.graph.specs.Links.{needs_at, links_of}
use Rattle.paths.specs.Lists.{line_at, line_inputs, no_line}
use Rattle.plan.specs.declared.plan.Plan.{Plan}
use Rattle.plan.specs.Settling.{IsStill}
use Rattle.plan.specs.declared.step.Standing.{Standing}
use Rattle.plan.specs.Standing.{standing_at, awaits}
use Rattle.plan.specs.Plan.{is_missing}
use Rattle.plan.specs.Settling.{IsCounted, lowered}

abbrev one_if : Bool → ℕ
one_if b = cond b 1 0

times_cons : (m n : ℕ) (ms : List ℕ) → times (m ∷ ms) n ≡ one_if (m == n) + times ms n
times_cons m n ms = by (m == n) refl
  where
    by : (b : Bool) → (m == n) ≡ b → times (m ∷ ms) n ≡ one_if (m == n) + times ms n
    by true is =
        let a : times (m ∷ ms) n ≡ suc (times ms n) = ap (λ (b : Bool). cond b (suc (times ms n)) (times ms n)) is in
        let o : one_if (m == n) ≡ 1 = ap one_if is in
        omega (arith, a, o)
    by false is =
        let a : times (m ∷ ms) n ≡ times ms n = ap (λ (b : Bool). cond b (suc (times ms n)) (times ms n)) is in
        let o : one_if (m == n) ≡ 0 = ap one_if is in
        omega (arith, a, o)

times_push : (xs : List ℕ) (x n : ℕ) → times (xs ++ x ∷ []) n ≡ times xs n + one_if (x == n)
times_push [] x n = omega (arith, times_cons x n [])
times_push (y ∷ xs) x n = omega (arith, times_cons y n (xs ++ x ∷ []), times_cons y n xs, times_push xs x n)

times_take : (xs : List ℕ) (k n : ℕ) → times (take k xs) n ≤ times xs n
times_take [] zero n = omega arith
times_take [] (suc k) n = omega arith
times_take (x ∷ xs) zero n = omega arith
times_take (x ∷ xs) (suc k) n = omega (arith, times_cons x n (take k xs), times_cons x n xs, times_take xs k n)

pub times_next : (xs : List ℕ) (k n : ℕ) → k < length xs → times (take (k + 1) xs) n ≡ times (take k xs) n + one_if (get_or xs k 0 == n)
times_next xs k n lt = ap (λ (l : List ℕ). times l n) (take_more xs k 0 lt) ∙ times_push (take k xs) (get_or xs k 0) n

-- a number at a place still to come stands more often in the whole list
pub times_more : (xs : List ℕ) (k : ℕ) → k < length xs → times (take k xs) (get_or xs k 0) < times xs (get_or xs k 0)
times_more xs k lt =
    let one : one_if (get_or xs k 0 == get_or xs k 0) ≡ 1 = ap one_if (eq-eqb (get_or xs k 0) (get_or xs k 0) refl) in
    omega (arith, times_next xs k (get_or xs k 0) lt, one, times_take xs (k + 1) (get_or xs k 0))

-- once a path is there, so many fewer are missing as it is named
pub missing_less : (there : List Bool) (p : ℕ) → p < length there → has there p ≡ false → (xs : List ℕ) → count_by (is_missing (set there p true)) xs + times xs p ≡ count_by (is_missing there) xs
missing_less there p lt none [] = refl
missing_less there p lt none (x ∷ xs) =
    let rest = missing_less there p lt none xs in
    let a : count_by (is_missing (set there p true)) (x ∷ xs) ≡ one_if (is_missing (set there p true) x) + count_by (is_missing (set there p true)) xs = sum_by-cons (λ (y : ℕ). one_if (is_missing (set there p true) y)) x xs in
    let b : count_by (is_missing there) (x ∷ xs) ≡ one_if (is_missing there x) + count_by (is_missing there) xs = sum_by-cons (λ (y : ℕ). one_if (is_missing there y)) x xs in
    let one : one_if (is_missing (set there p true) x) + one_if (x == p) ≡ one_if (is_missing there x) = here x in
    omega (arith, rest, a, b, one, times_cons x p xs)
  where
    here : (x : ℕ) → one_if (is_missing (set there p true) x) + one_if (x == p) ≡ one_if (is_missing there x)
    here x = elim (cases_eq x p) [
      | inl same ↦
          let now : one_if (is_missing (set there p true) x) ≡ 0 = ap (λ (b : Bool). one_if (not b)) (subst (λ (n : ℕ). has (set there p true) n ≡ true) (sym same) (get_or-set_same there p true false lt)) in
          let was : one_if (is_missing there x) ≡ 1 = ap (λ (b : Bool). one_if (not b)) (subst (λ (n : ℕ). has there n ≡ false) (sym same) none) in
          let is : one_if (x == p) ≡ 1 = ap one_if (eq-eqb x p same) in
          omega (arith, now, was, is)
      | inr other ↦
          let now : one_if (is_missing (set there p true) x) ≡ one_if (is_missing there x) = ap (λ (b : Bool). one_if (not b)) (get_or-set_other there p x true false other) in
          let is : one_if (x == p) ≡ 0 = ap one_if (false_from_ne_true (x == p) (λ h. other (eqb-true x p h))) in
          omega (arith, now, is)
    ]

-- so many users of the path were told
pub record IsTold (standings : List Standing) (users : List ℕ) (old new : List ℕ) : Type 0 where
  pub fits : length new ≡ length old
  pub told : (e : ℕ) → awaits (standing_at standings e) ≡ true → get_or new e 0 + times users e ≡ get_or old e 0

pub told_next : (standings : List Standing) (users : List ℕ) (k : ℕ) (old left after : List ℕ) → k < length users → IsTold standings (take k users) old left
    → get_or users k 0 < length left → (awaits (standing_at standings (get_or users k 0)) ≡ true → 0 < get_or left (get_or users k 0) 0)
    → after ≡ cond (awaits (standing_at standings (get_or users k 0))) (lowered left (get_or users k 0)) left → IsTold standings (take (k + 1) users) old after
told_next standings users k old left after lt told within some is = by (awaits (standing_at standings (get_or users k 0))) refl
  where
    u : ℕ
    u = get_or users k 0

    by : (b : Bool) → awaits (standing_at standings (get_or users k 0)) ≡ b → IsTold standings (take (k + 1) users) old after
    by true waits =
        let same : after ≡ lowered left (get_or users k 0) = is ∙ ap (λ (b : Bool). cond b (lowered left (get_or users k 0)) left) waits in
        record {
          fits = omega (arith, ap (λ (l : List ℕ). length l) same, length-set left (get_or users k 0) (get_or left (get_or users k 0) 0 - 1), told.fits);
          told = λ e here. elim (cases_eq e (get_or users k 0)) [
            | inl mine ↦
                let one : one_if (get_or users k 0 == e) ≡ 1 = ap one_if (eq-eqb (get_or users k 0) e (sym mine)) in
                let now : get_or after e 0 ≡ get_or left e 0 - 1 = ap (λ (l : List ℕ). get_or l e 0) same ∙ subst (λ (n : ℕ). get_or (lowered left (get_or users k 0)) n 0 ≡ get_or left n 0 - 1) (sym mine) (get_or-set_same left (get_or users k 0) (get_or left (get_or users k 0) 0 - 1) 0 within) in
                let more : 0 < get_or left e 0 = subst (λ (n : ℕ). 0 < get_or left n 0) (sym mine) (some waits) in
                omega (arith, one, now, more, times_next users k e lt, told.told e here)
            | inr other ↦
                let one : one_if (get_or users k 0 == e) ≡ 0 = ap one_if (false_from_ne_true (get_or users k 0 == e) (λ h. other (sym (eqb-true (get_or users k 0) e h)))) in
                let now : get_or after e 0 ≡ get_or left e 0 = ap (λ (l : List ℕ). get_or l e 0) same ∙ get_or-set_other left (get_or users k 0) e (get_or left (get_or users k 0) 0 - 1) 0 other in
                omega (arith, one, now, times_next users k e lt, told.told e here)
          ];
        }
    by false waits =
        let same : after ≡ left = is ∙ ap (λ (b : Bool). cond b (lowered left (get_or users k 0)) left) waits in
        record {
          fits = ap (λ (l : List ℕ). length l) same ∙ told.fits;
          told = λ e here.
              let one : one_if (get_or users k 0 == e) ≡ 0 = ap one_if (false_from_ne_true (get_or users k 0 == e) (λ h. false≢true (sym waits ∙ subst (λ (n : ℕ). awaits (standing_at standings n) ≡ true) (sym (eqb-true (get_or users k 0) e h)) here))) in
              let now : get_or after e 0 ≡ get_or left e 0 = ap (λ (l : List ℕ). get_or l e 0) same in
              omega (arith, one, now, times_next users k e lt, told.told e here);
        }

past : {X : Type 0} (xs : List X) (i : ℕ) (d : X) → length xs ≤ i → get_or xs i d ≡ d
past [] i d le = refl
past (x ∷ xs) zero d le = absurd (omega (arith, le))
past (x ∷ xs) (suc i) d le = past xs i d (omega (arith, le))

-- only edges of the graph need anything
pub user_within : (graph : Graph) (p e : ℕ) → 0 < times (needs_at (links_of graph) e) p → e < length graph.manifest.lines
user_within graph p e some = elim (cases_Bool (nat_lt e (length graph.manifest.lines))) [
  | inl less ↦ ltb-true e (length graph.manifest.lines) less
  | inr more ↦ absurd (beyond (omega (arith, λ (h : e < length graph.manifest.lines). false≢true (sym more ∙ lt-ltb e (length graph.manifest.lines) h))))
]
  where
    beyond : length graph.manifest.lines ≤ e → ⊥
    beyond le =
        let lines : line_inputs (line_at graph.manifest.lines e) ≡ [] = ap line_inputs (past graph.manifest.lines e no_line le) in
        let noted : list_at graph.recorded e ≡ [] = past graph.recorded e [] (omega (arith, le, graph.recording.fits)) in
        let none : needs_at (links_of graph) e ≡ [] = ap (λ (l : List ℕ). l ++ list_at graph.recorded e) lines ∙ noted in
        omega (arith, some, ap (λ (l : List ℕ). times l p) none)

pub still_more : (a b c : Plan) → IsStill a b → IsStill b c → IsStill a c
still_more a b c one two = record {
  standings = two.standings ∙ one.standings;
  queue = two.queue ∙ one.queue;
  changed = two.changed ∙ one.changed;
  loads = two.loads ∙ one.loads;
  running = two.running ∙ one.running;
  failed = two.failed ∙ one.failed;
  well = two.well ∙ one.well;
  jobs = two.jobs ∙ one.jobs;
  keep = two.keep ∙ one.keep;
}

module _ (graph : Graph) (p : ℕ) (users : List ℕ) (named : (e : ℕ) → times users e ≡ times (needs_at (links_of graph) e) p) (paths : ℕ) (standings : List Standing) (old : List ℕ) (there : List Bool)
    (counted : IsCounted (links_of graph) paths standings old there) (lt : p < length there) (none : has there p ≡ false) where
  pub next_within : (k : ℕ) → k < length users → get_or users k 0 < length standings
  next_within k within =
      let more = times_more users k within in
      let same = named (get_or users k 0) in
      omega (arith, user_within graph p (get_or users k 0) (omega (arith, more, same)), counted.edges)

  pub next_some : (k : ℕ) (left : List ℕ) → k < length users → IsTold standings (take k users) old left → awaits (standing_at standings (get_or users k 0)) ≡ true → 0 < get_or left (get_or users k 0) 0
  next_some k left within told waits =
      let u = get_or users k 0 in
      let one = told.told u waits in
      let count = counted.counts u waits in
      omega (arith, one, count, missing_less there p lt none (needs_at (links_of graph) u), times_more users k within, named u)

  pub counted_all : (left : List ℕ) → IsTold standings users old left → IsCounted (links_of graph) paths standings left (set there p true)
  counted_all left told = record {
    edges = counted.edges;
    known = length-set there p true ∙ counted.known;
    counts = λ e waits. omega (arith, told.told e waits, counted.counts e waits, missing_less there p lt none (needs_at (links_of graph) e), named e);
  }

pub read_number : (xs : List ℕ) (i v w : ℕ) → w ≡ v → v ≡ get_or xs i v → i < length xs → w ≡ get_or xs i 0
read_number [] i v w same read lt = absurd (omega (arith, lt))
read_number (x ∷ xs) zero v w same read lt = same ∙ read
read_number (x ∷ xs) (suc i) v w same read lt = read_number xs i v w same read (omega (arith, lt))

pub read_flag : (xs : List Bool) (i : ℕ) (v w : Bool) → v ≡ get_or xs i v → v ≡ w → i < length xs → has xs i ≡ w
read_flag [] i v w read is lt = absurd (omega (arith, lt))
read_flag (x ∷ xs) zero v w read is lt = sym read ∙ is
read_flag (x ∷ xs) (suc i) v w read is lt = read_flag xs i v w read is (omega (arith, lt))

pub take_all : (xs : List ℕ) (n : ℕ) → length xs ≤ n → take n xs ≡ xs
take_all [] zero le = refl
take_all [] (suc n) le = refl
take_all (x ∷ xs) zero le = absurd (omega (arith, le))
take_all (x ∷ xs) (suc n) le = ap (λ (l : List ℕ). x ∷ l) (take_all xs n (omega (arith, le)))

-- so many of an edge's outputs came in
pub record HaveCome (paths : ℕ) (outputs : List ℕ) (old new : List Bool) : Type 0 where
  pub made : (p : ℕ) → p < paths → has_number outputs p ≡ true → has new p ≡ true
  pub others : (p : ℕ) → has_number outputs p ≡ false → has new p ≡ has old p

listed_push : (xs : List ℕ) (x p : ℕ) → has_number (xs ++ x ∷ []) p ≡ (has_number xs p || (x == p))
listed_push [] x p = or_none (x == p)
  where
    or_none : (b : Bool) → (b || false) ≡ b
    or_none true = refl
    or_none false = refl
listed_push (y ∷ xs) x p = one_more (y == p) (listed_push xs x p)
  where
    one_more : (b : Bool) → has_number (xs ++ x ∷ []) p ≡ (has_number xs p || (x == p)) → (b || has_number (xs ++ x ∷ []) p) ≡ ((b || has_number xs p) || (x == p))
    one_more true rest = refl
    one_more false rest = rest

pub come_next : (paths : ℕ) (outputs : List ℕ) (k : ℕ) (old there after : List Bool) → k < length outputs → length there ≡ paths → after ≡ set there (get_or outputs k 0) true → HaveCome paths (take k outputs) old there → HaveCome paths (take (k + 1) outputs) old after
come_next paths outputs k old there after lt fits is come =
    subst (λ (l : List ℕ). HaveCome paths l old after) (sym (take_more outputs k 0 lt)) (subst (λ (t : List Bool). HaveCome paths (take k outputs ++ get_or outputs k 0 ∷ []) old t) (sym is) record {
      made = λ p within listed. elim (cases_eq p (get_or outputs k 0)) [
        | inl same ↦ subst (λ (n : ℕ). has (set there (get_or outputs k 0) true) n ≡ true) (sym same) (get_or-set_same there (get_or outputs k 0) true false (omega (arith, within, same, fits)))
        | inr other ↦
            get_or-set_other there (get_or outputs k 0) p true false other
            ∙ come.made p within (old_listed p other (sym (listed_push (take k outputs) (get_or outputs k 0) p) ∙ listed))
      ];
      others = λ p unlisted.
          let both = or_parts (has_number (take k outputs) p) (get_or outputs k 0 == p) (sym (listed_push (take k outputs) (get_or outputs k 0) p) ∙ unlisted) in
          get_or-set_other there (get_or outputs k 0) p true false (λ same. false≢true (sym both.1 ∙ eq-eqb (get_or outputs k 0) p (sym same)))
          ∙ come.others p both.0;
    })
  where
    old_listed : (p : ℕ) → (p ≡ get_or outputs k 0 → ⊥) → (has_number (take k outputs) p || (get_or outputs k 0 == p)) ≡ true → has_number (take k outputs) p ≡ true
    old_listed p other is = elim (or_cases (has_number (take k outputs) p) (get_or outputs k 0 == p) is) [
      | inl here ↦ here
      | inr new ↦ absurd (other (sym (eqb-true (get_or outputs k 0) p new)))
    ]

    or_parts : (a b : Bool) → (a || b) ≡ false → (a ≡ false) × (b ≡ false)
    or_parts true b h = absurd (true≢false h)
    or_parts false b h = (refl, h)

-- all of them came in
pub all_come : (outputs : List ℕ) (k : ℕ) (old new : List Bool) → length outputs ≤ k → ((p : ℕ) → has_number outputs p ≡ true → p < length old) → HaveCome (length old) (take k outputs) old new → AreSetAt old new outputs
all_come outputs k old new past within come = subst (λ (l : List ℕ). AreSetAt old new l) (take_all outputs k past) record {
  set = λ p there. come.made p (within p (subst (λ (l : List ℕ). has_number l p ≡ true) (take_all outputs k past) there)) there;
  others = come.others;
}
