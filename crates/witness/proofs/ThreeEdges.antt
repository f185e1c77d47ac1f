-- The graph whose edge names a dyndep file, before and after the load.
use Rattle.std.proofs.Common.{◌≡◌, ◌⊎◌, inl, inr, ℕ, zero, suc, ◌<◌, ◌==◌, true, false, List, [], ◌∷◌, Some, None, refl, sym, ◌∙◌, subst, arith}
use Rattle.std.proofs.lemmas.Bool.{false≢true, or_cases, eqb-true}
use Rattle.std.specs.Prelude.{codes}
use Rattle.model.specs.declared.graph.Edge.{Edge}
use Rattle.model.specs.Graph.{has, has_number, edge_at, maker, IsCommand}
use Rattle.model.specs.Reading.{IsInCone, Wanted, Needed, Validating, needs}
use Rattle.model.specs.Records.{recorded_inputs}
use Rattle.model.specs.Schedule.{Task, Step, Judged, Started, IsSettled, Done, Alias, IsSettledPath, MayBeJudged, NoneMayBeJudged, judged_in, done_in}
use Rattle.model.specs.Phases.{NoLoadIsDue, IsDueLoad, IsNextLoad, IsLawfulPhase}
use Rattle.witness.specs.Small.{no_records}
use Rattle.witness.specs.Dyndep.{declared, grown, first_phase, clean_first}
use Rattle.witness.proofs.RowLists.{all_has, none_some}

some_same : (i j : ℕ) → Some i ≡ Some j → i ≡ j
some_same i j e = cc

-- what is built: `o`, over these edges
abbrev pub task_over : List Edge → Task
task_over edges = record {
  graph = record { edges = edges; pools = []; defaults = []; builddir = [] };
  recorded = recorded_inputs no_records edges;
  targets = codes "o" ∷ [];
  jobs = 4;
  keep = 1;
}

pub three_of_grown : (s : List ℕ) (k : ℕ) → IsCommand (grown s) k → (k ≡ 1) ⊎ (k ≡ 2) ⊎ (k ≡ 3)
three_of_grown s zero command = absurd (false≢true (sym command))
three_of_grown s (suc zero) command = inl refl
three_of_grown s (suc (suc zero)) command = inr (inl refl)
three_of_grown s (suc (suc (suc zero))) command = inr (inr refl)
three_of_grown s (suc (suc (suc (suc k)))) command = absurd (false≢true (sym command))

is_one : (k : ℕ) → has_number (1 ∷ []) k ≡ true → k ≡ 1
is_one k h = elim (or_cases (1 == k) false h) [ inl here ↦ sym (eqb-true 1 k here) | inr none ↦ absurd (false≢true none) ]

judged_twice : (before : List Step) (i k : ℕ) → has_number (judged_in before) i ≡ true → k ≡ i → has_number (judged_in before) k ≡ false → ⊥
judged_twice before i k judged same once = false≢true (sym once ∙ subst (λ (n : ℕ). has_number (judged_in before) n ≡ true) (sym same) judged)

no_pool : {A : Type 0} (name : List ℕ) → None ≡ Some name → A
no_pool name e = absurd (none_some name e)

-- ---- before the load

module _ (s : List ℕ) where
  -- a list of numbers without it settles no command
  unsettled : (i : ℕ) (numbers : List ℕ) → IsCommand (declared s) i → has_number numbers i ≡ false → IsSettled (declared s) numbers i → ⊥
  unsettled i numbers command none (Done _ _ h) = false≢true (sym none ∙ h)
  unsettled i numbers command none (Alias _ phony each) = false≢true (sym command ∙ phony)

  -- the third edge is needed by none before the load
  pub two_in_cone : (i : ℕ) → IsInCone (declared s) (recorded_inputs no_records (declared s)) (codes "o" ∷ []) i → (i ≡ 1) ⊎ (i ≡ 2)
  two_in_cone i (Wanted _ p h made) =
      all_has (λ q. maker (declared s) q ≡ Some i → (i ≡ 1) ⊎ (i ≡ 2)) (codes "o" ∷ []) p (λ m. inr (sym (some_same 2 i m)), tt) h made
  two_in_cone i (Needed _ j p inner h made) = elim (two_in_cone j inner) [
    | inl one ↦
        let here : has (needs (declared s) (recorded_inputs no_records (declared s)) 1) p ≡ true = subst (λ (n : ℕ). has (needs (declared s) (recorded_inputs no_records (declared s)) n) p ≡ true) one h in
        all_has (λ q. maker (declared s) q ≡ Some i → (i ≡ 1) ⊎ (i ≡ 2)) (codes "dd.src" ∷ []) p (λ m. absurd (none_some i m), tt) here made
    | inr two ↦
        let here : has (needs (declared s) (recorded_inputs no_records (declared s)) 2) p ≡ true = subst (λ (n : ℕ). has (needs (declared s) (recorded_inputs no_records (declared s)) n) p ≡ true) two h in
        all_has (λ q. maker (declared s) q ≡ Some i → (i ≡ 1) ⊎ (i ≡ 2)) (codes "a" ∷ codes "dd" ∷ []) p (λ m. absurd (none_some i m), (λ m. inl (sym (some_same 1 i m)), tt)) here made
  ]
  two_in_cone i (Validating _ j p inner h made) = elim (two_in_cone j inner) [
    | inl one ↦ let no : false ≡ true = subst (λ (n : ℕ). has (edge_at (declared s) n).validations p ≡ true) one h in absurd (false≢true no)
    | inr two ↦ let no : false ≡ true = subst (λ (n : ℕ). has (edge_at (declared s) n).validations p ≡ true) two h in absurd (false≢true no)
  ]

  pub second_in_cone : IsInCone (declared s) (recorded_inputs no_records (declared s)) (codes "o" ∷ []) 2
  second_in_cone = Wanted 2 (codes "o") refl refl

  pub names_dd : (i : ℕ) (file : List ℕ) → (edge_at (declared s) i).dyndep ≡ Some file → (i ≡ 2) × (file ≡ codes "dd")
  names_dd zero file is = absurd (none_some file is)
  names_dd (suc zero) file is = absurd (none_some file is)
  names_dd (suc (suc zero)) file is = (refl, cc)
  names_dd (suc (suc (suc zero))) file is = absurd (none_some file is)
  names_dd (suc (suc (suc (suc i)))) file is = absurd (none_some file is)

  -- nothing is loaded before the first edge is settled
  no_load : (before : List Step) → has_number (done_in before) 1 ≡ false → NoLoadIsDue (task_over (declared s)) before
  no_load before none file due =
      let dd : IsSettledPath (declared s) before (codes "dd") = subst (λ (f : List ℕ). IsSettledPath (declared s) before f) (names_dd due.edge file due.names).1 due.settled in
      unsettled 1 (done_in before) refl none (dd 1 refl)

  -- no further edge may be judged until then
  one_judged : (before : List Step) → has_number (judged_in before) 1 ≡ true → has_number (done_in before) 1 ≡ false → NoneMayBeJudged (task_over (declared s)) before
  one_judged before judged none k may = elim (two_in_cone k may.within) [
    | inl one ↦ judged_twice before 1 k judged one may.once
    | inr two ↦
        let here : MayBeJudged (task_over (declared s)) before 2 = subst (λ (n : ℕ). MayBeJudged (task_over (declared s)) before n) two may in
        unsettled 1 (done_in before) refl none (here.ready (codes "dd") refl 1 refl)
  ]

  none_below : (k : ℕ) → k < 1 → IsCommand (declared s) k → ⊥
  none_below zero lt command = false≢true (sym command)
  none_below (suc k) lt command = omega (arith, lt)

  pub first_lawful : IsLawfulPhase (task_over (declared s)) [] first_phase
  first_lawful = record {
    lawful = (
      (
        record {
          within = Needed 1 2 (codes "dd") second_in_cone refl refl;
          command = refl;
          once = refl;
          ready = λ p h. all_has (λ q. IsSettledPath (declared s) [] q) (codes "dd.src" ∷ []) p (λ j made. absurd (none_some j made), tt) h;
        },
        λ k lt may. none_below k lt may.command,
      ),
      (
        (
          one_judged (Judged 1 true ∷ []) refl refl,
          record { stale = refl; once = refl; job = inr (omega arith); pool = λ name some. no_pool name some; keep = inr (omega arith) },
          λ k lt may. let one = is_one k may.stale in omega (arith, lt, one),
        ),
        (
          (
            refl,
            one_judged (Judged 1 true ∷ Started 1 ∷ []) refl refl,
            λ k may. false≢true (sym may.once ∙ may.stale),
          ),
          tt,
        ),
      ),
    );
    unloaded = (no_load [] refl, (no_load (Judged 1 true ∷ []) refl, (no_load (Judged 1 true ∷ Started 1 ∷ []) refl, tt)));
  }

  -- where all is up to date
  pub clean_lawful : IsLawfulPhase (task_over (declared s)) [] clean_first
  clean_lawful = record {
    lawful = (
      (
        record {
          within = Needed 1 2 (codes "dd") second_in_cone refl refl;
          command = refl;
          once = refl;
          ready = λ p h. all_has (λ q. IsSettledPath (declared s) [] q) (codes "dd.src" ∷ []) p (λ j made. absurd (none_some j made), tt) h;
        },
        λ k lt may. none_below k lt may.command,
      ),
      tt,
    );
    unloaded = (no_load [] refl, tt);
  }

  -- the file is loaded once its edge is judged clean or ended well
  module _ (before : List Step) (done : has_number (done_in before) 1 ≡ true) where
    dd_settled : IsSettledPath (declared s) before (codes "dd")
    dd_settled j made = subst (λ (n : ℕ). IsSettled (declared s) (done_in before) n) (some_same 1 j made) (Done 1 refl done)

    pub load_due : IsDueLoad (task_over (declared s)) before (codes "dd")
    load_due = record { edge = 2; within = second_in_cone; names = refl; settled = dd_settled }

    pub load_next : IsNextLoad (task_over (declared s)) before (codes "dd")
    load_next = record { due = load_due; lowest = λ other due. inl (names_dd due.edge other due.names).1 }
