-- Which edges are due, one more after another in the order of a cone.
use Rattle.std.proofs.Common.{◌≡◌, ◌↔◌, inl, inr, ℕ, zero, suc, ◌+◌, ◌<◌, Bool, true, false, List, [], ◌∷◌, ◌++◌, Some, map, length, take, get_or, refl, sym, ◌∙◌, subst, arith, append_assoc}
use Rattle.std.proofs.Math.ListN.{set, replicate}
use Rattle.std.proofs.lemmas.Bool.{false≢true}
use Rattle.std.proofs.lemmas.List.{append-nil, get_or-set_other}
use Rattle.model.specs.declared.event.Moment.{Moment}
use Rattle.model.specs.declared.graph.Edge.{Edge}
use Rattle.model.specs.World.{view_of}
use Rattle.model.specs.Graph.{has, has_number, edge_at, maker, inputs}
use Rattle.model.specs.OutOfDate.{IsDue, Counted}
use Rattle.model.specs.Reading.{needs}
use Rattle.model.specs.Records.{Store, recorded_inputs}
use Rattle.model.specs.Schedule.{Step, IsSettled}
use Rattle.theory.specs.Order.{AreMakersFirst}
use Rattle.theory.proofs.Lists.{has-left, has-right, has-cases}
use Rattle.theory.proofs.Nothing.{ReadsAre, reads_where_settled}
use Rattle.theory.proofs.Turns.{settled_by_order, makers_within}
use Rattle.judge.specs.Dues.{AreListed, AreMakersKnown, due_at}
use Rattle.judge.proofs.NumbersAsTexts.{same_or_other, at_has, has_suc, suc_has}

-- ---- the makers of what an edge needs stand before it

pub first_at : (edges : List Edge) (recorded : ℕ → List (List ℕ)) (before order : List ℕ) → AreMakersFirst edges recorded before (map suc order) → (k : ℕ) → k < length order
    → (p : List ℕ) (j : ℕ) → has (needs edges recorded (suc (get_or order k 0))) p ≡ true → maker edges p ≡ Some j → has_number (before ++ map suc (take k order)) j ≡ true
first_at edges recorded before [] first k lt p j need is = absurd (omega (arith, lt))
first_at edges recorded before (e ∷ order) first zero lt p j need is = subst (λ (l : List ℕ). has_number l j ≡ true) (sym (append-nil before)) (first.0 p j need is)
first_at edges recorded before (e ∷ order) first (suc k) lt p j need is =
    subst (λ (l : List ℕ). has_number l j ≡ true) (append_assoc before (suc e ∷ []) (map suc (take k order)))
    (first_at edges recorded (before ++ suc e ∷ []) order first.1 k (omega (arith, lt)) p j need is)

-- ---- what is known of an edge whose makers were decided

module _ (edges : List Edge) (store : Store) (before : List Step) (files : List Moment) (order : List ℕ) (first : AreMakersFirst edges (recorded_inputs store edges) [] (map suc order)) where
  -- what a listed edge reads can be listed
  reads : (e : ℕ) → has_number order e ≡ true → ReadsAre edges (view_of files) (suc e)
  reads e listed = reads_where_settled edges (view_of files) (map suc order) (suc e) below
    where
      below : (q : List ℕ) (j : ℕ) → has (inputs (edge_at edges (suc e))) q ≡ true → maker edges q ≡ Some j → IsSettled edges (map suc order) j
      below q j input is = settled_by_order edges (recorded_inputs store edges) (map suc order) (map suc order) first (λ k h command. h) j
          (makers_within edges (recorded_inputs store edges) [] (map suc order) first (suc e) (has_suc order e listed) q j
          (has-left (inputs (edge_at edges (suc e))) (recorded_inputs store edges (suc e)) q input) is)

  counts : (i : ℕ) (reading : ReadsAre edges (view_of files) i) (p : List ℕ) → (has (reading.paths ++ recorded_inputs store edges i) p ≡ true) ↔ Counted edges store files i p
  counts i reading p = (
    (λ h. elim (has-cases reading.paths (recorded_inputs store edges i) p h) [
      | inl read ↦ inl (reading.has_read p read)
      | inr recorded ↦ inr recorded
    ]),
    (λ counted. elim counted [
      | inl read ↦ has-left reading.paths (recorded_inputs store edges i) p (reading.read_has p read)
      | inr recorded ↦ has-right reading.paths (recorded_inputs store edges i) p recorded
    ]),
  )

  -- of the makers of what the edge at a place needs it is known, where it is of each edge before it
  module _ (k : ℕ) (within : k < length order) (due : List Bool) (so_far : (q : ℕ) → has_number (take k order) q ≡ true → (due_at due q ≡ true) ↔ IsDue edges store before files (suc q)) where
    known : (p : List ℕ) (m : ℕ) → has (needs edges (recorded_inputs store edges) (suc (get_or order k 0))) p ≡ true → maker edges p ≡ Some (suc m) → (due_at due m ≡ true) ↔ IsDue edges store before files (suc m)
    known p m need made = so_far m listed
      where
        found : (q : ℕ) × (suc q ≡ suc m) × (has_number (take k order) q ≡ true)
        found = suc_has (take k order) (suc m) (first_at edges (recorded_inputs store edges) [] order first k within p (suc m) need made)

        listed : has_number (take k order) m ≡ true
        listed = let same : found.0 ≡ m = omega (arith, found.1) in subst (λ (q : ℕ). has_number (take k order) q ≡ true) same found.2

    pub makers_known_by : AreMakersKnown edges store before files due (suc (get_or order k 0))
    makers_known_by =
        let reading = reads (get_or order k 0) (at_has order k 0 within) in
        record { makers = known; read = reading.paths ++ recorded_inputs store edges (suc (get_or order k 0)); counted = counts (suc (get_or order k 0)) reading }

-- ---- none but listed edges

never : (n x : ℕ) → due_at (replicate n false) x ≡ false
never zero x = refl
never (suc n) zero = refl
never (suc n) (suc x) = never n x

pub none_listed : (listed : List ℕ) (n : ℕ) → AreListed listed (replicate n false)
none_listed listed n e is = absurd (false≢true (sym (never n e) ∙ is))

pub listed_one_more : (listed : List ℕ) (due : List Bool) (edge : ℕ) (is : Bool) → has_number listed edge ≡ true → AreListed listed due → AreListed listed (set due edge is)
listed_one_more listed due edge is here so_far e marked = elim (same_or_other edge e) [
  | inl same ↦ subst (λ (k : ℕ). has_number listed k ≡ true) (sym same) here
  | inr other ↦ so_far e (sym (get_or-set_other due edge e is false other) ∙ marked)
]
