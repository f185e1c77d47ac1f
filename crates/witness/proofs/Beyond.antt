-- One round beyond the clean build changes nothing: in an order in which makers come before users, the k-th edge is right
-- after k rounds; and an acyclic graph has such an order.
use Rattle.std.proofs.Common.{◌≡◌, ◌⊎◌, inl, inr, ℕ, zero, suc, ◌+◌, ◌≤◌, ◌==◌, if◌then◌else◌, length, Bool, true, false, List, [], ◌∷◌, Option, Some, None, refl, sym, ◌∙◌, ap, subst, bytes_eq, arith}
use Rattle.std.proofs.lemmas.Bool.{eqb-true, eq-eqb, or_cases, or_left, or_right, false≢true, cases_Bool}
use Rattle.model.specs.declared.graph.Edge.{Edge}
use Rattle.model.specs.World.{View}
use Rattle.model.specs.Calls.{AgreeOn}
use Rattle.model.specs.Graph.{has, has_number, edge_at, maker, outputs, regular_inputs, inputs, IsCommand}
use Rattle.model.specs.Outcome.{Behaviour, GivesTheSame, ends_well, given, reports_of}
use Rattle.model.specs.Clean.{made, round, rounds, sources_of, clean_build}
use Rattle.model.specs.Reading.{IsRead, Itself, Through, IsAbove, Direct, Further, needs}
use Rattle.model.specs.Premises.{HasOneOutcome}
use Rattle.witness.specs.Beyond.{none_recorded, IsAcyclic, ReportsAbove, RoundBeyondChangesNothing}
use Rattle.witness.proofs.CleanLists.{same_bytes, bytes_same, all_from_has, has_from_all, has-left, has-nil, without, without-less, without-has, down_from, down_from-length, down_from-has, maker_has}

-- ---- a list in which each number has one above it has a number above itself

round_about : (above : ℕ → ℕ → Type 0) → ((f d e : ℕ) → above f d → above d e → above f e) → (xs : List ℕ)
    → ((i : ℕ) → has_number xs i ≡ true → (j : ℕ) × (has_number xs j ≡ true) × above j i)
    → (i : ℕ) → has_number xs i ≡ true → (c : ℕ) × above c c
round_about above further [] each i h = absurd (false≢true h)
round_about above further (x ∷ xs) each i h =
    let first = each x (or_left (x == x) (has_number xs x) (eq-eqb x x refl)) in
    elim (cases_Bool (x == first.0)) [
      | inl same ↦ (x, subst (λ (j : ℕ). above j x) (sym (eqb-true x first.0 same)) first.2)
      | inr other ↦ round_about above further xs (inner first.0 (among first.0 other first.1) first.2) first.0 (among first.0 other first.1)
    ]
  where
    among : (j : ℕ) → (x == j) ≡ false → has_number (x ∷ xs) j ≡ true → has_number xs j ≡ true
    among j other found = elim (or_cases (x == j) (has_number xs j) found) [
      | inl here ↦ absurd (false≢true (sym other ∙ here))
      | inr there ↦ there
    ]

    inner : (j : ℕ) → has_number xs j ≡ true → above j x → (k : ℕ) → has_number xs k ≡ true → (m : ℕ) × (has_number xs m ≡ true) × above m k
    inner j inside over k found =
        let next = each k (or_right (x == k) (has_number xs k) found) in
        elim (cases_Bool (x == next.0)) [
          | inl same ↦ (j, inside, further j x k over (subst (λ (m : ℕ). above m k) (sym (eqb-true x next.0 same)) next.2))
          | inr other ↦ (next.0, among next.0 other next.1, next.2)
        ]

-- ---- edges whose inputs are made by edges that are done

abbrev is_done : List ℕ → Option ℕ → Bool
is_done done None = true
is_done done (Some j) = has_number done j

module _ (edges : List Edge) where
  abbrev above : ℕ → ℕ → Type 0
  above j i = IsAbove (needs edges none_recorded) (maker edges) j i

  abbrev IsReady : List ℕ → ℕ → Type 0
  IsReady done i = (p : List ℕ) (j : ℕ) → has (inputs (edge_at edges i)) p ≡ true → maker edges p ≡ Some j → has_number done j ≡ true

  abbrev IsClosed : List ℕ → Type 0
  IsClosed done = (i : ℕ) → has_number done i ≡ true → IsReady done i

  needs_inputs : (i : ℕ) (p : List ℕ) → has (needs edges none_recorded i) p ≡ true → has (inputs (edge_at edges i)) p ≡ true
  needs_inputs i p h = has-nil (inputs (edge_at edges i)) p h

  above_done : (done : List ℕ) → IsClosed done → (j i : ℕ) → IsReady done i → above j i → has_number done j ≡ true
  above_done done closed j i ready (Direct _ _ p needed made_by) = ready p j (needs_inputs i p needed) made_by
  above_done done closed j i ready (Further _ d _ first second) =
      above_done done closed j d (closed d (above_done done closed d i ready second)) first

  -- a path that is needed, and whose maker is not done
  record Undone (done : List ℕ) (ps : List (List ℕ)) : Type 0 where
    path : List ℕ
    edge : ℕ
    needed : has ps path ≡ true
    made : maker edges path ≡ Some edge
    undone : has_number done edge ≡ false

  abbrev AllDone : List ℕ → List (List ℕ) → Type 0
  AllDone done ps = (p : List ℕ) (j : ℕ) → has ps p ≡ true → maker edges p ≡ Some j → has_number done j ≡ true

  undone_later : (done : List ℕ) (q : List ℕ) (ps : List (List ℕ)) → Undone done ps → Undone done (q ∷ ps)
  undone_later done q ps u = record { path = u.path; edge = u.edge; needed = or_right (bytes_eq q u.path) (has ps u.path) u.needed; made = u.made; undone = u.undone }

  done_first : (done : List ℕ) (q : List ℕ) (ps : List (List ℕ)) → ((j : ℕ) → maker edges q ≡ Some j → has_number done j ≡ true) → AllDone done ps → AllDone done (q ∷ ps)
  done_first done q ps here all p j h is = elim (or_cases (bytes_eq q p) (has ps p) h) [
    | inl same ↦ here j (subst (λ (x : List ℕ). maker edges x ≡ Some j) (sym (same_bytes q p same)) is)
    | inr there ↦ all p j there is
  ]

  -- all of these paths are made by edges that are done, or one is not
  undone_in : (done : List ℕ) (ps : List (List ℕ)) → AllDone done ps ⊎ Undone done ps
  undone_in done [] = inl (λ p j h is. absurd (false≢true h))
  undone_in done (q ∷ ps) = elim (undone_in done ps) [
    | inr u ↦ inr (undone_later done q ps u)
    | inl all ↦ at_maker (maker edges q) refl all
  ]
    where
      at_maker : (m : Option ℕ) → maker edges q ≡ m → AllDone done ps → AllDone done (q ∷ ps) ⊎ Undone done (q ∷ ps)
      at_maker None is all = inl (done_first done q ps (λ j other. absurd (none_some j (sym is ∙ other))) all)
        where
          none_some : (j : ℕ) → None ≡ Some j → ⊥
          none_some j e = cc
      at_maker (Some j) is all = elim (cases_Bool (has_number done j)) [
        | inl was ↦ inl (done_first done q ps (λ k other. subst (λ (n : ℕ). has_number done n ≡ true) (some_same j k (sym is ∙ other)) was) all)
        | inr not_yet ↦ inr (record { path = q; edge = j; needed = or_left (bytes_eq q q) (has ps q) (bytes_same q); made = is; undone = not_yet })
      ]
        where
          some_same : (j k : ℕ) → Some j ≡ Some k → j ≡ k
          some_same j k e = cc

  -- one of these edges is ready, or each needs one that is not done
  ready_in : (done : List ℕ) (todo : List ℕ)
      → ((i : ℕ) × (has_number todo i ≡ true) × IsReady done i)
      ⊎ ((i : ℕ) → has_number todo i ≡ true → Undone done (inputs (edge_at edges i)))
  ready_in done [] = inr (λ i h. absurd (false≢true h))
  ready_in done (x ∷ xs) = elim (ready_in done xs) [
    | inl found ↦ inl (found.0, or_right (x == found.0) (has_number xs found.0) found.1, found.2)
    | inr none ↦ elim (undone_in done (inputs (edge_at edges x))) [
      | inl all ↦ inl (x, or_left (x == x) (has_number xs x) (eq-eqb x x refl), all)
      | inr u ↦ inr (λ i h. elim (or_cases (x == i) (has_number xs i) h) [
        | inl here ↦ subst (λ (n : ℕ). Undone done (inputs (edge_at edges n))) (eqb-true x i here) u
        | inr there ↦ none i there
      ])
    ]
  ]

-- ---- the rounds

module _ (B : Behaviour) (edges : List Edge) (files : View) where
  abbrev sources : View
  sources = sources_of edges files

  abbrev at : ℕ → View
  at k = rounds B edges sources k

  abbrev clean : View
  clean = clean_build B edges files

  source_at : (k : ℕ) (p : List ℕ) → maker edges p ≡ None → at k p ≡ sources p
  source_at zero p is = refl
  source_at (suc k) p is = ap (λ (m : Option ℕ). made B edges sources (at k) p m) is

  alias_at : (k : ℕ) (p : List ℕ) (j : ℕ) → maker edges p ≡ Some j → (edge_at edges j).phony ≡ true → at k p ≡ sources p
  alias_at zero p j is phony = refl
  alias_at (suc k) p j is phony =
      ap (λ (m : Option ℕ). made B edges sources (at k) p m) is
      ∙ ap (λ (b : Bool). if b then sources p else given B (edge_at edges j).act (at k) p) phony

  command_at : (k : ℕ) (p : List ℕ) (j : ℕ) → maker edges p ≡ Some j → (edge_at edges j).phony ≡ false → at (suc k) p ≡ given B (edge_at edges j).act (at k) p
  command_at k p j is command =
      ap (λ (m : Option ℕ). made B edges sources (at k) p m) is
      ∙ ap (λ (b : Bool). if b then sources p else given B (edge_at edges j).act (at k) p) command

  -- what the edge makes is the same after k rounds and after any more
  abbrev IsRight : ℕ → ℕ → Type 0
  IsRight k i = (k1 k2 : ℕ) → k ≤ k1 → k ≤ k2 → (p : List ℕ) → maker edges p ≡ Some i → at k1 p ≡ at k2 p

  abbrev AllRight : ℕ → List ℕ → Type 0
  AllRight k done = (i : ℕ) → has_number done i ≡ true → IsRight k i

  module _ (k : ℕ) (le : k ≤ length edges) (done : List ℕ) (closed : IsClosed edges done) (right : AllRight k done) where
    read_right : (k1 : ℕ) → k ≤ k1 → (i : ℕ) (p : List ℕ) → IsRead edges clean i p → IsReady edges done i → at k1 p ≡ clean p
    read_right k1 after i p (Itself _ _ h counts) ready = by_maker (maker edges p) refl
      where
        by_maker : (m : Option ℕ) → maker edges p ≡ m → at k1 p ≡ clean p
        by_maker None is = source_at k1 p is ∙ sym (source_at (length edges) p is)
        by_maker (Some j) is =
            right j (ready p j (has-left (regular_inputs (edge_at edges i)) (edge_at edges i).order_only_inputs p h) is) k1 (length edges) after le p is
    read_right k1 after i p (Through _ j q _ h alias read) ready =
        read_right k1 after j p read
        (closed j (ready q j (has-left (regular_inputs (edge_at edges i)) (edge_at edges i).order_only_inputs q h) alias.made))

    module _ (one : (i : ℕ) → IsCommand edges i → HasOneOutcome B edges clean i) (from_above : (i : ℕ) → IsCommand edges i → ReportsAbove B edges clean i) where
      reports_agree : (k1 k2 : ℕ) → k ≤ k1 → k ≤ k2 → (i : ℕ) → IsCommand edges i → IsReady edges done i → ends_well B (edge_at edges i).act (at k1) ≡ true
          → AgreeOn (reports_of B (edge_at edges i).act (at k1)) (at k1) (at k2)
      reports_agree k1 k2 after1 after2 i command ready well =
          all_from_has (λ p. at k1 p ≡ at k2 p) (reports_of B (edge_at edges i).act (at k1)) (λ p h. by_maker p h (maker edges p) refl)
        where
          at_command : (p : List ℕ) (j : ℕ) → has (reports_of B (edge_at edges i).act (at k1)) p ≡ true → maker edges p ≡ Some j → (edge_at edges j).phony ≡ false → at k1 p ≡ at k2 p
          at_command p j h is is_command =
              right j
              (above_done edges done closed j i ready
              (from_above i command (at k1) (λ q read. read_right k1 after1 i q read ready) well p j h is is_command))
              k1 k2 after1 after2 p is

          by_maker : (p : List ℕ) → has (reports_of B (edge_at edges i).act (at k1)) p ≡ true → (m : Option ℕ) → maker edges p ≡ m → at k1 p ≡ at k2 p
          by_maker p h None is = source_at k1 p is ∙ sym (source_at k2 p is)
          by_maker p h (Some j) is = elim (cases_Bool (edge_at edges j).phony) [
            | inl phony ↦ alias_at k1 p j is phony ∙ sym (alias_at k2 p j is phony)
            | inr is_command ↦ at_command p j h is is_command
          ]

      same : (k1 k2 : ℕ) → k ≤ k1 → k ≤ k2 → (i : ℕ) → IsCommand edges i → IsReady edges done i → ends_well B (edge_at edges i).act (at k1) ≡ true
          → GivesTheSame B (edge_at edges i).act (outputs (edge_at edges i)) (at k1) (at k2)
      same k1 k2 after1 after2 i command ready well =
          one i command (at k1) (at k2)
          (λ p read. read_right k1 after1 i p read ready) (λ p read. read_right k2 after2 i p read ready)
          well (reports_agree k1 k2 after1 after2 i command ready well)

      given_same : (k1 k2 : ℕ) → k ≤ k1 → k ≤ k2 → (i : ℕ) → IsCommand edges i → IsReady edges done i
          → (p : List ℕ) → has (outputs (edge_at edges i)) p ≡ true → given B (edge_at edges i).act (at k1) p ≡ given B (edge_at edges i).act (at k2) p
      given_same k1 k2 after1 after2 i command ready p made_by = elim (cases_Bool (ends_well B (edge_at edges i).act (at k1))) [
        | inl well ↦
            sym (has_from_all (λ o. given B (edge_at edges i).act (at k2) o ≡ given B (edge_at edges i).act (at k1) o) (outputs (edge_at edges i)) p
            (same k1 k2 after1 after2 i command ready well).contents made_by)
        | inr fails ↦ elim (cases_Bool (ends_well B (edge_at edges i).act (at k2))) [
          | inl well ↦ absurd (false≢true (sym fails ∙ ((same k2 k1 after2 after1 i command ready well).ends ∙ well)))
          | inr fails_too ↦ nothing (at k1) fails ∙ sym (nothing (at k2) fails_too)
        ]
      ]
        where
          nothing : (view : View) → ends_well B (edge_at edges i).act view ≡ false → given B (edge_at edges i).act view p ≡ None
          nothing view fails = rw fails refl

      next_right : (i : ℕ) → IsReady edges done i → IsRight (suc k) i
      next_right i ready zero k2 after1 after2 p is = absurd (omega arith)
      next_right i ready (suc k1) zero after1 after2 p is = absurd (omega arith)
      next_right i ready (suc k1) (suc k2) after1 after2 p is = elim (cases_Bool (edge_at edges i).phony) [
        | inl phony ↦ alias_at (suc k1) p i is phony ∙ sym (alias_at (suc k2) p i is phony)
        | inr command ↦
            command_at k1 p i is command
            ∙ (given_same k1 k2 (omega arith) (omega arith) i command ready p (maker_has edges p i is).2
            ∙ sym (command_at k2 p i is command))
      ]

  -- ---- the order

  module _ (acyclic : IsAcyclic edges) (one : (i : ℕ) → IsCommand edges i → HasOneOutcome B edges clean i) (from_above : (i : ℕ) → IsCommand edges i → ReportsAbove B edges clean i) where
    abbrev Covers : List ℕ → List ℕ → Type 0
    Covers todo done = (p : List ℕ) (j : ℕ) → maker edges p ≡ Some j → (has_number done j ≡ true) ⊎ (has_number todo j ≡ true)

    later_right : (k : ℕ) (i : ℕ) → IsRight k i → IsRight (suc k) i
    later_right k i right k1 k2 after1 after2 p is = right k1 k2 (omega arith) (omega arith) p is

    closed-more : (done : List ℕ) (i : ℕ) → IsClosed edges done → IsReady edges done i → IsClosed edges (i ∷ done)
    closed-more done i closed ready e h p j needed is = or_right (i == j) (has_number done j) (elim (or_cases (i == e) (has_number done e) h) [
      | inl here ↦ ready p j (subst (λ (n : ℕ). has (inputs (edge_at edges n)) p ≡ true) (sym (eqb-true i e here)) needed) is
      | inr there ↦ closed e there p j needed is
    ])

    covers-more : (todo done : List ℕ) (i : ℕ) → Covers todo done → Covers (without i todo) (i ∷ done)
    covers-more todo done i covers p j is = elim (covers p j is) [
      | inl was ↦ inl (or_right (i == j) (has_number done j) was)
      | inr waits ↦ elim (cases_Bool (i == j)) [
        | inl here ↦ inl (or_left (i == j) (has_number done j) here)
        | inr other ↦ inr (without-has i j todo (λ e. false≢true (sym other ∙ eq-eqb i j e)) waits)
      ]
    ]

    right-more : (k : ℕ) (done : List ℕ) (i : ℕ) → AllRight k done → IsRight (suc k) i → AllRight (suc k) (i ∷ done)
    right-more k done i right new e h = elim (or_cases (i == e) (has_number done e) h) [
      | inl here ↦ subst (λ (n : ℕ). IsRight (suc k) n) (eqb-true i e here) new
      | inr there ↦ later_right k e (right e there)
    ]

    in_todo : (todo done : List ℕ) → Covers todo done → (i : ℕ) → Undone edges done (inputs (edge_at edges i))
        → (j : ℕ) × (has_number todo j ≡ true) × above edges j i
    in_todo todo done covers i u = (u.edge, waits (covers u.path u.edge u.made), Direct u.edge i u.path (has-left (inputs (edge_at edges i)) [] u.path u.needed) u.made)
      where
        waits : (has_number done u.edge ≡ true) ⊎ (has_number todo u.edge ≡ true) → has_number todo u.edge ≡ true
        waits (inl was) = absurd (false≢true (sym u.undone ∙ was))
        waits (inr is) = is

    all_right : (m k : ℕ) (todo done : List ℕ) → length todo ≤ m → k + m ≤ length edges → Covers todo done → IsClosed edges done → AllRight k done
        → (p : List ℕ) (j : ℕ) → maker edges p ≡ Some j → IsRight (length edges) j
    all_right m k [] done few within covers closed right p j is = elim (covers p j is) [
      | inl was ↦ λ k1 k2 after1 after2. right j was k1 k2 (omega arith) (omega arith)
      | inr waits ↦ absurd (false≢true waits)
    ]
    all_right zero k (x ∷ xs) done few within covers closed right p j is = absurd (omega arith)
    all_right (suc m) k (x ∷ xs) done few within covers closed right p j is = elim (ready_in edges done (x ∷ xs)) [
      | inl found ↦
          let less = without-less found.0 (x ∷ xs) found.1 in
          all_right m (suc k) (without found.0 (x ∷ xs)) (found.0 ∷ done) (omega (arith, less)) (omega arith)
          (covers-more (x ∷ xs) done found.0 covers) (closed-more done found.0 closed found.2)
          (right-more k done found.0 right (next_right k (omega arith) done closed right one from_above found.0 found.2))
          p j is
      | inr none ↦
          let circle = round_about (above edges) (λ f d e. Further f d e) (x ∷ xs) (λ i h. in_todo (x ∷ xs) done covers i (none i h))
          x (or_left (x == x) (has_number xs x) (eq-eqb x x refl)) in
          absurd (acyclic circle.0 circle.1)
    ]

    each_right : (p : List ℕ) (j : ℕ) → maker edges p ≡ Some j → IsRight (length edges) j
    each_right =
        let long = down_from-length (length edges) in
        all_right (length edges) 0 (down_from (length edges)) [] (omega (arith, long)) (omega arith)
        (λ p j is. let m = maker_has edges p j is in inr (down_from-has (length edges) j m.0 m.1))
        (λ i h. absurd (false≢true h)) (λ i h. absurd (false≢true h))

    beyond : (p : List ℕ) → round B edges (sources_of edges files) (clean_build B edges files) p ≡ clean_build B edges files p
    beyond p = by_maker (maker edges p) refl
      where
        by_maker : (m : Option ℕ) → maker edges p ≡ m → at (suc (length edges)) p ≡ at (length edges) p
        by_maker None is = source_at (suc (length edges)) p is ∙ sym (source_at (length edges) p is)
        by_maker (Some j) is = each_right p j is (suc (length edges)) (length edges) (omega arith) (omega arith) p is

pub round_beyond : RoundBeyondChangesNothing
round_beyond B edges files acyclic one from_above p = beyond B edges files acyclic one from_above p
