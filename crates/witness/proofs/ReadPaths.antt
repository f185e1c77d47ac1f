-- What an edge reads, where a phony stands for what commands make, and the verdicts on edges.
use Rattle.std.proofs.Common.{◌≡◌, inl, inr, ℕ, Bool, true, false, List, [], ◌∷◌, ◌++◌, Option, Some, None, is_some, refl, sym, ◌∙◌, subst, bytes_eq}
use Rattle.std.proofs.lemmas.Bool.{false≢true, cases_Bool, or_left, or_right}
use Rattle.model.specs.declared.event.Moment.{Moment}
use Rattle.model.specs.declared.graph.Edge.{Edge}
use Rattle.model.specs.declared.record.Record.{Record}
use Rattle.model.specs.World.{View, view_of}
use Rattle.model.specs.Graph.{has, edge_at, maker, regular_inputs, IsCommand}
use Rattle.model.specs.Reading.{IsAlias, Counts, IsRead, Itself, Through}
use Rattle.model.specs.Judgement.{reason_of}
use Rattle.model.specs.OutOfDate.{ListsCounted, IsVerdict, facts_of}
use Rattle.witness.specs.Project.{store_of}
use Rattle.witness.proofs.RichLists.{none_some, some_same, all_has, bytes_same, has-left, has-right, has-cases, same_test, tests_same}
use Rattle.witness.proofs.Graphs.{none_recorded, is_flat, command_behind}

module _ (es : List Edge) where
  abbrev pub stands_for : Bool → List ℕ → List (List ℕ) → List (List ℕ)
  stands_for true p behind = behind
  stands_for false p behind = p ∷ []

  abbrev pub read_at : List ℕ → Option ℕ → List (List ℕ)
  read_at p None = p ∷ []
  read_at p (Some j) = stands_for (edge_at es j).phony p (regular_inputs (edge_at es j))

  abbrev pub read_by : List (List ℕ) → List (List ℕ)
  read_by [] = []
  read_by (p ∷ ps) = read_at p (maker es p) ++ read_by ps

  -- the paths that edge i reads
  abbrev pub reading : ℕ → List (List ℕ)
  reading i = read_by (regular_inputs (edge_at es i))

  no_alias : (p : List ℕ) → ((j : ℕ) → maker es p ≡ Some j → IsCommand es j) → (j : ℕ) → IsAlias es p j → ⊥
  no_alias p command j alias = false≢true (sym (command j alias.made) ∙ alias.phony)

  in_reading : (ps : List (List ℕ)) (q p : List ℕ) → has ps q ≡ true → has (read_at q (maker es q)) p ≡ true → has (read_by ps) p ≡ true
  in_reading [] q p h here = absurd (false≢true h)
  in_reading (x ∷ ps) q p h here = elim (has-cases (x ∷ []) ps q h) [
    | inl first ↦
        has-left (read_at x (maker es x)) (read_by ps) p
        (subst (λ (y : List ℕ). has (read_at y (maker es y)) p ≡ true) (all_has (λ y. y ≡ x) (x ∷ []) q (refl, tt) first) here)
    | inr more ↦ has-right (read_at x (maker es x)) (read_by ps) p (in_reading ps q p more here)
  ]

  module _ (flat : is_flat es ≡ true) (view : View) where
    behind_phony : (j : ℕ) (p : List ℕ) (k : ℕ) → (edge_at es j).phony ≡ true → has (regular_inputs (edge_at es j)) p ≡ true → maker es p ≡ Some k → IsCommand es k
    behind_phony j p k phony h made = command_behind es flat j p k phony (has-left (regular_inputs (edge_at es j)) (edge_at es j).order_only_inputs p h) made

    read_one : (i : ℕ) (p q : List ℕ) (o : Option ℕ) → maker es q ≡ o → has (regular_inputs (edge_at es i)) q ≡ true → has (read_at q o) p ≡ true → IsRead es view i p
    read_one i p q None is h here =
        subst (λ (r : List ℕ). IsRead es view i r) (sym (all_has (λ r. r ≡ q) (q ∷ []) p (refl, tt) here)) (Itself i q h (inl (λ j alias. none_some j (sym is ∙ alias.made))))
    read_one i p q (Some j) is h here = elim (cases_Bool (edge_at es j).phony) [
      | inl phony ↦
          let inner : has (regular_inputs (edge_at es j)) p ≡ true = subst (λ (b : Bool). has (stands_for b q (regular_inputs (edge_at es j))) p ≡ true) phony here in
          Through i j q p h (record { made = is; phony = phony }) (Itself j p inner (inl (no_alias p (λ k made. behind_phony j p k phony inner made))))
      | inr command ↦
          let one : has (q ∷ []) p ≡ true = subst (λ (b : Bool). has (stands_for b q (regular_inputs (edge_at es j))) p ≡ true) command here in
          subst (λ (r : List ℕ). IsRead es view i r) (sym (all_has (λ r. r ≡ q) (q ∷ []) p (refl, tt) one))
          (Itself i q h (inl (no_alias q (λ k made. subst (λ (n : ℕ). IsCommand es n) (some_same j k (sym is ∙ made)) command))))
    ]

    read_all : (i : ℕ) (p : List ℕ) (ps : List (List ℕ)) → ((q : List ℕ) → has ps q ≡ true → has (regular_inputs (edge_at es i)) q ≡ true) → has (read_by ps) p ≡ true → IsRead es view i p
    read_all i p [] among h = absurd (false≢true h)
    read_all i p (q ∷ ps) among h = elim (has-cases (read_at q (maker es q)) (read_by ps) p h) [
      | inl here ↦ read_one i p q (maker es q) refl (among q (or_left (bytes_eq q q) (has ps q) (bytes_same q))) here
      | inr more ↦ read_all i p ps (λ r there. among r (or_right (bytes_eq q r) (has ps r) there)) more
    ]

    pub is_read : (i : ℕ) (p : List ℕ) → has (reading i) p ≡ true → IsRead es view i p
    is_read i p h = read_all i p (regular_inputs (edge_at es i)) (λ q here. here) h

    -- no path of a phony counts by itself
    module _ (silent : (q : List ℕ) (j : ℕ) → IsAlias es q j → Counts es view q → ⊥) where
      itself_at : (p : List ℕ) (o : Option ℕ) → maker es p ≡ o → Counts es view p → has (read_at p o) p ≡ true
      itself_at p None is counts = or_left (bytes_eq p p) false (bytes_same p)
      itself_at p (Some j) is counts = elim (cases_Bool (edge_at es j).phony) [
        | inl phony ↦ absurd (silent p j (record { made = is; phony = phony }) counts)
        | inr command ↦ subst (λ (b : Bool). has (stands_for b p (regular_inputs (edge_at es j))) p ≡ true) (sym command) (or_left (bytes_eq p p) false (bytes_same p))
      ]

      behind_of : (j : ℕ) (p : List ℕ) → (edge_at es j).phony ≡ true → IsRead es view j p → has (regular_inputs (edge_at es j)) p ≡ true
      behind_of j p phony (Itself _ _ h counts) = h
      behind_of j p phony (Through _ k q _ h alias read) = absurd (no_alias q (λ m made. behind_phony j q m phony h made) k alias)

      pub in_list : (i : ℕ) (p : List ℕ) → IsRead es view i p → has (reading i) p ≡ true
      in_list i p (Itself _ _ h counts) = in_reading (regular_inputs (edge_at es i)) p p h (itself_at p (maker es p) refl counts)
      in_list i p (Through _ j q _ h alias read) =
          in_reading (regular_inputs (edge_at es i)) q p h
          (subst (λ (o : Option ℕ). has (read_at q o) p ≡ true) (sym alias.made)
          (subst (λ (b : Bool). has (stands_for b q (regular_inputs (edge_at es j))) p ≡ true) (sym alias.phony) (behind_of j p alias.phony read)))

  module _ (flat : is_flat es ≡ true) (records : List Record) (files : List Moment) (silent : (q : List ℕ) (j : ℕ) → IsAlias es q j → Counts es (view_of files) q → ⊥) where
    pub counted : (i : ℕ) → ListsCounted es (store_of records) files i (reading i)
    counted i p = (
      λ h. inl (is_read flat (view_of files) i p h),
      λ so. elim so [
        | inl read ↦ in_list flat (view_of files) silent i p read
        | inr told ↦ absurd (false≢true (subst (λ (l : List (List ℕ)). has l p ≡ true) (none_recorded records es i) told))
      ],
    )

  abbrev pub verdict_is : List Record → List ℕ → List Moment → List Moment → ℕ → Bool → Bool
  verdict_is records ran old new i out_of_date = same_test out_of_date (is_some (reason_of (facts_of es (store_of records) ran old new i (reading i))))

  pub verdict : is_flat es ≡ true → (records : List Record) (ran : List ℕ) (old new : List Moment) → ((q : List ℕ) (j : ℕ) → IsAlias es q j → Counts es (view_of new) q → ⊥)
      → (i : ℕ) (out_of_date : Bool) → verdict_is records ran old new i out_of_date ≡ true → IsVerdict es (store_of records) ran old new i out_of_date
  verdict flat records ran old new silent i out_of_date test = record {
    read = reading i;
    counted = counted flat records new silent i;
    verdict = tests_same out_of_date (is_some (reason_of (facts_of es (store_of records) ran old new i (reading i)))) test;
  }
