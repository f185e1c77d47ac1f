-- A store without records: nothing is recorded, and each command with an output is out of date.
use Rattle.std.proofs.Common.{◌≡◌, ◌≢◌, ◌⊎◌, inl, inr, ℕ, cond, Bool, true, false, List, [], ◌∷◌, ◌++◌, map, Option, Some, None, is_some, bytes_eq, refl, sym, ◌∙◌, ap, subst}
use Rattle.std.specs.Prelude.{is_none, find}
use Rattle.std.specs.List.{list_any, list_all}
use Rattle.std.proofs.lemmas.Bool.{false≢true, true≢false, cond-true, or_cases, or_left}
use Rattle.model.specs.declared.event.Moment.{Moment}
use Rattle.model.specs.declared.graph.Edge.{Edge}
use Rattle.model.specs.declared.reason.Reason.{Reason}
use Rattle.model.specs.declared.reason.Reason.TheVariants.{OutputAbsent, NoRecord, OtherAct, InputAbsent, InputChanged, InputLater, OutputOlder, DepsUnknown}
use Rattle.model.specs.World.{View, view_of}
use Rattle.model.specs.Graph.{has, edge_at, maker, outputs, regular_inputs, inputs}
use Rattle.model.specs.Reading.{IsAlias, Counts, IsRead, Itself, Through}
use Rattle.model.specs.Records.{Store, recorded_of, recorded_inputs, all_paths_in, is_known, in_force, deps_in_force}
use Rattle.model.specs.Judgement.{holds, all_reasons}
use Rattle.model.specs.OutOfDate.{output_facts, facts_of, IsVerdict}
use Rattle.model.specs.Schedule.{IsSettled, Done, Alias}
use Rattle.theory.specs.Order.{no_records}
use Rattle.theory.proofs.Lists.{bytes_same, same_bytes, has-left, has-right, has-cases}

-- ---- nothing is recorded

no_paths : (os : List (List ℕ)) → all_paths_in [] os ≡ []
no_paths [] = refl
no_paths (o ∷ os) = no_paths os

-- no edge has recorded inputs in use
pub recorded_nothing : (edges : List Edge) (i : ℕ) → recorded_inputs no_records edges i ≡ []
recorded_nothing edges i = by_test (edge_at edges i).phony (is_some (edge_at edges i).dyndep) (outputs (edge_at edges i))
  where
    known : (t : Bool) (os : List (List ℕ)) → cond t (all_paths_in [] os) [] ≡ []
    known true os = no_paths os
    known false os = refl

    by_test : (t u : Bool) (os : List (List ℕ)) → cond t [] (cond u [] (recorded_of no_records (edge_at edges i))) ≡ []
    by_test true u os = refl
    by_test false true os = refl
    by_test false false os = known (list_all (λ o. is_known (edge_at edges i).act (in_force no_records.records o) (deps_in_force no_records.deps o)) (outputs (edge_at edges i))) (outputs (edge_at edges i))

-- a phony edge has none in any store
pub recorded_alias : (store : Store) (edges : List Edge) (i : ℕ) → (edge_at edges i).phony ≡ true → recorded_inputs store edges i ≡ []
recorded_alias store edges i phony = cond-true (edge_at edges i).phony [] (cond (is_some (edge_at edges i).dyndep) [] (recorded_of store (edge_at edges i))) phony

-- ---- each command with an output is out of date

some_reason : (test : Reason → Bool) → test NoRecord ≡ true → is_some (find test all_reasons) ≡ true
some_reason test is = by_test (test OutputAbsent) (test NoRecord) is
  where
    by_test : (s t : Bool) → t ≡ true
        → is_some (cond s (Some OutputAbsent) (cond t (Some NoRecord) (find test (OtherAct ∷ InputAbsent ∷ InputChanged ∷ InputLater ∷ OutputOlder ∷ DepsUnknown ∷ [])))) ≡ true
    by_test true t is = refl
    by_test false true is = refl
    by_test false false is = absurd (false≢true is)

no_record : (files : List Moment) (os : List (List ℕ)) → os ≢ [] → list_any (λ o. is_none o.made) (map (output_facts no_records files) os) ≡ true
no_record files [] some = absurd (some refl)
no_record files (o ∷ os) some = refl

-- the list has just the paths that the edge reads
pub record ReadsAre (edges : List Edge) (view : View) (i : ℕ) : Type 0 where
  pub paths : List (List ℕ)
  pub has_read : (p : List ℕ) → has paths p ≡ true → IsRead edges view i p
  pub read_has : (p : List ℕ) → IsRead edges view i p → has paths p ≡ true

-- an edge with an output, whose reading set is known, is out of date without records, whatever ran
pub verdict_of_nothing : (edges : List Edge) (ran : List ℕ) (old new : List Moment) (i : ℕ) → ReadsAre edges (view_of new) i → outputs (edge_at edges i) ≢ [] → IsVerdict edges no_records ran old new i true
verdict_of_nothing edges ran old new i reads some = record {
  read = reads.paths;
  counted = λ p. (
    (λ h. inl (reads.has_read p h)),
    (λ counted. elim counted [
      | inl read ↦ reads.read_has p read
      | inr recorded ↦ absurd (false≢true (subst (λ (ps : List (List ℕ)). has ps p ≡ true) (recorded_nothing edges i) recorded))
    ]),
  );
  verdict = sym (some_reason (λ reason. holds (facts_of edges no_records ran old new i reads.paths) reason) (no_record old (outputs (edge_at edges i)) some));
}

-- ---- reading sets

module _ (edges : List Edge) (view : View) where
  -- what is read by way of one of these paths
  abbrev IsReadBy : List (List ℕ) → List ℕ → Type 0
  IsReadBy qs p = (q : List ℕ) × (has qs q ≡ true) × (((q ≡ p) × Counts edges view p) ⊎ ((j : ℕ) × IsAlias edges q j × IsRead edges view j p))

  record Listing (qs : List (List ℕ)) : Type 0 where
    paths : List (List ℕ)
    has_read : (p : List ℕ) → has paths p ≡ true → IsReadBy qs p
    read_has : (p : List ℕ) → IsReadBy qs p → has paths p ≡ true

  read_by_more : (q : List ℕ) (qs : List (List ℕ)) (p : List ℕ) → IsReadBy qs p → IsReadBy (q ∷ qs) p
  read_by_more q qs p (x, within, how) = (x, has-right (q ∷ []) qs x within, how)

  itself_first : (q : List ℕ) (qs : List (List ℕ)) → has (q ∷ qs) q ≡ true
  itself_first q qs = or_left (bytes_eq q q) (has qs q) (bytes_same q)

  -- the path itself, and what is read through it
  itself : (q : List ℕ) → Counts edges view q ⊎ (Counts edges view q → ⊥) → (paths : List (List ℕ)) × ((p : List ℕ) → has paths p ≡ true → (q ≡ p) × Counts edges view p) × ((p : List ℕ) → q ≡ p → Counts edges view p → has paths p ≡ true)
  itself q (inl counts) = (
    q ∷ [],
    (λ p h. let same = is_it p h in (same, subst (λ (x : List ℕ). Counts edges view x) same counts)),
    (λ p same counts. subst (λ (x : List ℕ). has (q ∷ []) x ≡ true) same (itself_first q [])),
  )
    where
      is_it : (p : List ℕ) → has (q ∷ []) p ≡ true → q ≡ p
      is_it p h = elim (or_cases (bytes_eq q p) false h) [
        | inl here ↦ same_bytes q p here
        | inr none ↦ absurd (false≢true none)
      ]
  itself q (inr not) = ([], (λ p h. absurd (false≢true h)), (λ p same counts. absurd (not (subst (λ (x : List ℕ). Counts edges view x) (sym same) counts))))

  same_maker : (q : List ℕ) (k j : ℕ) → maker edges q ≡ Some k → maker edges q ≡ Some j → k ≡ j
  same_maker q k j a b = let both : Some k ≡ Some j = sym a ∙ b in cc

  same_alias : (q : List ℕ) (k j : ℕ) → IsAlias edges q k → IsAlias edges q j → k ≡ j
  same_alias q k j a b = same_maker q k j a.made b.made

  -- whether the path of a phony counts by itself
  alias_counts : (q : List ℕ) (j : ℕ) → IsAlias edges q j → Counts edges view q ⊎ (Counts edges view q → ⊥)
  alias_counts q j alias = by_file (is_some (view q)) refl
    where
      by_inputs : (ps : List (List ℕ)) → inputs (edge_at edges j) ≡ ps → is_some (view q) ≡ false → Counts edges view q ⊎ (Counts edges view q → ⊥)
      by_inputs [] none absent = inl (inr (inr (j, alias, none)))
      by_inputs (p ∷ ps) some absent = inr counted
        where
          counted : Counts edges view q → ⊥
          counted (inl no_alias) = no_alias j alias
          counted (inr (inl is)) = false≢true (sym absent ∙ is)
          counted (inr (inr (k, other, none))) = nothing (sym (subst (λ (n : ℕ). inputs (edge_at edges n) ≡ []) (same_alias q k j other alias) none) ∙ some)
            where
              nothing : [] ≡ p ∷ ps → ⊥
              nothing e = cc

      by_file : (b : Bool) → is_some (view q) ≡ b → Counts edges view q ⊎ (Counts edges view q → ⊥)
      by_file true is = inl (inr (inl is))
      by_file false is = by_inputs (inputs (edge_at edges j)) refl is

  -- what stands first, and what the rest has
  join : (q : List ℕ) (qs : List (List ℕ)) → Listing qs → ((paths : List (List ℕ)) × ((p : List ℕ) → has paths p ≡ true → (q ≡ p) × Counts edges view p) × ((p : List ℕ) → q ≡ p → Counts edges view p → has paths p ≡ true))
      → (through : List (List ℕ)) → ((p : List ℕ) → has through p ≡ true → (j : ℕ) × IsAlias edges q j × IsRead edges view j p) → ((p : List ℕ) (j : ℕ) → IsAlias edges q j → IsRead edges view j p → has through p ≡ true)
      → Listing (q ∷ qs)
  join q qs rest own through gives given = record { paths = own.0 ++ (through ++ rest.paths); has_read = has_read; read_has = read_has }
    where
      has_read : (p : List ℕ) → has (own.0 ++ (through ++ rest.paths)) p ≡ true → IsReadBy (q ∷ qs) p
      has_read p h = elim (has-cases own.0 (through ++ rest.paths) p h) [
        | inl here ↦ (q, itself_first q qs, inl (own.1 p here))
        | inr later ↦ elim (has-cases through rest.paths p later) [
          | inl by_alias ↦ (q, itself_first q qs, inr (gives p by_alias))
          | inr by_rest ↦ read_by_more q qs p (rest.has_read p by_rest)
        ]
      ]

      first : (p x : List ℕ) → q ≡ x → ((x ≡ p) × Counts edges view p) ⊎ ((j : ℕ) × IsAlias edges x j × IsRead edges view j p) → has (own.0 ++ (through ++ rest.paths)) p ≡ true
      first p x same (inl (is, counts)) = has-left own.0 (through ++ rest.paths) p (own.2 p (same ∙ is) counts)
      first p x same (inr (j, alias, read)) =
          has-right own.0 (through ++ rest.paths) p (has-left through rest.paths p (given p j (subst (λ (y : List ℕ). IsAlias edges y j) (sym same) alias) read))

      read_has : (p : List ℕ) → IsReadBy (q ∷ qs) p → has (own.0 ++ (through ++ rest.paths)) p ≡ true
      read_has p (x, within, how) = elim (or_cases (bytes_eq q x) (has qs x) within) [
        | inl here ↦ first p x (same_bytes q x here) how
        | inr later ↦ has-right own.0 (through ++ rest.paths) p (has-right through rest.paths p (rest.read_has p (x, later, how)))
      ]

  listing : (qs : List (List ℕ)) → ((q : List ℕ) (j : ℕ) → has qs q ≡ true → IsAlias edges q j → ReadsAre edges view j) → Listing qs
  listing [] below = record { paths = []; has_read = λ p h. absurd (false≢true h); read_has = λ p h. absurd (false≢true h.1) }
  listing (q ∷ qs) below = add (listing qs (λ x j h alias. below x j (has-right (q ∷ []) qs x h) alias)) (maker edges q) refl
    where
      plain : Listing qs → ((j : ℕ) → IsAlias edges q j → ⊥) → Listing (q ∷ qs)
      plain rest none = join q qs rest (itself q (inl (inl none))) [] (λ p h. absurd (false≢true h)) (λ p j alias read. absurd (none j alias))

      by_phony : Listing qs → (j : ℕ) (b : Bool) → (edge_at edges j).phony ≡ b → maker edges q ≡ Some j → Listing (q ∷ qs)
      by_phony rest j true phony is =
          let alias : IsAlias edges q j = record { made = is; phony = phony } in
          let reads = below q j (itself_first q qs) alias in
          join q qs rest (itself q (alias_counts q j alias)) reads.paths (λ p h. (j, alias, reads.has_read p h)) (λ p k other read. reads.read_has p (subst (λ (n : ℕ). IsRead edges view n p) (same_alias q k j other alias) read))
      by_phony rest j false command is =
          plain rest (λ k alias. false≢true (sym command ∙ (ap (λ (n : ℕ). (edge_at edges n).phony) (sym (same_maker q k j alias.made is)) ∙ alias.phony)))

      add : Listing qs → (m : Option ℕ) → maker edges q ≡ m → Listing (q ∷ qs)
      add rest None is = plain rest (λ k alias. no_maker k (sym is ∙ alias.made))
        where
          no_maker : (k : ℕ) → None ≡ Some k → ⊥
          no_maker k e = cc
      add rest (Some j) is = by_phony rest j (edge_at edges j).phony refl is

  -- the reading set of an edge, those of the phonies among its inputs being known
  reads_of : (i : ℕ) → ((q : List ℕ) (j : ℕ) → has (regular_inputs (edge_at edges i)) q ≡ true → IsAlias edges q j → ReadsAre edges view j) → ReadsAre edges view i
  reads_of i below = record { paths = all.paths; has_read = λ p h. read (all.has_read p h); read_has = λ p is. all.read_has p (by_read i p is refl) }
    where
      all : Listing (regular_inputs (edge_at edges i))
      all = listing (regular_inputs (edge_at edges i)) below

      read : {p : List ℕ} → IsReadBy (regular_inputs (edge_at edges i)) p → IsRead edges view i p
      read {p} (q, within, inl (same, counts)) = Itself i p (subst (λ (x : List ℕ). has (regular_inputs (edge_at edges i)) x ≡ true) same within) counts
      read {p} (q, within, inr (j, alias, is)) = Through i j q p within alias is

      by_read : (k : ℕ) (p : List ℕ) → IsRead edges view k p → k ≡ i → IsReadBy (regular_inputs (edge_at edges i)) p
      by_read k p (Itself _ _ h counts) same = (p, subst (λ (n : ℕ). has (regular_inputs (edge_at edges n)) p ≡ true) same h, inl (refl, counts))
      by_read k p (Through _ j q _ h alias is) same = (q, subst (λ (n : ℕ). has (regular_inputs (edge_at edges n)) q ≡ true) same h, inr (j, alias, is))

  -- a settled phony has a reading set
  settled_reads : (done : List ℕ) (j : ℕ) → IsSettled edges done j → (edge_at edges j).phony ≡ true → ReadsAre edges view j
  settled_reads done j (Done _ command is) phony = absurd (true≢false (sym phony ∙ command))
  settled_reads done j (Alias _ phony below) is =
      reads_of j (λ q k h alias. settled_reads done k (below q k (has-left (regular_inputs (edge_at edges j)) (edge_at edges j).order_only_inputs q h) alias.made) alias.phony)

  -- so has an edge whose inputs are settled
  pub reads_where_settled : (done : List ℕ) (i : ℕ) → ((q : List ℕ) (j : ℕ) → has (inputs (edge_at edges i)) q ≡ true → maker edges q ≡ Some j → IsSettled edges done j) → ReadsAre edges view i
  reads_where_settled done i settled =
      reads_of i (λ q k h alias. settled_reads done k (settled q k (has-left (regular_inputs (edge_at edges i)) (edge_at edges i).order_only_inputs q h) alias.made) alias.phony)
