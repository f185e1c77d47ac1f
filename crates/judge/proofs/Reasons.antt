-- The reason by numbers is the reason in the words of paths.
use Rattle.std.proofs.Common.{◌≡◌, ◌≢◌, inl, inr, ℕ, suc, ◌<◌, ◌==◌, ◌&&◌, ◌||◌, not, cond, Bool, true, false, List, [], ◌∷◌, ◌++◌, Option, Some, map, bytes_eq, length, get_or, zero, arith, refl, sym, ◌∙◌, ap, subst}
use Rattle.std.specs.Prelude.{find, is_some}
use Rattle.std.specs.List.{flat_map, list_any}
use Rattle.std.proofs.lemmas.Bool.{false≢true, eqb-true, eq-eqb, or_cases, or_left, or_right}
use Rattle.model.specs.declared.act.Act.{Act}
use Rattle.model.specs.declared.graph.Deps.{Deps}
use Rattle.model.specs.declared.graph.Deps.TheVariants.{Unset, Gcc}
use Rattle.model.specs.declared.reason.Reason.{Reason}
use Rattle.model.specs.declared.reason.Reason.TheVariants.{OutputAbsent, NoRecord, OtherAct, InputAbsent, InputChanged, InputLater, OutputOlder, DepsUnknown}
use Rattle.model.specs.declared.event.Moment.{Moment}
use Rattle.model.specs.declared.graph.Edge.{Edge}
use Rattle.model.specs.declared.record.Record.{Record}
use Rattle.model.specs.declared.record.DepsRecord.{DepsRecord}
use Rattle.model.specs.World.{file_at, stamp_of}
use Rattle.model.specs.Graph.{has, has_number}
use Rattle.model.specs.Records.{Store, in_force, deps_in_force}
use Rattle.model.specs.OutOfDate.{deps_start, output_facts, input_facts}
use Rattle.model.specs.Judgement.{OutputFacts, InputFacts, Facts, holds, start_of, is_empty_text, is_unset, is_same_number, reason_of, all_reasons}
use Rattle.theory.proofs.Lists.{same_bytes, bytes_same, has_number-left, has_number-right, has_number-cases}
use Rattle.paths.specs.Told.{text_at, texts_at}
use Rattle.graph.specs.declared.graph.Graph.{Graph}
use Rattle.graph.specs.Links.{links_of}
use Rattle.graph.specs.Alias.{counts_if_present}
use Rattle.judge.specs.Facts.{flag_at, output_at, stamp_at, all_inputs, AreIn}

-- ---- whether the depfile is there counts where the command is to leave one

unknown_same : (depfile : List ℕ) (deps : Deps) (any one two : Bool) → (depfile ≢ [] → deps ≡ Unset → one ≡ two)
    → (not (is_empty_text depfile) && (any || (is_unset deps && not one))) ≡ (not (is_empty_text depfile) && (any || (is_unset deps && not two)))
unknown_same [] deps any one two same = refl
unknown_same (c ∷ cs) Unset any one two same = ap (λ (b : Bool). any || not b) (same (λ none. cc) refl)
unknown_same (c ∷ cs) Gcc any one two same = refl

find_same : (f g : Reason → Bool) (reasons : List Reason) → ((r : Reason) → f r ≡ g r) → find f reasons ≡ find g reasons
find_same f g [] same = refl
find_same f g (r ∷ rs) same = ap (λ (b : Bool). cond b (Some r) (find f rs)) (same r) ∙ ap (λ (o : Option Reason). cond (g r) (Some r) o) (find_same f g rs same)

module _ (act : Act) (restat : Bool) (deps : Deps) (one two : Bool) (outputs : List OutputFacts) (inputs : List InputFacts) (same : act.depfile ≢ [] → deps ≡ Unset → one ≡ two) where
  abbrev first : Facts
  first = record { act = act; restat = restat; deps = deps; depfile = one; outputs = outputs; inputs = inputs }

  abbrev second : Facts
  second = record { act = act; restat = restat; deps = deps; depfile = two; outputs = outputs; inputs = inputs }

  holds_same : (r : Reason) → holds first r ≡ holds second r
  holds_same OutputAbsent = refl
  holds_same NoRecord = refl
  holds_same OtherAct = refl
  holds_same InputAbsent = refl
  holds_same InputChanged = refl
  holds_same InputLater = refl
  holds_same OutputOlder = refl
  holds_same DepsUnknown = unknown_same act.depfile deps (list_any (λ o. not (is_same_number (start_of o.made) o.deps_start)) outputs) one two same

  pub reason_same : reason_of first ≡ reason_of second
  reason_same = find_same (λ r. holds first r) (λ r. holds second r) all_reasons holds_same

-- ---- numbers and their paths

-- outputs with the same stamps at the entry and now have the same facts, by the records of the store
module _ (paths : List (List ℕ)) (rs : List Record) (ds : List DepsRecord) (store : Store) (old new : List Moment) (records : store.records ≡ rs) (told : store.deps ≡ ds) where
  pub outputs_same : (ns : List ℕ) → ((n : ℕ) → has_number ns n ≡ true → stamp_of (file_at new (text_at paths n)) ≡ stamp_of (file_at old (text_at paths n)))
      → map (output_at paths rs ds new) ns ≡ map (output_facts store old) (texts_at paths ns)
  outputs_same [] untouched = refl
  outputs_same (n ∷ ns) untouched =
      let o = text_at paths n in
      let rest = map (output_at paths rs ds new) ns in
      ap (λ (s : Option ℕ). record { stamp = s; made = in_force rs o; deps_start = deps_start (deps_in_force ds o) } ∷ rest) (untouched n (or_left (n == n) (has_number ns n) (eq-eqb n n refl)))
      ∙ (ap (λ (l : List Record). record { stamp = stamp_of (file_at old o); made = in_force l o; deps_start = deps_start (deps_in_force ds o) } ∷ rest) (sym records)
      ∙ (ap (λ (l : List DepsRecord). record { stamp = stamp_of (file_at old o); made = in_force store.records o; deps_start = deps_start (deps_in_force l o) } ∷ rest) (sym told)
      ∙ ap (λ (l : List OutputFacts). output_facts store old o ∷ l) (outputs_same ns (λ m h. untouched m (or_right (n == m) (has_number ns m) h)))))

module _ (graph : Graph) (files : List Moment) where
  -- the path is taken in: always, or where it counts
  abbrev pub takes : Bool → ℕ → Bool
  takes always n = always || (is_some (stamp_at graph.manifest.paths files n) || not (counts_if_present (links_of graph) n))

  abbrev pub taken : Bool → List ℕ → List ℕ
  taken always [] = []
  taken always (n ∷ ns) = cond (takes always n) (n ∷ taken always ns) (taken always ns)

  -- the flags of these paths are right
  abbrev pub AreRight : List Bool → List Edge → List ℕ → List Moment → List ℕ → Type 0
  AreRight flags edges ran old ns = (n : ℕ) → has_number ns n ≡ true → flag_at flags n ≡ (input_facts edges ran old files (text_at graph.manifest.paths n)).changed

  pub taken_inputs : (flags : List Bool) (edges : List Edge) (ran : List ℕ) (old : List Moment) (always : Bool) (ns : List ℕ) → AreRight flags edges ran old (taken always ns)
      → all_inputs graph flags always files ns ≡ map (input_facts edges ran old files) (texts_at graph.manifest.paths (taken always ns))
  taken_inputs flags edges ran old always [] right = refl
  taken_inputs flags edges ran old always (n ∷ ns) right = by_case (takes always n) (taken_inputs flags edges ran old always ns) right
    where
      by_case : (t : Bool) → (AreRight flags edges ran old (taken always ns) → all_inputs graph flags always files ns ≡ map (input_facts edges ran old files) (texts_at graph.manifest.paths (taken always ns)))
          → AreRight flags edges ran old (cond t (n ∷ taken always ns) (taken always ns))
          → cond t (record { stamp = stamp_at graph.manifest.paths files n; changed = flag_at flags n } ∷ []) [] ++ all_inputs graph flags always files ns
          ≡ map (input_facts edges ran old files) (texts_at graph.manifest.paths (cond t (n ∷ taken always ns) (taken always ns)))
      by_case true rest are =
          ap (λ (b : Bool). record { stamp = stamp_at graph.manifest.paths files n; changed = b } ∷ all_inputs graph flags always files ns) (are n (or_left (n == n) (has_number (taken always ns) n) (eq-eqb n n refl)))
          ∙ ap (λ (l : List InputFacts). input_facts edges ran old files (text_at graph.manifest.paths n) ∷ l)
          (rest (λ m h. are m (or_right (n == m) (has_number (taken always ns) m) h)))
      by_case false rest are = rest are

  pub taken_has : (always : Bool) (ns : List ℕ) (n : ℕ) → has_number (taken always ns) n ≡ true → (has_number ns n ≡ true) × (takes always n ≡ true)
  taken_has always [] n h = absurd (false≢true h)
  taken_has always (m ∷ ns) n h = by_case (takes always m) refl (taken_has always ns n) h
    where
      by_case : (t : Bool) → takes always m ≡ t → (has_number (taken always ns) n ≡ true → (has_number ns n ≡ true) × (takes always n ≡ true))
          → has_number (cond t (m ∷ taken always ns) (taken always ns)) n ≡ true → (has_number (m ∷ ns) n ≡ true) × (takes always n ≡ true)
      by_case true is rest h = elim (or_cases (m == n) (has_number (taken always ns) n) h) [
        | inl here ↦ (or_left (m == n) (has_number ns n) here, subst (λ (k : ℕ). takes always k ≡ true) (eqb-true m n here) is)
        | inr later ↦ let more = rest later in (or_right (m == n) (has_number ns n) more.0, more.1)
      ]
      by_case false is rest h = let more = rest h in (or_right (m == n) (has_number ns n) more.0, more.1)

  pub has_taken : (always : Bool) (ns : List ℕ) (n : ℕ) → has_number ns n ≡ true → takes always n ≡ true → has_number (taken always ns) n ≡ true
  has_taken always [] n h is = absurd (false≢true h)
  has_taken always (m ∷ ns) n h is = elim (or_cases (m == n) (has_number ns n) h) [
    | inl here ↦ ap (λ (t : Bool). has_number (cond t (m ∷ taken always ns) (taken always ns)) n) (ap (takes always) (eqb-true m n here) ∙ is) ∙ or_left (m == n) (has_number (taken always ns) n) here
    | inr later ↦ by_case (takes always m) (has_taken always ns n later is)
  ]
    where
      by_case : (t : Bool) → has_number (taken always ns) n ≡ true → has_number (cond t (m ∷ taken always ns) (taken always ns)) n ≡ true
      by_case true more = or_right (m == n) (has_number (taken always ns) n) more
      by_case false more = more

-- ---- lists of lists

pub flat_has : (of_edge : ℕ → List ℕ) (es : List ℕ) (n : ℕ) → has_number (flat_map of_edge es) n ≡ true → (e : ℕ) × (has_number es e ≡ true) × (has_number (of_edge e) n ≡ true)
flat_has of_edge [] n h = absurd (false≢true h)
flat_has of_edge (e ∷ es) n h = elim (has_number-cases (of_edge e) (flat_map of_edge es) n h) [
  | inl here ↦ (e, or_left (e == e) (has_number es e) (eq-eqb e e refl), here)
  | inr later ↦ let more = flat_has of_edge es n later in (more.0, or_right (e == more.0) (has_number es more.0) more.1, more.2)
]

pub has_flat : (of_edge : ℕ → List ℕ) (es : List ℕ) (e n : ℕ) → has_number es e ≡ true → has_number (of_edge e) n ≡ true → has_number (flat_map of_edge es) n ≡ true
has_flat of_edge [] e n listed h = absurd (false≢true listed)
has_flat of_edge (d ∷ es) e n listed h = elim (or_cases (d == e) (has_number es e) listed) [
  | inl here ↦ has_number-left (of_edge d) (flat_map of_edge es) n (subst (λ (k : ℕ). has_number (of_edge k) n ≡ true) (sym (eqb-true d e here)) h)
  | inr later ↦ has_number-right (of_edge d) (flat_map of_edge es) n (has_flat of_edge es e n later h)
]

pub has_text : (paths : List (List ℕ)) (numbers : List ℕ) (n : ℕ) → has_number numbers n ≡ true → has (texts_at paths numbers) (text_at paths n) ≡ true
has_text paths [] n h = absurd (false≢true h)
has_text paths (m ∷ numbers) n h = elim (or_cases (m == n) (has_number numbers n) h) [
  | inl here ↦ or_left (bytes_eq (text_at paths m) (text_at paths n)) (has (texts_at paths numbers) (text_at paths n))
      (subst (λ (k : ℕ). bytes_eq (text_at paths m) (text_at paths k) ≡ true) (eqb-true m n here) (bytes_same (text_at paths m)))
  | inr later ↦ or_right (bytes_eq (text_at paths m) (text_at paths n)) (has (texts_at paths numbers) (text_at paths n)) (has_text paths numbers n later)
]

pub number_of : (paths : List (List ℕ)) (numbers : List ℕ) (p : List ℕ) → has (texts_at paths numbers) p ≡ true → (n : ℕ) × (has_number numbers n ≡ true) × (text_at paths n ≡ p)
number_of paths [] p h = absurd (false≢true h)
number_of paths (n ∷ numbers) p h = elim (or_cases (bytes_eq (text_at paths n) p) (has (texts_at paths numbers) p) h) [
  | inl here ↦ (n, or_left (n == n) (has_number numbers n) (eq-eqb n n refl), same_bytes (text_at paths n) p here)
  | inr later ↦ let rest = number_of paths numbers p later in (rest.0, or_right (n == rest.0) (has_number numbers rest.0) rest.1, rest.2)
]

pub are_in : (set : List ℕ → Bool) (paths : List (List ℕ)) (ns : List ℕ) → ((n : ℕ) → has_number ns n ≡ true → set (text_at paths n) ≡ true) → AreIn set paths ns
are_in set paths [] each = tt
are_in set paths (n ∷ ns) each = (each n (or_left (n == n) (has_number ns n) (eq-eqb n n refl)), are_in set paths ns (λ m h. each m (or_right (n == m) (has_number ns m) h)))

pub at_has : (xs : List ℕ) (k d : ℕ) → k < length xs → has_number xs (get_or xs k d) ≡ true
at_has [] k d lt = absurd (omega (arith, lt))
at_has (x ∷ xs) zero d lt = or_left (x == x) (has_number xs x) (eq-eqb x x refl)
at_has (x ∷ xs) (suc k) d lt = or_right (x == get_or xs k d) (has_number xs (get_or xs k d)) (at_has xs k d (omega (arith, lt)))

-- what is so of these numbers is so of the slice that has them
pub within_by : (n : ℕ) (ns ms : List ℕ) → ms ≡ ns → ((p : ℕ) → has_number ns p ≡ true → p < n) → (p : ℕ) → has_number ms p ≡ true → p < n
within_by n ns ms is within p h = within p (subst (λ (l : List ℕ). has_number l p ≡ true) is h)
