-- An edge has one verdict, and what counts for an edge with one input.
use Rattle.std.proofs.Common.{◌≡◌, inl, inr, ℕ, cond, ◌&&◌, ◌||◌, not, Bool, true, false, List, [], ◌∷◌, map, Option, Some, is_some, bytes_eq, refl, sym, ◌∙◌, ap, subst}
use Rattle.std.specs.Prelude.{is_none, find}
use Rattle.std.specs.List.{list_any}
use Rattle.std.proofs.lemmas.Bool.{false≢true, or_cases, or_left, or_right}
use Rattle.model.specs.declared.event.Moment.{Moment}
use Rattle.model.specs.declared.graph.Edge.{Edge}
use Rattle.model.specs.declared.reason.Reason.{Reason}
use Rattle.model.specs.declared.reason.Reason.TheVariants.{OutputAbsent, NoRecord, OtherAct, InputAbsent, InputChanged, InputLater, OutputOlder, DepsUnknown}
use Rattle.model.specs.World.{view_of}
use Rattle.model.specs.Graph.{has, edge_at, regular_inputs}
use Rattle.model.specs.Reading.{IsAlias, IsRead, Itself, Through}
use Rattle.model.specs.Records.{Store, recorded_inputs}
use Rattle.model.specs.Judgement.{OutputFacts, InputFacts, Facts, is_later, start_of, holds, all_reasons, reason_of}
use Rattle.model.specs.OutOfDate.{ListsCounted, facts_of, input_facts}
use Rattle.witness.specs.Unsaid.{OneVerdict}
use Rattle.witness.proofs.RowLists.{all_has, bytes_same, same_bytes}

-- ---- tests over lists with the same paths

same_truth : (a b : Bool) → (a ≡ true → b ≡ true) → (b ≡ true → a ≡ true) → a ≡ b
same_truth true b to from = sym (to refl)
same_truth false true to from = absurd (false≢true (from refl))
same_truth false false to from = refl

any_has : (test : InputFacts → Bool) (facts : List ℕ → InputFacts) (ps : List (List ℕ)) (p : List ℕ) → has ps p ≡ true → test (facts p) ≡ true → list_any test (map facts ps) ≡ true
any_has test facts [] p h is = absurd (false≢true h)
any_has test facts (q ∷ ps) p h is = elim (or_cases (bytes_eq q p) (has ps p) h) [
  | inl here ↦ or_left (test (facts q)) (list_any test (map facts ps)) (subst (λ (x : List ℕ). test (facts x) ≡ true) (sym (same_bytes q p here)) is)
  | inr there ↦ or_right (test (facts q)) (list_any test (map facts ps)) (any_has test facts ps p there is)
]

any_more : (test : InputFacts → Bool) (facts : List ℕ → InputFacts) (ps qs : List (List ℕ)) → ((p : List ℕ) → has ps p ≡ true → has qs p ≡ true)
    → list_any test (map facts ps) ≡ true → list_any test (map facts qs) ≡ true
any_more test facts [] qs more is = absurd (false≢true is)
any_more test facts (p ∷ ps) qs more is = elim (or_cases (test (facts p)) (list_any test (map facts ps)) is) [
  | inl here ↦ any_has test facts qs p (more p (or_left (bytes_eq p p) (has ps p) (bytes_same p))) here
  | inr there ↦ any_more test facts ps qs (λ q h. more q (or_right (bytes_eq p q) (has ps q) h)) there
]

any_each : {X : Type 0} (f g : X → Bool) → ((x : X) → f x ≡ g x) → (xs : List X) → list_any f xs ≡ list_any g xs
any_each f g same [] = refl
any_each f g same (x ∷ xs) = ap (λ (b : Bool). b || list_any f xs) (same x) ∙ ap (λ (b : Bool). g x || b) (any_each f g same xs)

-- ---- reasons

found : (test : Reason → Bool) (reasons : List Reason) → is_some (find test reasons) ≡ list_any test reasons
found test [] = refl
found test (r ∷ rs) = by_test (test r) (find test rs) (list_any test rs) (found test rs)
  where
    by_test : (t : Bool) (rest : Option Reason) (b : Bool) → is_some rest ≡ b → is_some (cond t (Some r) rest) ≡ (t || b)
    by_test true rest b is = refl
    by_test false rest b is = is

-- reasons that hold alike
found_alike : (test other : Reason → Bool) → ((r : Reason) → test r ≡ other r) → is_some (find test all_reasons) ≡ is_some (find other all_reasons)
found_alike test other alike = found test all_reasons ∙ any_each test other alike all_reasons ∙ sym (found other all_reasons)

module _ (edges : List Edge) (store : Store) (ran : List ℕ) (old new : List Moment) (i : ℕ) (ps qs : List (List ℕ)) (same : (test : InputFacts → Bool) → list_any test (map (input_facts edges ran old new) ps) ≡ list_any test (map (input_facts edges ran old new) qs)) where
  abbrev first : Facts
  first = facts_of edges store ran old new i ps

  abbrev second : Facts
  second = facts_of edges store ran old new i qs

  alike : (r : Reason) → holds first r ≡ holds second r
  alike OutputAbsent = refl
  alike NoRecord = refl
  alike OtherAct = refl
  alike InputAbsent = same (λ p. is_none p.stamp)
  alike InputChanged = same (λ p. p.changed)
  alike InputLater = any_each
      (λ (o : OutputFacts). list_any (λ (p : InputFacts). is_later p.stamp (start_of o.made)) first.inputs)
      (λ (o : OutputFacts). list_any (λ (p : InputFacts). is_later p.stamp (start_of o.made)) second.inputs)
      (λ o. same (λ p. is_later p.stamp (start_of o.made))) first.outputs
  alike OutputOlder = ap (λ (b : Bool). not first.restat && b) (any_each
      (λ (o : OutputFacts). list_any (λ (p : InputFacts). is_later p.stamp o.stamp) first.inputs)
      (λ (o : OutputFacts). list_any (λ (p : InputFacts). is_later p.stamp o.stamp) second.inputs)
      (λ o. same (λ p. is_later p.stamp o.stamp)) first.outputs)
  alike DepsUnknown = refl

  reason_alike : is_some (reason_of first) ≡ is_some (reason_of second)
  reason_alike = found_alike (λ r. holds first r) (λ r. holds second r) alike

pub one_verdict : OneVerdict
one_verdict edges store ran old new i b c one other =
    one.verdict ∙ (reason_alike edges store ran old new i one.read other.read same ∙ sym other.verdict)
  where
    same : (test : InputFacts → Bool) → list_any test (map (input_facts edges ran old new) one.read) ≡ list_any test (map (input_facts edges ran old new) other.read)
    same test = same_truth (list_any test (map (input_facts edges ran old new) one.read)) (list_any test (map (input_facts edges ran old new) other.read))
        (any_more test (input_facts edges ran old new) one.read other.read (λ p h. (other.counted p).1 ((one.counted p).0 h)))
        (any_more test (input_facts edges ran old new) other.read one.read (λ p h. (one.counted p).1 ((other.counted p).0 h)))

-- ---- an edge with one input, which is no alias, and no recorded inputs

module _ (edges : List Edge) (store : Store) (files : List Moment) (i : ℕ) (r : List ℕ) (one : regular_inputs (edge_at edges i) ≡ r ∷ [])
    (plain : (j : ℕ) → IsAlias edges r j → ⊥) (none : recorded_inputs store edges i ≡ []) where
  is_read : IsRead edges (view_of files) i r
  is_read = Itself i r (subst (λ (ps : List (List ℕ)). has ps r ≡ true) (sym one) (or_left (bytes_eq r r) false (bytes_same r))) (inl plain)

  in_list : (k : ℕ) (p : List ℕ) → IsRead edges (view_of files) k p → k ≡ i → has (r ∷ []) p ≡ true
  in_list k p (Itself _ _ h counts) same = subst (λ (ps : List (List ℕ)). has ps p ≡ true) one (subst (λ (n : ℕ). has (regular_inputs (edge_at edges n)) p ≡ true) same h)
  in_list k p (Through _ j q _ h alias is) same =
      let here : has (r ∷ []) q ≡ true = subst (λ (ps : List (List ℕ)). has ps q ≡ true) one (subst (λ (n : ℕ). has (regular_inputs (edge_at edges n)) q ≡ true) same h) in
      absurd (all_has (λ x. IsAlias edges x j → ⊥) (r ∷ []) q (λ it. plain j it, tt) here alias)

  pub reads_one : ListsCounted edges store files i (r ∷ [])
  reads_one p = (
    (λ h. inl (all_has (λ x. IsRead edges (view_of files) i x) (r ∷ []) p (is_read, tt) h)),
    (λ counted. elim counted [
      | inl read ↦ in_list i p read refl
      | inr recorded ↦ absurd (false≢true (subst (λ (ps : List (List ℕ)). has ps p ≡ true) none recorded))
    ]),
  )
