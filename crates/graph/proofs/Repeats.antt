-- Paths that stand twice among outputs, and faults of edges in texts.
use Rattle.std.proofs.Common.{◌≡◌, ◌≢◌, ◌⊎◌, inl, inr, ℕ, zero, suc, ◌+◌, ◌<◌, ◌≤◌, true, false, List, [], ◌∷◌, ◌++◌, Some, length, get_or, take, drop, refl, sym, ◌∙◌, ap, subst, bytes_eq, arith, append_assoc, drop-cons}
use Rattle.std.specs.List.{AllByRecursion}
use Rattle.std.proofs.lemmas.Bool.{or_cases, or_left, or_right, cases_Bool, false≢true}
use Rattle.std.proofs.lemmas.List.{take-append-drop, get_or_default, length-take-le}
use Rattle.model.specs.declared.graph.Edge.{Edge}
use Rattle.model.specs.Graph.{has, edge_at, no_edge, inputs, outputs, all_outputs, StandsTwice, IsMadeTwice, IsMadeOnce}
use Rattle.model.specs.SingleBuild.{NamesOther}
use Rattle.theory.proofs.Lists.{same_bytes, bytes_same, one_if, has-cases}
use Rattle.graph.specs.Linked.{AreDistinct, IsFirstRepeated, NamesDyndepInput}
use Rattle.graph.specs.Making.{IsMakingFault}
use Rattle.graph.specs.declared.fault.GraphFault.{GraphFault}
use Rattle.graph.specs.declared.fault.GraphFault.TheVariants.{Memory, MadeTwice, NoDyndepInput, Occupied}

-- why outputs cannot be added
abbrev pub IsFaultIn : List (List ℕ) → GraphFault → Type 0
IsFaultIn paths Memory = Unit {0}
IsFaultIn paths (MadeTwice p) = IsFirstRepeated paths p
IsFaultIn paths (NoDyndepInput p) = ⊥
IsFaultIn paths (Occupied occupied) = ⊥

-- why an edge's dyndep file is refused
abbrev pub IsDyndepFault : Edge → GraphFault → Type 0
IsDyndepFault edge Memory = Unit {0}
IsDyndepFault edge (MadeTwice p) = ⊥
IsDyndepFault edge (NoDyndepInput p) = (edge.dyndep ≡ Some p) × (has (inputs edge) p ≡ false)
IsDyndepFault edge (Occupied occupied) = ⊥

-- ---- how often

abbrev pub copies : List ℕ → List (List ℕ) → ℕ
copies p [] = 0
copies p (q ∷ qs) = one_if (bytes_eq q p) + copies p qs

pub copies-append : (p : List ℕ) (xs ys : List (List ℕ)) → copies p (xs ++ ys) ≡ copies p xs + copies p ys
copies-append p [] ys = omega arith
copies-append p (x ∷ xs) ys = let rest = copies-append p xs ys in omega arith

pub copies_of_has : (p : List ℕ) (xs : List (List ℕ)) → has xs p ≡ true → 0 < copies p xs
copies_of_has p [] h = absurd (false≢true h)
copies_of_has p (x ∷ xs) h = elim (or_cases (bytes_eq x p) (has xs p) h) [
  | inl here ↦ let e : one_if (bytes_eq x p) ≡ 1 = ap one_if here in omega arith
  | inr there ↦ let rest = copies_of_has p xs there in omega arith
]

pub has_of_copies : (p : List ℕ) (xs : List (List ℕ)) → 0 < copies p xs → has xs p ≡ true
has_of_copies p [] h = absurd (omega arith)
has_of_copies p (x ∷ xs) h = elim (cases_Bool (bytes_eq x p)) [
  | inl here ↦ or_left (bytes_eq x p) (has xs p) here
  | inr other ↦
      let e : one_if (bytes_eq x p) ≡ 0 = ap one_if other in
      or_right (bytes_eq x p) (has xs p) (has_of_copies p xs (omega arith))
]

pub no_copies : (p : List ℕ) (xs : List (List ℕ)) → has xs p ≡ false → copies p xs ≡ 0
no_copies p xs absent =
    let none : 0 < copies p xs → ⊥ = λ some. false≢true (sym absent ∙ has_of_copies p xs some) in
    omega (arith, none)

one_copy : (p : List ℕ) → one_if (bytes_eq p p) ≡ 1
one_copy p = ap one_if (bytes_same p)

pub copies_of_twice : (p : List ℕ) (xs : List (List ℕ)) → StandsTwice xs p → 1 < copies p xs
copies_of_twice p xs twice =
    let split : copies p xs ≡ copies p (twice.before ++ p ∷ twice.after) = ap (copies p) twice.splits in
    let parts = copies-append p twice.before (p ∷ twice.after) in
    let here = one_copy p in
    let some = copies_of_has p twice.before twice.earlier in
    omega arith

-- where a path stands in a list
pub record IsSplit (xs : List (List ℕ)) (p : List ℕ) : Type 0 where
  pub before : List (List ℕ)
  pub after : List (List ℕ)
  pub splits : xs ≡ before ++ p ∷ after

pub split_at : (p : List ℕ) (xs : List (List ℕ)) → has xs p ≡ true → IsSplit xs p
split_at p [] h = absurd (false≢true h)
split_at p (x ∷ xs) h = elim (or_cases (bytes_eq x p) (has xs p) h) [
  | inl here ↦ record { before = []; after = xs; splits = ap (λ (q : List ℕ). q ∷ xs) (same_bytes x p here) }
  | inr there ↦
      let rest = split_at p xs there in
      record { before = x ∷ rest.before; after = rest.after; splits = ap (λ (l : List (List ℕ)). x ∷ l) rest.splits }
]

pub twice_of_copies : (p : List ℕ) (xs : List (List ℕ)) → 1 < copies p xs → StandsTwice xs p
twice_of_copies p [] h = absurd (omega arith)
twice_of_copies p (x ∷ xs) h = elim (cases_Bool (bytes_eq x p)) [
  | inl here ↦
      let e : one_if (bytes_eq x p) ≡ 1 = ap one_if here in
      let rest = split_at p xs (has_of_copies p xs (omega arith)) in
      record {
        before = x ∷ rest.before;
        after = rest.after;
        splits = ap (λ (l : List (List ℕ)). x ∷ l) rest.splits;
        earlier = or_left (bytes_eq x p) (has rest.before p) here;
      }
  | inr other ↦
      let e : one_if (bytes_eq x p) ≡ 0 = ap one_if other in
      let rest = twice_of_copies p xs (omega arith) in
      record {
        before = x ∷ rest.before;
        after = rest.after;
        splits = ap (λ (l : List (List ℕ)). x ∷ l) rest.splits;
        earlier = or_right (bytes_eq x p) (has rest.before p) rest.earlier;
      }
]

pub copies_of_distinct : (xs : List (List ℕ)) → AreDistinct xs → (p : List ℕ) → copies p xs ≤ 1
copies_of_distinct xs distinct p =
    let none : 1 < copies p xs → ⊥ = λ some. distinct p (twice_of_copies p xs some) in
    omega (arith, none)

pub distinct_of_copies : (xs : List (List ℕ)) → ((p : List ℕ) → copies p xs ≤ 1) → AreDistinct xs
distinct_of_copies xs few p twice = let some = copies_of_twice p xs twice in let most = few p in omega arith

-- ---- one more path

pub distinct_push : (xs : List (List ℕ)) (q : List ℕ) → AreDistinct xs → has xs q ≡ false → AreDistinct (xs ++ q ∷ [])
distinct_push xs q distinct absent = distinct_of_copies (xs ++ q ∷ []) few
  where
    few : (p : List ℕ) → copies p (xs ++ q ∷ []) ≤ 1
    few p = elim (cases_Bool (bytes_eq q p)) [
      | inl same ↦
          let parts = copies-append p xs (q ∷ []) in
          let e : one_if (bytes_eq q p) ≡ 1 = ap one_if same in
          let none : copies p xs ≡ 0 = subst (λ (r : List ℕ). copies r xs ≡ 0) (same_bytes q p same) (no_copies q xs absent) in
          omega arith
      | inr other ↦
          let parts = copies-append p xs (q ∷ []) in
          let e : one_if (bytes_eq q p) ≡ 0 = ap one_if other in
          let most = copies_of_distinct xs distinct p in
          omega arith
    ]

-- ---- the first that stands before already

pub repeated_more : (xs ys : List (List ℕ)) (p : List ℕ) → IsFirstRepeated xs p → IsFirstRepeated (xs ++ ys) p
repeated_more xs ys p first = record {
  before = first.before;
  after = first.after ++ ys;
  splits = ap (λ (l : List (List ℕ)). l ++ ys) first.splits ∙ append_assoc first.before (p ∷ first.after) ys;
  earlier = first.earlier;
  distinct = first.distinct;
}

pub twice_of_repeated : (xs : List (List ℕ)) (p : List ℕ) → IsFirstRepeated xs p → StandsTwice xs p
twice_of_repeated xs p first = record { before = first.before; after = first.after; splits = first.splits; earlier = first.earlier }

all_outputs-append : (xs ys : List Edge) → all_outputs (xs ++ ys) ≡ all_outputs xs ++ all_outputs ys
all_outputs-append [] ys = refl
all_outputs-append (x ∷ xs) ys = ap (λ (l : List (List ℕ)). outputs x ++ l) (all_outputs-append xs ys) ∙ sym (append_assoc (outputs x) (all_outputs xs) (all_outputs ys))

split_edges : (edges : List Edge) (k : ℕ) (edge : Edge) → k < length edges → edge ≡ get_or edges k edge → edges ≡ take k edges ++ edge ∷ drop (suc k) edges
split_edges edges k edge lt is = sym (take-append-drop k edges) ∙ (ap (λ (l : List Edge). take k edges ++ l) (drop-cons edges k edge lt) ∙ ap (λ (e : Edge). take k edges ++ e ∷ drop (suc k) edges) (sym is))

-- no edge names another file
pub names_no_other : (edges : List Edge) → AllByRecursion NamesDyndepInput edges → (file : List ℕ) → NamesOther edges file → ⊥
names_no_other edges all file other = by_edge edges all other.edge other.names other.other
  where
    at : (es : List Edge) → AllByRecursion NamesDyndepInput es → (i : ℕ) → (get_or es i no_edge).dyndep ≡ Some file → has (inputs (get_or es i no_edge)) file ≡ false → ⊥
    at [] each i names absent = cc
    at (e ∷ es) each zero names absent = false≢true (sym absent ∙ each.0 file names)
    at (e ∷ es) each (suc i) names absent = at es each.1 i names absent

    by_edge : (es : List Edge) → AllByRecursion NamesDyndepInput es → (i : ℕ) → (edge_at es i).dyndep ≡ Some file → has (inputs (edge_at es i)) file ≡ false → ⊥
    by_edge es each zero names absent = cc
    by_edge es each (suc i) names absent = at es each i names absent

-- ---- made once, made twice

edge_copies : (p : List ℕ) (es : List Edge) (i : ℕ) → copies p (outputs (get_or es i no_edge)) ≤ copies p (all_outputs es)
edge_copies p [] i = omega arith
edge_copies p (e ∷ es) zero = let parts = copies-append p (outputs e) (all_outputs es) in omega arith
edge_copies p (e ∷ es) (suc i) = let parts = copies-append p (outputs e) (all_outputs es) in let rest = edge_copies p es i in omega arith

some_copy : (p : List ℕ) (es : List Edge) (i : ℕ) → has (outputs (get_or es i no_edge)) p ≡ true → 0 < copies p (all_outputs es)
some_copy p es i h = let some = copies_of_has p (outputs (get_or es i no_edge)) h in let most = edge_copies p es i in omega arith

two_copies : (p : List ℕ) (es : List Edge) (i j : ℕ) → i ≢ j → has (outputs (get_or es i no_edge)) p ≡ true → has (outputs (get_or es j no_edge)) p ≡ true → 1 < copies p (all_outputs es)
two_copies p [] i j other a b = absurd (false≢true a)
two_copies p (e ∷ es) zero zero other a b = absurd (other refl)
two_copies p (e ∷ es) zero (suc j) other a b =
    let parts = copies-append p (outputs e) (all_outputs es) in
    let here = copies_of_has p (outputs e) a in
    let there = some_copy p es j b in
    omega arith
two_copies p (e ∷ es) (suc i) zero other a b =
    let parts = copies-append p (outputs e) (all_outputs es) in
    let here = copies_of_has p (outputs e) b in
    let there = some_copy p es i a in
    omega arith
two_copies p (e ∷ es) (suc i) (suc j) other a b =
    let parts = copies-append p (outputs e) (all_outputs es) in
    let rest = two_copies p es i j (λ same. other (ap suc same)) a b in
    omega arith

-- where no path stands twice among the outputs, none is made twice
pub made_once : (edges : List Edge) → AreDistinct (all_outputs edges) → IsMadeOnce edges
made_once edges distinct p (inl (zero, j, other, a, b)) = absurd (false≢true a)
made_once edges distinct p (inl (suc i, zero, other, a, b)) = absurd (false≢true b)
made_once edges distinct p (inl (suc i, suc j, other, a, b)) =
    let two = two_copies p edges i j (λ same. other (ap suc same)) a b in
    let most = copies_of_distinct (all_outputs edges) distinct p in
    omega arith
made_once edges distinct p (inr (zero, twice)) = let two = copies_of_twice p [] twice in omega arith
made_once edges distinct p (inr (suc i, twice)) =
    let two = copies_of_twice p (outputs (get_or edges i no_edge)) twice in
    let some = edge_copies p edges i in
    let most = copies_of_distinct (all_outputs edges) distinct p in
    omega arith

-- by two edges, or twice by one, where edges count from 0
IsMadeTwiceAt : List Edge → List ℕ → Type 0
IsMadeTwiceAt es p =
    ((i : ℕ) × (j : ℕ) × (i ≢ j) × (has (outputs (get_or es i no_edge)) p ≡ true) × (has (outputs (get_or es j no_edge)) p ≡ true))
    ⊎ ((i : ℕ) × StandsTwice (outputs (get_or es i no_edge)) p)

some_edge : (p : List ℕ) (es : List Edge) → has (all_outputs es) p ≡ true → (i : ℕ) × (has (outputs (get_or es i no_edge)) p ≡ true)
some_edge p [] h = absurd (false≢true h)
some_edge p (e ∷ es) h = elim (has-cases (outputs e) (all_outputs es) p h) [
  | inl here ↦ (0, here)
  | inr there ↦ let rest = some_edge p es there in (suc rest.0, rest.1)
]

twice_at : (p : List ℕ) (es : List Edge) → 1 < copies p (all_outputs es) → IsMadeTwiceAt es p
unfolding IsMadeTwiceAt
twice_at p [] h = absurd (omega arith)
twice_at p (e ∷ es) h = elim (cases_Bool (has (outputs e) p)) [
  | inl here ↦ elim (cases_Bool (has (all_outputs es) p)) [
    | inl there ↦ let other = some_edge p es there in inl (0, suc other.0, (λ same. absurd (omega (arith, same))), here, other.1)
    | inr none ↦
        let parts = copies-append p (outputs e) (all_outputs es) in
        let no = no_copies p (all_outputs es) none in
        inr (0, twice_of_copies p (outputs e) (omega arith))
  ]
  | inr none ↦
      let parts = copies-append p (outputs e) (all_outputs es) in
      let no = no_copies p (outputs e) none in
      elim (twice_at p es (omega arith)) [
        | inl two ↦ inl (suc two.0, suc two.1, (λ same. two.2 (omega (arith, same))), two.3, two.4)
        | inr one ↦ inr (suc one.0, one.1)
      ]
]

pub made_twice : (edges : List Edge) (p : List ℕ) → StandsTwice (all_outputs edges) p → IsMadeTwice edges p
unfolding IsMadeTwiceAt
made_twice edges p twice = elim (twice_at p edges (copies_of_twice p (all_outputs edges) twice)) [
  | inl two ↦ inl (suc two.0, suc two.1, (λ same. two.2 (omega (arith, same))), two.3, two.4)
  | inr one ↦ inr (suc one.0, one.1)
]

-- a fault at an edge, the edges before which are in order
module _ (edges : List Edge) (k : ℕ) (edge : Edge) (now : List (List ℕ)) (lt : k < length edges) (is : edge ≡ get_or edges k edge) (so_far : now ≡ all_outputs (take k edges)) (distinct : AreDistinct now) (dyndep : AllByRecursion NamesDyndepInput (take k edges)) where
  once_before : AreDistinct (all_outputs (take k edges))
  once_before = subst (λ (l : List (List ℕ)). AreDistinct l) so_far distinct

  whole_outputs : all_outputs edges ≡ (all_outputs (take k edges) ++ outputs edge) ++ all_outputs (drop (suc k) edges)
  whole_outputs =
      ap all_outputs (split_edges edges k edge lt is) ∙ (all_outputs-append (take k edges) (edge ∷ drop (suc k) edges)
      ∙ sym (append_assoc (all_outputs (take k edges)) (outputs edge) (all_outputs (drop (suc k) edges))))

  -- so many edges come before it
  count_before : length (take k edges) ≡ k
  count_before = length-take-le k edges (omega (arith, lt))

  pub fault_turn : (count : ℕ) → k < count → (fault : GraphFault) → IsFaultIn (now ++ outputs edge) fault → IsMakingFault edges count fault
  fault_turn count low Memory found = tt
  fault_turn count low (NoDyndepInput p) found = absurd found
  fault_turn count low (Occupied occupied) found = absurd found
  fault_turn count low (MadeTwice p) found = (
    made_twice edges p (twice_of_repeated (all_outputs edges) p (subst (λ (l : List (List ℕ)). IsFirstRepeated l p) (sym whole_outputs) (repeated_more (all_outputs (take k edges) ++ outputs edge) (all_outputs (drop (suc k) edges)) p here))),
    (
      k,
      low,
      record {
        before = take k edges;
        edge = edge;
        after = drop (suc k) edges;
        splits = split_edges edges k edge lt is;
        stands = count_before;
        in_order = record { distinct = once_before; dyndep = dyndep };
        faulty = here;
      },
    ),
  )
    where
      here : IsFirstRepeated (all_outputs (take k edges) ++ outputs edge) p
      here = subst (λ (l : List (List ℕ)). IsFirstRepeated (l ++ outputs edge) p) so_far found

  pub dyndep_fault_turn : (count : ℕ) → k < count → (next : List (List ℕ)) → next ≡ now ++ outputs edge → AreDistinct next → (fault : GraphFault) → IsDyndepFault edge fault → IsMakingFault edges count fault
  dyndep_fault_turn count low next grown once Memory found = tt
  dyndep_fault_turn count low next grown once (MadeTwice p) found = absurd found
  dyndep_fault_turn count low next grown once (Occupied occupied) found = absurd found
  dyndep_fault_turn count low next grown once (NoDyndepInput p) found = (
    record {
      edge = suc k;
      names = ap (λ (e : Edge). e.dyndep) (sym this) ∙ found.0;
      other = ap (λ (e : Edge). has (inputs e) p) (sym this) ∙ found.1;
    },
    (
      k,
      low,
      record {
        before = take k edges;
        edge = edge;
        after = drop (suc k) edges;
        splits = split_edges edges k edge lt is;
        stands = count_before;
        in_order = record { distinct = once_before; dyndep = dyndep };
        faulty = (subst (λ (l : List (List ℕ)). AreDistinct l) (grown ∙ ap (λ (l : List (List ℕ)). l ++ outputs edge) so_far) once, found.0, found.1);
      },
    ),
  )
    where
      this : edge ≡ get_or edges k no_edge
      this = is ∙ get_or_default edges k edge no_edge lt
