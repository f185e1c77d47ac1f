-- Edges that stand by number, and what is chosen for them.
use Rattle.std.proofs.Common.{◌≡◌, inl, inr, ℕ, zero, suc, ◌+◌, ◌<◌, ◌≤◌, ◌==◌, ◌||◌, Bool, true, false, cond, nat_lt, List, [], ◌∷◌, ◌++◌, Option, Some, None, IfSome, length, take, drop, get_or, refl, sym, ◌∙◌, ap, subst, arith}
use Rattle.std.specs.Prelude.{All}
use Rattle.std.specs.Option.{is_some}
use Rattle.std.proofs.Math.ListN.{set}
use Rattle.std.proofs.lemmas.Bool.{cases_Bool, cases_eq, cases_lt, eqb-true, eq-eqb, ltb-true, ltb-false, false≢true, false_from_ne_true, or_left, or_right, or_parts, or_cases}
use Rattle.std.proofs.lemmas.List.{get_or_default, get_or-map, get_or-set_same, length-map, length-set, take-append-drop}
use Rattle.model.specs.Graph.{has_number}
use Rattle.theory.proofs.Lists.{has_number-append}
use Rattle.graph.specs.declared.choice.Choice.{Choice}
use Rattle.graph.specs.Chosen.{chosen_edges, choice_in, AreRising, IsPlaceFor, StandsAt, HasJoined, IsWithin}
use Rattle.graph.specs.Statements.{AreChoicesBelow, HasChosen, HasPassed}

abbrev pub no_choice : Choice
no_choice = record { edge = 0; statement = None }

-- ---- numbers that rise

pub rising_tail : (x : ℕ) (xs : List ℕ) → AreRising (x ∷ xs) → AreRising xs
rising_tail x xs rising j k less within = rising (suc j) (suc k) (omega (arith, less)) (omega (arith, within))

rising_head : (x : ℕ) (xs : List ℕ) → AreRising (x ∷ xs) → (k : ℕ) → k < length xs → x < get_or xs k 0
rising_head x xs rising k within = rising 0 (suc k) (omega arith) (omega (arith, within))

rising_cons : (x : ℕ) (xs : List ℕ) → ((k : ℕ) → k < length xs → x < get_or xs k 0) → AreRising xs → AreRising (x ∷ xs)
rising_cons x xs above rising zero zero less within = absurd (omega (arith, less))
rising_cons x xs above rising zero (suc k) less within = above k (omega (arith, within))
rising_cons x xs above rising (suc j) zero less within = absurd (omega (arith, less))
rising_cons x xs above rising (suc j) (suc k) less within = rising j k (omega (arith, less)) (omega (arith, within))

above_put : (p : ℕ) (xs : List ℕ) (n x : ℕ) → n < x → ((k : ℕ) → k < length xs → n < get_or xs k 0) → (k : ℕ) → k < length (take p xs ++ x ∷ drop p xs) → n < get_or (take p xs ++ x ∷ drop p xs) k 0
above_put zero xs n x less above zero within = less
above_put zero xs n x less above (suc k) within = above k (omega (arith, within))
above_put (suc p) [] n x less above zero within = less
above_put (suc p) [] n x less above (suc k) within = absurd (omega (arith, within))
above_put (suc p) (y ∷ xs) n x less above zero within = above 0 (omega arith)
above_put (suc p) (y ∷ xs) n x less above (suc k) within = above_put p xs n x less (λ j low. above (suc j) (omega (arith, low))) k (omega (arith, within))

-- one more number where it stands by size
rising_put : (p : ℕ) (xs : List ℕ) (x : ℕ) → AreRising xs → ((k : ℕ) → k < p → k < length xs → get_or xs k 0 < x) → ((k : ℕ) → p ≤ k → k < length xs → x < get_or xs k 0) → AreRising (take p xs ++ x ∷ drop p xs)
rising_put zero xs x rising below behind = rising_cons x xs (λ k within. behind k (omega arith) within) rising
rising_put (suc p) [] x rising below behind = rising_cons x [] (λ k within. absurd (omega (arith, within))) rising
rising_put (suc p) (y ∷ xs) x rising below behind =
    rising_cons y (take p xs ++ x ∷ drop p xs) (above_put p xs y x (below 0 (omega arith) (omega arith)) (rising_head y xs rising))
    (rising_put p xs x (rising_tail y xs rising) (λ k less within. below (suc k) (omega (arith, less)) (omega (arith, within))) (λ k low within. behind (suc k) (omega (arith, low)) (omega (arith, within))))

pub has_there : (xs : List ℕ) (k : ℕ) → k < length xs → has_number xs (get_or xs k 0) ≡ true
has_there [] k low = absurd (omega (arith, low))
has_there (x ∷ xs) zero low = or_left (x == x) (has_number xs x) (eq-eqb x x refl)
has_there (x ∷ xs) (suc k) low = or_right (x == get_or xs k 0) (has_number xs (get_or xs k 0)) (has_there xs k (omega (arith, low)))

pub there_has : (xs : List ℕ) (e : ℕ) → has_number xs e ≡ true → (k : ℕ) × (k < length xs) × (get_or xs k 0 ≡ e)
there_has [] e has = absurd (false≢true has)
there_has (x ∷ xs) e has = elim (or_cases (x == e) (has_number xs e) has) [
  | inl here ↦ (0, omega arith, eqb-true x e here)
  | inr later ↦ let rest = there_has xs e later in (suc rest.0, let low = rest.1 in omega (arith, low), rest.2)
]

pub rising_absent : (x : ℕ) (xs : List ℕ) → AreRising (x ∷ xs) → has_number xs x ≡ false
rising_absent x xs rising = false_from_ne_true (has_number xs x) (λ has.
    let there = there_has xs x has in
    let above = rising_head x xs rising there.0 there.1 in
    let same = there.2 in
    omega (arith, above, same))

-- ---- where a number stands

module _ (xs : List ℕ) (rising : AreRising xs) (e p : ℕ) (place : IsPlaceFor xs e p) where
  -- a number that is there stands at its place
  pub place_found : has_number xs e ≡ true → (p < length xs) × (get_or xs p 0 ≡ e)
  place_found has =
      let there = there_has xs e has in
      let k = there.0 in
      let within = there.1 in
      let is = there.2 in
      elim (cases_lt k p) [
        | inl less ↦ let low = place.below k less in absurd (omega (arith, low, is))
        | inr past ↦ elim (cases_eq p k) [
          | inl same ↦ (omega (arith, same, within), ap (λ (n : ℕ). get_or xs n 0) same ∙ is)
          | inr other ↦
              let low = rising p k (omega (arith, past, other)) within in
              let high = place.behind p (omega arith) (omega (arith, past, within)) in
              absurd (omega (arith, low, high, is))
        ]
      ]

  -- behind the place of a number that is not there all are above it
  pub behind_place : (StandsAt xs e p → ⊥) → (k : ℕ) → p ≤ k → k < length xs → e < get_or xs k 0
  behind_place absent k past within = elim (cases_eq p k) [
    | inl same ↦
        let high = place.behind k past within in
        let other : e ≡ get_or xs k 0 → ⊥ = λ is. absent (record { within = omega (arith, same, within); is = ap (λ (n : ℕ). get_or xs n 0) same ∙ sym is }) in
        omega (arith, high, other)
    | inr other ↦
        let low = rising p k (omega (arith, past, other)) within in
        let high = place.behind p (omega arith) (omega (arith, past, within)) in
        omega (arith, low, high)
  ]

-- a range of places is halved: in front of it all are below the number, and behind it none is
pub record IsHalved (xs : List ℕ) (count e low high : ℕ) : Type 0 where
  pub order : low ≤ high
  pub within : high ≤ count
  pub below : (k : ℕ) → k < low → get_or xs k 0 < e
  pub behind : (k : ℕ) → high ≤ k → k < count → e ≤ get_or xs k 0

pub halved_first : (xs : List ℕ) (count e : ℕ) → IsHalved xs count e 0 count
halved_first xs count e = record { order = omega arith; within = omega arith; below = λ k less. absurd (omega (arith, less)); behind = λ k past within. absurd (omega (arith, past, within)) }

module _ (xs : List ℕ) (rising : AreRising xs) (e low high at next_low next_high : ℕ) (is : IsHalved xs (length xs) e low high) (from : low ≤ at) (to : at < high) where
  halved_up : get_or xs at 0 < e → next_low ≡ at + 1 → next_high ≡ high → IsHalved xs (length xs) e next_low next_high
  halved_up less up same = record {
    order = omega (arith, to, up, same);
    within = let most = is.within in omega (arith, most, same);
    below = λ k small. elim (cases_eq k at) [
      | inl here ↦ subst (λ (n : ℕ). get_or xs n 0 < e) (sym here) less
      | inr other ↦ let most = is.within in let smaller = rising k at (omega (arith, small, other, up)) (omega (arith, to, most)) in omega (arith, smaller, less)
    ];
    behind = λ k past within. is.behind k (omega (arith, past, same)) within;
  }

  halved_down : (get_or xs at 0 < e → ⊥) → next_low ≡ low → next_high ≡ at → IsHalved xs (length xs) e next_low next_high
  halved_down more same down = record {
    order = omega (arith, from, same, down);
    within = let most = is.within in omega (arith, to, most, down);
    below = λ k small. is.below k (omega (arith, small, same));
    behind = λ k past within. elim (cases_eq k at) [
      | inl here ↦ subst (λ (n : ℕ). e ≤ get_or xs n 0) (sym here) (omega (arith, more))
      | inr other ↦ let larger = rising at k (omega (arith, past, other, down)) within in omega (arith, larger, more)
    ];
  }

pub halved_last : (xs : List ℕ) (count e low high : ℕ) → count ≡ length xs → high ≤ low → IsHalved xs count e low high → IsPlaceFor xs e low
halved_last xs count e low high whole done is = record {
  within = let order = is.order in let most = is.within in omega (arith, order, most, whole);
  below = is.below;
  behind = λ k past within. is.behind k (omega (arith, done, past)) (omega (arith, within, whole));
}

-- ---- what is chosen

pub choice_here : (c : Choice) (cs : List Choice) (e : ℕ) → (c.edge == e) ≡ true → choice_in (c ∷ cs) e ≡ c.statement
choice_here c cs e is = ap (λ (b : Bool). cond b c.statement (choice_in cs e)) is

pub choice_past : (c : Choice) (cs : List Choice) (e : ℕ) → (c.edge == e) ≡ false → choice_in (c ∷ cs) e ≡ choice_in cs e
choice_past c cs e is = ap (λ (b : Bool). cond b c.statement (choice_in cs e)) is

pub choice_absent : (cs : List Choice) (e : ℕ) → has_number (chosen_edges cs) e ≡ false → choice_in cs e ≡ None
choice_absent [] e absent = refl
choice_absent (c ∷ cs) e absent = let both = or_parts (c.edge == e) (has_number (chosen_edges cs) e) absent in choice_past c cs e both.0 ∙ choice_absent cs e both.1

pub edge_there : (cs : List Choice) (k : ℕ) (d : Choice) → k < length cs → get_or (chosen_edges cs) k 0 ≡ (get_or cs k d).edge
edge_there cs k d within = get_or-map (λ (c : Choice). c.edge) cs k d 0 within

pub edges_length : (cs : List Choice) → length (chosen_edges cs) ≡ length cs
edges_length cs = length-map cs (λ (c : Choice). c.edge)

-- the number at a place tells which half is left
module _ (cs : List Choice) (rising : AreRising (chosen_edges cs)) (e low high at next_low next_high : ℕ) (x : Choice) (is : IsHalved (chosen_edges cs) (length cs) e low high) (from : low ≤ at) (to : at < high) (read : x ≡ get_or cs at x) where
  half : IsHalved (chosen_edges cs) (length (chosen_edges cs)) e low high
  half = subst (λ (n : ℕ). IsHalved (chosen_edges cs) n e low high) (sym (edges_length cs)) is

  number : get_or (chosen_edges cs) at 0 ≡ x.edge
  number = edge_there cs at x (let most = is.within in omega (arith, to, most)) ∙ ap (λ (c : Choice). c.edge) (sym read)

  whole : IsHalved (chosen_edges cs) (length (chosen_edges cs)) e next_low next_high → IsHalved (chosen_edges cs) (length cs) e next_low next_high
  whole next = subst (λ (n : ℕ). IsHalved (chosen_edges cs) n e next_low next_high) (edges_length cs) next

  pub half_up : nat_lt x.edge e ≡ true → next_low ≡ at + 1 → next_high ≡ high → IsHalved (chosen_edges cs) (length cs) e next_low next_high
  half_up less up same =
      let here = ltb-true x.edge e less in
      whole (halved_up (chosen_edges cs) rising e low high at next_low next_high half from to (subst (λ (n : ℕ). n < e) (sym number) here) up same)

  pub half_down : nat_lt x.edge e ≡ false → next_low ≡ low → next_high ≡ at → IsHalved (chosen_edges cs) (length cs) e next_low next_high
  half_down more same down =
      let here = ltb-false x.edge e more in
      whole (halved_down (chosen_edges cs) rising e low high at next_low next_high half from to (λ less. let small : x.edge < e = subst (λ (n : ℕ). n < e) number less in omega (arith, here, small)) same down)

unlike : (m n : ℕ) → (m ≡ n → ⊥) → (m == n) ≡ false
unlike m n other = false_from_ne_true (m == n) (λ is. other (eqb-true m n is))

-- what is chosen for an edge stands beside it
pub choice_at : (cs : List Choice) (k : ℕ) → AreRising (chosen_edges cs) → k < length cs → choice_in cs (get_or cs k no_choice).edge ≡ (get_or cs k no_choice).statement
choice_at [] k rising within = absurd (omega (arith, within))
choice_at (c ∷ cs) zero rising within = choice_here c cs c.edge (eq-eqb c.edge c.edge refl)
choice_at (c ∷ cs) (suc k) rising within =
    let low : k < length cs = omega (arith, within) in
    let above = rising_head c.edge (chosen_edges cs) rising k (let long = edges_length cs in omega (arith, low, long)) in
    let there = edge_there cs k no_choice low in
    let n = (get_or cs k no_choice).edge in
    choice_past c cs n (unlike c.edge n (λ (same : c.edge ≡ n). omega (arith, above, there, same))) ∙ choice_at cs k (rising_tail c.edge (chosen_edges cs) rising) low

-- and so of a number at a place
pub choice_of_place : (cs : List Choice) (k e : ℕ) → AreRising (chosen_edges cs) → k < length cs → get_or (chosen_edges cs) k 0 ≡ e → choice_in cs e ≡ (get_or cs k no_choice).statement
choice_of_place cs k e rising within is = ap (choice_in cs) (sym is ∙ edge_there cs k no_choice within) ∙ choice_at cs k rising within

-- what was read at a place is what stands there
pub read_choice : (cs : List Choice) (k : ℕ) (x : Choice) → k < length cs → x ≡ get_or cs k x → x ≡ get_or cs k no_choice
read_choice cs k x low is = is ∙ get_or_default cs k x no_choice low

pub none_of : (o : Option ℕ) → is_some o ≡ false → o ≡ None
none_of None is = refl
none_of (Some k) is = absurd (false≢true (sym is))

-- ---- a statement is given

pub edges_set : (cs : List Choice) (k : ℕ) (x : Choice) → get_or (chosen_edges cs) k 0 ≡ x.edge → chosen_edges (set cs k x) ≡ chosen_edges cs
edges_set [] k x is = refl
edges_set (c ∷ cs) zero x is = ap (λ (n : ℕ). n ∷ chosen_edges cs) (sym is)
edges_set (c ∷ cs) (suc k) x is = ap (λ (l : List ℕ). c.edge ∷ l) (edges_set cs k x is)

choice_set_other : (cs : List Choice) (k : ℕ) (x : Choice) (e : ℕ) → get_or (chosen_edges cs) k 0 ≡ x.edge → (e ≡ x.edge → ⊥) → choice_in (set cs k x) e ≡ choice_in cs e
choice_set_other [] k x e is other = refl
choice_set_other (c ∷ cs) zero x e is other = choice_past x cs e (unlike x.edge e (λ same. other (sym same))) ∙ sym (choice_past c cs e (unlike c.edge e (λ same. other (sym same ∙ is))))
choice_set_other (c ∷ cs) (suc k) x e is other = ap (λ (o : Option ℕ). cond (c.edge == e) c.statement o) (choice_set_other cs k x e is other)

module _ (cs : List Choice) (at edge place : ℕ) (rising : AreRising (chosen_edges cs)) (within : at < length cs) (is : get_or (chosen_edges cs) at 0 ≡ edge) where
  abbrev given : List Choice
  given = set cs at (record { edge = edge; statement = Some place })

  pub has_chosen : (get_or cs at no_choice).statement ≡ None → HasChosen (Some (suc edge)) place (choice_in cs) (choice_in given)
  has_chosen none = record {
    edge = edge;
    owns = refl;
    none = choice_of_place cs at edge rising within is ∙ none;
    here = subst (λ (y : Choice). choice_in given y.edge ≡ y.statement) (get_or-set_same cs at (record { edge = edge; statement = Some place }) no_choice within)
        (choice_at given at (subst AreRising (sym (edges_set cs at (record { edge = edge; statement = Some place }) is)) rising) (let long = length-set cs at (record { edge = edge; statement = Some place }) in omega (arith, within, long)));
    others = λ e other. choice_set_other cs at (record { edge = edge; statement = Some place }) e is other;
  }

  pub has_passed : is_some (get_or cs at no_choice).statement ≡ true → HasPassed (Some (suc edge)) (choice_in cs) (choice_in cs)
  has_passed some = record {
    same = λ e. refl;
    taken = λ e owns none. false≢true (sym (ap is_some (sym (choice_of_place cs at edge rising within is) ∙ (ap (choice_in cs) (suc_same edge e owns) ∙ none))) ∙ some);
  }
    where
      suc_same : (a b : ℕ) → Some (suc a) ≡ Some (suc b) → a ≡ b
      suc_same a b same = cc

-- ---- one more edge

edges_put : (p : ℕ) (cs : List Choice) (x : Choice) → chosen_edges (take p cs ++ x ∷ drop p cs) ≡ take p (chosen_edges cs) ++ x.edge ∷ drop p (chosen_edges cs)
edges_put zero cs x = refl
edges_put (suc p) [] x = refl
edges_put (suc p) (c ∷ cs) x = ap (λ (l : List ℕ). c.edge ∷ l) (edges_put p cs x)

none_first : (cs : List Choice) (edge e : ℕ) → choice_in cs e ≡ None → choice_in ((record { edge = edge; statement = None }) ∷ cs) e ≡ None
none_first cs edge e none = elim (cases_Bool (edge == e)) [
  | inl here ↦ choice_here (record { edge = edge; statement = None }) cs e here
  | inr past ↦ choice_past (record { edge = edge; statement = None }) cs e past ∙ none
]

none_put : (p : ℕ) (cs : List Choice) (edge e : ℕ) → choice_in cs e ≡ None → choice_in (take p cs ++ (record { edge = edge; statement = None }) ∷ drop p cs) e ≡ None
none_put zero cs edge e none = none_first cs edge e none
none_put (suc p) [] edge e none = none_first [] edge e none
none_put (suc p) (c ∷ cs) edge e none = elim (cases_Bool (c.edge == e)) [
  | inl here ↦ choice_here c (take p cs ++ (record { edge = edge; statement = None }) ∷ drop p cs) e here ∙ (sym (choice_here c cs e here) ∙ none)
  | inr past ↦ choice_past c (take p cs ++ (record { edge = edge; statement = None }) ∷ drop p cs) e past ∙ none_put p cs edge e (sym (choice_past c cs e past) ∙ none)
]

turned : (a x b : Bool) → (a || (x || b)) ≡ ((a || b) || x)
turned true x b = refl
turned false true true = refl
turned false true false = refl
turned false false true = refl
turned false false false = refl

has_put : (p : ℕ) (xs : List ℕ) (x e : ℕ) → has_number (take p xs ++ x ∷ drop p xs) e ≡ (has_number xs e || (x == e))
has_put p xs x e =
    has_number-append (take p xs) (x ∷ drop p xs) e
    ∙ (turned (has_number (take p xs) e) (x == e) (has_number (drop p xs) e)
    ∙ ap (λ (b : Bool). b || (x == e)) (sym (has_number-append (take p xs) (drop p xs) e) ∙ ap (λ (l : List ℕ). has_number l e) (take-append-drop p xs)))

module _ (cs : List Choice) (edge p : ℕ) (rising : AreRising (chosen_edges cs)) (place : IsPlaceFor (chosen_edges cs) edge p) where
  pub joined_before : StandsAt (chosen_edges cs) edge p → HasJoined cs edge cs
  joined_before stands = record { rising = rising; edges = same; none = λ e none. none }
    where
      has : has_number (chosen_edges cs) edge ≡ true
      has = subst (λ (n : ℕ). has_number (chosen_edges cs) n ≡ true) stands.is (has_there (chosen_edges cs) p stands.within)

      either : (a b : Bool) → (b ≡ true → a ≡ true) → a ≡ (a || b)
      either true b there = refl
      either false true there = there refl
      either false false there = refl

      same : (e : ℕ) → has_number (chosen_edges cs) e ≡ (has_number (chosen_edges cs) e || (edge == e))
      same e = either (has_number (chosen_edges cs) e) (edge == e) (λ is. subst (λ (n : ℕ). has_number (chosen_edges cs) n ≡ true) (eqb-true edge e is) has)

  pub joined_put : (StandsAt (chosen_edges cs) edge p → ⊥) → HasJoined cs edge (take p cs ++ (record { edge = edge; statement = None }) ∷ drop p cs)
  joined_put absent =
      let edges = edges_put p cs (record { edge = edge; statement = None }) in
      record {
        rising = subst AreRising (sym edges) (rising_put p (chosen_edges cs) edge rising (λ k less within. place.below k less) (behind_place (chosen_edges cs) rising edge p place absent));
        edges = λ e. ap (λ (l : List ℕ). has_number l e) edges ∙ has_put p (chosen_edges cs) edge e;
        none = λ e none. none_put p cs edge e none;
      }

-- ---- places of statements

pub choices_below : (lines count : ℕ) (cs : List Choice) → All (IsWithin lines count) cs → AreChoicesBelow count (choice_in cs)
choices_below lines count [] each e k is = cc
choices_below lines count (c ∷ cs) each e k is = elim (cases_Bool (c.edge == e)) [
  | inl here ↦ subst (λ (o : Option ℕ). IfSome o (λ n. n < count)) (sym (choice_here c cs e here) ∙ is) (each 0 no_choice (omega arith)).statement
  | inr past ↦ choices_below lines count cs (λ j d low. each (suc j) d (omega (arith, low))) e k (sym (choice_past c cs e past) ∙ is)
]
