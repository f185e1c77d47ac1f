-- What the scopes stand for after one more move.
use Rattle.std.proofs.Common.{◌≡◌, ◌≢◌, ◌⊎◌, inl, inr, ◌<◌, ◌≤◌, ◌+◌, ◌==◌, ℕ, zero, suc, Bool, true, false, cond, List, [], ◌∷◌, ◌++◌, drop, take, length, reverse, slice_get, Option, None, Some, refl, sym, ◌∙◌, ap, subst, arith}
use Rattle.std.proofs.Math.ListN.{set}
use Rattle.std.specs.Option.{option_and_then}
use Rattle.std.specs.Str.{bytes_eq}
use Rattle.std.proofs.lemmas.Bool.{cases_Bool, eqb-true, eq-eqb, false≢true}
use Rattle.std.proofs.lemmas.List.{length-set, length-append, length-take-le, reverse-append}
use Rattle.scopes.specs.declared.template.Rule.{Rule}
use Rattle.scopes.specs.declared.scope.Scope.{Scope}
use Rattle.scopes.specs.Maps.{variable_of, rule_of, IsNewScope}
use Rattle.scopes.specs.Moves.{Move, Bind, DeclareRule, Enter, Leave, variable, rule_named, or_else, entered, open_scopes, scopes_from, begins_with, last_in, first_in}
use Rattle.scopes.specs.Scopes.{scopes_around, IsLinked, IsScopesAt}

same_or_other : (i j : ℕ) → (j ≡ i) ⊎ (j ≢ i)
same_or_other i j = elim (cases_Bool (j == i)) [
  | inl is ↦ inl (eqb-true j i is)
  | inr not ↦ inr (λ is. false≢true (sym not ∙ eq-eqb j i is))
]

not_equal : (a b : ℕ) → a ≢ b → (a == b) ≡ false
not_equal a b other = by (a == b) refl
  where
    by : (c : Bool) → (a == b) ≡ c → (a == b) ≡ false
    by true is = absurd (other (eqb-true a b is))
    by false is = is

get_set_same : {X : Type 0} (xs : List X) (i : ℕ) (x : X) → i < length xs → slice_get (set xs i x) i ≡ Some x
get_set_same [] i x lt = absurd (omega (arith, lt))
get_set_same (y ∷ xs) zero x lt = refl
get_set_same (y ∷ xs) (suc i) x lt = get_set_same xs i x (omega (arith, lt))

get_set_other : {X : Type 0} (xs : List X) (i j : ℕ) (x : X) → j ≢ i → slice_get (set xs i x) j ≡ slice_get xs j
get_set_other [] i j x other = refl
get_set_other (y ∷ xs) zero zero x other = absurd (other refl)
get_set_other (y ∷ xs) zero (suc j) x other = refl
get_set_other (y ∷ xs) (suc i) zero x other = refl
get_set_other (y ∷ xs) (suc i) (suc j) x other = get_set_other xs i j x (λ same. other (ap suc same))

some_is : {X : Type 0} (a b : X) → Some a ≡ Some b → a ≡ b
some_is a b e = cc

some_none : {X : Type 0} (a : X) → None ≡ Some a → ⊥
some_none a e = cc

-- one more item of which nothing is said
push_nothing : {V : Type 0} (pick : Scope → Option V) (scopes : List Scope) (new : Scope) (s : ℕ) → pick new ≡ None → option_and_then pick (slice_get (scopes ++ new ∷ []) s) ≡ option_and_then pick (slice_get scopes s)
push_nothing pick [] new zero none = none
push_nothing pick [] new (suc s) none = refl
push_nothing pick (x ∷ xs) new zero none = refl
push_nothing pick (x ∷ xs) new (suc s) none = push_nothing pick xs new s none

push_cases : (scopes : List Scope) (new : Scope) (s : ℕ) (scope : Scope) → slice_get (scopes ++ new ∷ []) s ≡ Some scope → ((s < length scopes) × (slice_get scopes s ≡ Some scope)) ⊎ ((s ≡ length scopes) × (scope ≡ new))
push_cases [] new zero scope is = inr (refl, sym (some_is new scope is))
push_cases [] new (suc s) scope is = absurd (some_none scope is)
push_cases (x ∷ xs) new zero scope is = inl (omega arith, is)
push_cases (x ∷ xs) new (suc s) scope is = elim (push_cases xs new s scope is) [
  | inl old ↦ inl (omega (arith, old.0), old.1)
  | inr last ↦ inr (omega (arith, last.0), last.1)
]

-- moves that open no scope leave the scopes from each number as they were
around_bind : (name value : List ℕ) (past : List Move) (n : ℕ) → scopes_around (Bind name value ∷ past) n ≡ scopes_around past n
around_bind name value past zero = refl
around_bind name value past (suc n) = refl

around_declare : (name : List ℕ) (rule : Rule) (past : List Move) (n : ℕ) → scopes_around (DeclareRule name rule ∷ past) n ≡ scopes_around past n
around_declare name rule past zero = refl
around_declare name rule past (suc n) = refl

around_leave : (past : List Move) (n : ℕ) → scopes_around (Leave ∷ past) n ≡ scopes_around past n
around_leave past zero = refl
around_leave past (suc n) = refl

from_enter : (past : List Move) (s : ℕ) → s ≤ entered past → scopes_from (Enter ∷ past) s ≡ scopes_from past s
from_enter past s old = ap (λ (b : Bool). cond b (s ∷ open_scopes past) (scopes_from past s)) (not_equal s (suc (entered past)) (λ same. absurd (omega (arith, old, same))))

from_new : (past : List Move) (s : ℕ) → s ≡ suc (entered past) → scopes_from (Enter ∷ past) s ≡ s ∷ open_scopes past
from_new past s new = ap (λ (b : Bool). cond b (s ∷ open_scopes past) (scopes_from past s)) (eq-eqb s (suc (entered past)) new)

around_enter : (past : List Move) (n : ℕ) → n ≤ suc (entered past) → scopes_around (Enter ∷ past) n ≡ scopes_around past n
around_enter past zero old = refl
around_enter past (suc n) old = from_enter past n (omega (arith, old))

from_begins : (past : List Move) (s : ℕ) → (ss : List ℕ) × (scopes_from past s ≡ s ∷ ss)
from_begins [] s = ([], refl)
from_begins (Leave ∷ past) s = from_begins past s
from_begins (Bind name value ∷ past) s = from_begins past s
from_begins (DeclareRule name rule ∷ past) s = from_begins past s
from_begins (Enter ∷ past) s = by (s == suc (entered past)) (from_begins past s)
  where
    by : (b : Bool) → (ss : List ℕ) × (scopes_from past s ≡ s ∷ ss) → (ss : List ℕ) × (cond b (s ∷ open_scopes past) (scopes_from past s) ≡ s ∷ ss)
    by true before = (open_scopes past, refl)
    by false before = before

same_head : (a b : ℕ) (xs ys : List ℕ) → a ∷ xs ≡ b ∷ ys → a ≡ b
same_head a b xs ys e = cc

same_tail : (a b : ℕ) (xs ys : List ℕ) → a ∷ xs ≡ b ∷ ys → xs ≡ ys
same_tail a b xs ys e = cc

no_list : (b : ℕ) (bs : List ℕ) → [] ≡ b ∷ bs → ⊥
no_list b bs e = cc

module _ (scopes : List Scope) (present : ℕ) (outer : List ℕ) (past : List Move) (at : IsScopesAt scopes present outer past) where
  -- the maps of one scope are written
  module _ (old new : Scope) (here : slice_get scopes present ≡ Some old) (within : present < length scopes) (links : new.around ≡ old.around) where
    linked_set : (s : ℕ) (scope : Scope) → slice_get (set scopes present new) s ≡ Some scope → IsLinked past s scope
    linked_set s scope is = elim (same_or_other present s) [
      | inl same ↦
          let found : new ≡ scope = some_is new scope (sym (get_set_same scopes present new within) ∙ subst (λ (n : ℕ). slice_get (set scopes present new) n ≡ Some scope) same is) in
          let was : IsLinked past s old = at.linked s old (ap (slice_get scopes) same ∙ here) in
          let around : scope.around ≡ old.around = sym (ap (λ (x : Scope). x.around) found) ∙ links in
          record { lower = omega (arith, was.lower, around); links = was.links ∙ ap (λ (n : ℕ). s ∷ scopes_around past n) (sym around) }
      | inr other ↦ at.linked s scope (sym (get_set_other scopes present s new other) ∙ is)
    ]

    pick_set : {V : Type 0} (pick : Scope → Option V) (says : Move → Option V) (move : Move) → ((s : ℕ) → option_and_then pick (slice_get scopes s) ≡ last_in says past s)
        → pick new ≡ or_else (says move) (pick old)
        → ((s : ℕ) → last_in says (move ∷ past) s ≡ cond (begins_with s (open_scopes past)) (or_else (says move) (last_in says past s)) (last_in says past s))
        → (s : ℕ) → option_and_then pick (slice_get (set scopes present new) s) ≡ last_in says (move ∷ past) s
    pick_set {V} pick says move before now step s = elim (same_or_other present s) [
      | inl same ↦
          let first : begins_with s (open_scopes past) ≡ true = ap (begins_with s) at.opened ∙ eq-eqb s present same in
          let old_pick : pick old ≡ last_in says past s = sym (ap (λ (n : ℕ). option_and_then pick (slice_get scopes n)) same ∙ ap (option_and_then pick) here) ∙ before s in
          ap (λ (n : ℕ). option_and_then pick (slice_get (set scopes present new) n)) same
          ∙ (ap (option_and_then pick) (get_set_same scopes present new within)
          ∙ (now ∙ (ap (or_else (says move)) old_pick
          ∙ sym (step s ∙ ap (λ (b : Bool). cond b (or_else (says move) (last_in says past s)) (last_in says past s)) first))))
      | inr other ↦
          let later : begins_with s (open_scopes past) ≡ false = ap (begins_with s) at.opened ∙ not_equal s present other in
          ap (option_and_then pick) (get_set_other scopes present s new other)
          ∙ (before s ∙ sym (step s ∙ ap (λ (b : Bool). cond b (or_else (says move) (last_in says past s)) (last_in says past s)) later))
    ]

    pick_same : {V : Type 0} (pick : Scope → Option V) → pick new ≡ pick old → (s : ℕ) → option_and_then pick (slice_get (set scopes present new) s) ≡ option_and_then pick (slice_get scopes s)
    pick_same {V} pick now s = elim (same_or_other present s) [
      | inl same ↦
          ap (λ (n : ℕ). option_and_then pick (slice_get (set scopes present new) n)) same
          ∙ (ap (option_and_then pick) (get_set_same scopes present new within)
          ∙ (now ∙ sym (ap (λ (n : ℕ). option_and_then pick (slice_get scopes n)) same ∙ ap (option_and_then pick) here)))
      | inr other ↦ ap (option_and_then pick) (get_set_other scopes present s new other)
    ]

    pub at_bind : (name value : List ℕ) → ((q : List ℕ) → variable_of new q ≡ cond (bytes_eq name q) (Some value) (variable_of old q)) → ((q : List ℕ) → rule_of new q ≡ rule_of old q)
        → IsScopesAt (set scopes present new) present outer (Bind name value ∷ past)
    at_bind name value writes keeps = record {
      lawful = at.lawful;
      number = length-set scopes present new ∙ at.number;
      opened = at.opened;
      around = at.around;
      linked = λ s scope is. let was = linked_set s scope is in record { lower = was.lower; links = was.links ∙ ap (λ (l : List ℕ). s ∷ l) (sym (around_bind name value past scope.around)) };
      variables = λ s q. pick_set (λ (x : Scope). variable_of x q) (variable q) (Bind name value) (λ n. at.variables n q) (writes q ∙ or_here (bytes_eq name q) (variable_of old q)) (λ n. refl) s;
      rules = λ s q. pick_set (λ (x : Scope). rule_of x q) (rule_named q) (Bind name value) (λ n. at.rules n q) (keeps q) (λ n. refl) s;
    }
      where
        or_here : (b : Bool) (o : Option (List ℕ)) → cond b (Some value) o ≡ or_else (cond b (Some value) None) o
        or_here true o = refl
        or_here false o = refl

    pub at_declare : (name : List ℕ) (rule : Rule) → ((q : List ℕ) → rule_of new q ≡ cond (bytes_eq name q) (Some rule) (rule_of old q)) → ((q : List ℕ) → variable_of new q ≡ variable_of old q)
        → IsScopesAt (set scopes present new) present outer (DeclareRule name rule ∷ past)
    at_declare name rule writes keeps = record {
      lawful = at.lawful;
      number = length-set scopes present new ∙ at.number;
      opened = at.opened;
      around = at.around;
      linked = λ s scope is. let was = linked_set s scope is in record { lower = was.lower; links = was.links ∙ ap (λ (l : List ℕ). s ∷ l) (sym (around_declare name rule past scope.around)) };
      variables = λ s q. pick_set (λ (x : Scope). variable_of x q) (variable q) (DeclareRule name rule) (λ n. at.variables n q) (keeps q) (λ n. refl) s;
      rules = λ s q. pick_set (λ (x : Scope). rule_of x q) (rule_named q) (DeclareRule name rule) (λ n. at.rules n q) (writes q ∙ or_here (bytes_eq name q) (rule_of old q)) (λ n. refl) s;
    }
      where
        or_here : (b : Bool) (o : Option Rule) → cond b (Some rule) o ≡ or_else (cond b (Some rule) None) o
        or_here true o = refl
        or_here false o = refl

    -- a map that says what it said
    pub at_same : ((q : List ℕ) → variable_of new q ≡ variable_of old q) → ((q : List ℕ) → rule_of new q ≡ rule_of old q) → IsScopesAt (set scopes present new) present outer past
    at_same variables rules = record {
      lawful = at.lawful;
      number = length-set scopes present new ∙ at.number;
      opened = at.opened;
      around = at.around;
      linked = linked_set;
      variables = λ s q. pick_same (λ (x : Scope). variable_of x q) (variables q) s ∙ at.variables s q;
      rules = λ s q. pick_same (λ (x : Scope). rule_of x q) (rules q) s ∙ at.rules s q;
    }

  pub at_enter : (new : Scope) → IsNewScope new (present + 1) → present < length scopes → IsScopesAt (scopes ++ new ∷ []) (length scopes) (outer ++ present ∷ []) (Enter ∷ past)
  at_enter new is within = record {
    lawful = at.lawful;
    number = omega (arith, length-append scopes (new ∷ []), at.number);
    opened = ap (λ (l : List ℕ). suc (entered past) ∷ l) at.opened ∙ (ap (λ (n : ℕ). n ∷ present ∷ reverse outer) (sym at.number) ∙ ap (λ (l : List ℕ). length scopes ∷ l) (sym (reverse-append outer (present ∷ []))));
    around = from_new past (length scopes) at.number ∙ ap (λ (n : ℕ). n ∷ open_scopes past) at.number;
    linked = λ s scope found. elim (push_cases scopes new s scope found) [
      | inl old ↦
          let was = at.linked s scope old.1 in
          record { lower = was.lower; links = from_enter past s (omega (arith, old.0, at.number)) ∙ (was.links ∙ ap (λ (l : List ℕ). s ∷ l) (sym (around_enter past scope.around (omega (arith, was.lower, old.0, at.number))))) }
      | inr last ↦
          let around : scope.around ≡ suc present = ap (λ (x : Scope). x.around) last.1 ∙ (is.around_is ∙ omega arith) in
          record {
            lower = omega (arith, around, within, last.0);
            links = from_new past s (last.0 ∙ at.number) ∙ ap (λ (l : List ℕ). s ∷ l) (sym (ap (scopes_around (Enter ∷ past)) around ∙ (from_enter past present (omega (arith, within, at.number)) ∙ at.around)));
          }
    ];
    variables = λ s q. push_nothing (λ (x : Scope). variable_of x q) scopes new s (is.variables q) ∙ at.variables s q;
    rules = λ s q. push_nothing (λ (x : Scope). rule_of x q) scopes new s (is.rules q) ∙ at.rules s q;
  }

pub at_leave : (scopes : List Scope) (present : ℕ) (outer : List ℕ) (past : List Move) (last : ℕ) → IsScopesAt scopes present (outer ++ last ∷ []) past → present < length scopes
    → IsScopesAt scopes last outer (Leave ∷ past)
at_leave scopes present outer past last at within = record {
  lawful = (omega (arith, ap length was_open), at.lawful);
  number = at.number;
  opened = ap (drop 1) was_open;
  around = found ∙ sym (ap (drop 1) was_open);
  linked = λ s scope is. let was = at.linked s scope is in record { lower = was.lower; links = was.links ∙ ap (λ (l : List ℕ). s ∷ l) (sym (around_leave past scope.around)) };
  variables = at.variables;
  rules = at.rules;
}
  where
    was_open : open_scopes past ≡ present ∷ last ∷ reverse outer
    was_open = at.opened ∙ ap (λ (l : List ℕ). present ∷ l) (reverse-append outer (last ∷ []))

    from_around : (n : ℕ) → scopes_around past n ≡ last ∷ reverse outer → scopes_from past last ≡ last ∷ reverse outer
    from_around zero is = absurd (no_list last (reverse outer) is)
    from_around (suc n) is =
        let starts = from_begins past n in
        let same : n ≡ last = same_head n last starts.0 (reverse outer) (sym starts.1 ∙ is) in
        ap (scopes_from past) (sym same) ∙ is

    at_scope : (o : Option Scope) → slice_get scopes present ≡ o → scopes_from past last ≡ last ∷ reverse outer
    at_scope None is = absurd (past_end scopes present within is)
      where
        past_end : (xs : List Scope) (i : ℕ) → i < length xs → slice_get xs i ≡ None → ⊥
        past_end [] i lt e = omega (arith, lt)
        past_end (x ∷ xs) zero lt e = some_none x (sym e)
        past_end (x ∷ xs) (suc i) lt e = past_end xs i (omega (arith, lt)) e
    at_scope (Some scope) is =
        let link = at.linked present scope is in
        from_around scope.around (same_tail present present (scopes_around past scope.around) (last ∷ reverse outer) (sym link.links ∙ (at.around ∙ was_open)))

    found : scopes_from past last ≡ last ∷ reverse outer
    found = at_scope (slice_get scopes present) refl

get_last : {X : Type 0} (front : List X) (x : X) → slice_get (front ++ x ∷ []) (length front) ≡ Some x
get_last [] x = refl
get_last (y ∷ ys) x = get_last ys x

get_taken : {X : Type 0} (xs : List X) (n k : ℕ) (x : X) → slice_get (take n xs) k ≡ Some x → slice_get xs k ≡ Some x
get_taken [] zero k x is = is
get_taken [] (suc n) k x is = is
get_taken (y ∷ ys) zero k x is = absurd (some_none x is)
get_taken (y ∷ ys) (suc n) zero x is = is
get_taken (y ∷ ys) (suc n) (suc k) x is = get_taken ys n k x is

-- a front of the items before the last
pub front_taken : {X : Type 0} (xs front : List X) (x : X) (n k : ℕ) → front ++ x ∷ [] ≡ take n xs → k ≤ length front → take k front ≡ take k xs
front_taken xs front x n zero is low = refl
front_taken xs [] x n (suc k) is low = absurd (omega (arith, low))
front_taken [] (y ∷ ys) x zero (suc k) is low = absurd cc
front_taken [] (y ∷ ys) x (suc n) (suc k) is low = absurd cc
front_taken (z ∷ zs) (y ∷ ys) x zero (suc k) is low = absurd cc
front_taken {X} (z ∷ zs) (y ∷ ys) x (suc n) (suc k) is low =
    let first : y ≡ z = cc in
    let others : ys ++ x ∷ [] ≡ take n zs = cc in
    ap (λ (h : X). h ∷ take k ys) first ∙ ap (λ (l : List X). z ∷ l) (front_taken zs ys x n k others (omega (arith, low)))

-- a look-up goes on in the scope around
module _ {V : Type 0} (scopes : List Scope) (present : ℕ) (outer : List ℕ) (past : List Move) (at : IsScopesAt scopes present outer past) (pick : Scope → Option V) (says : Move → Option V)
    (picks : (s : ℕ) → option_and_then pick (slice_get scopes s) ≡ last_in says past s) where
  pub goes_outward : (s : ℕ) (scope : Scope) → slice_get scopes s ≡ Some scope
      → first_in says past (scopes_around past (suc s)) ≡ or_else (pick scope) (first_in says past (scopes_around past scope.around))
  goes_outward s scope is =
      ap (first_in says past) (at.linked s scope is).links
      ∙ ap (λ (o : Option V). or_else o (first_in says past (scopes_around past scope.around))) (sym (picks s) ∙ ap (option_and_then pick) is)

  module _ (front : List Scope) (x : Scope) (xs : List Scope) (is_front : xs ≡ take (length xs) scopes) (parts : xs ≡ front ++ x ∷ []) where
    last_is : slice_get scopes (length front) ≡ Some x
    last_is = get_taken scopes (length xs) (length front) x (ap (λ (l : List Scope). slice_get l (length front)) (sym is_front ∙ parts) ∙ get_last front x)

    number : length xs ≡ suc (length front)
    number = ap length parts ∙ (length-append front (x ∷ []) ∙ omega arith)

    outward : first_in says past (scopes_around past (length xs)) ≡ or_else (pick x) (first_in says past (scopes_around past x.around))
    outward = ap (λ (n : ℕ). first_in says past (scopes_around past n)) number ∙ goes_outward (length front) x last_is

    pub found_here : (v : V) → pick x ≡ Some v → first_in says past (scopes_around past (length xs)) ≡ Some v
    found_here v is = outward ∙ ap (λ (o : Option V). or_else o (first_in says past (scopes_around past x.around))) is

    pub goes_on : pick x ≡ None → (k : ℕ) → k ≤ length front → (x.around ≤ length front → k ≡ x.around) → first_in says past (scopes_around past (length xs)) ≡ first_in says past (scopes_around past (length (take k front)))
    goes_on none k within least =
        let low : x.around ≤ length front = (at.linked (length front) x last_is).lower in
        let same : length (take k front) ≡ x.around = length-take-le k front within ∙ least low in
        outward ∙ (ap (λ (o : Option V). or_else o (first_in says past (scopes_around past x.around))) none ∙ ap (λ (n : ℕ). first_in says past (scopes_around past n)) (sym same))
