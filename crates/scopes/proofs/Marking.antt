-- Bits of sets of keys.
use Rattle.std.proofs.Common.{◌≡◌, ◌⊎◌, inl, inr, ◌+◌, ◌*◌, ◌%◌, ◌^◌, ◌<◌, ◌≤◌, ℕ, zero, suc, max, Bool, true, false, cond, List, [], ◌∷◌, ◌++◌, length, take, slice_get, get_or, String, string_bytes, Option, None, Some, IsSome, bit_or, add-one, refl, sym, ap, subst, ◌∙◌, arith}
use Rattle.std.specs.Option.{option_and_then}
use Rattle.std.specs.Int.{bit_at}
use Rattle.std.specs.Str.{bytes_eq}
use Rattle.std.specs.Map.{lookup}
use Rattle.std.proofs.Math.Seq.{take-suc}
use Rattle.std.proofs.lemmas.Bool.{cases_Bool, false≢true}
use Rattle.std.proofs.lemmas.List.{take_all}
use Rattle.std.proofs.lemmas.Slice.Eq.{bytes_eq-Decides}
use Rattle.std.proofs.lemmas.Option.{slice_get_read}
use Rattle.std.proofs.lemmas.Nat.{one_shl}
use Rattle.std.proofs.lemmas.Nat.Bits.{bit_at_or, bit_at-pow_same}
use Rattle.scopes.specs.declared.block.Bound.{Bound}
use Rattle.scopes.specs.declared.marks.Marks.{Marks}
use Rattle.scopes.specs.declared.scope.Scope.{Scope}
use Rattle.scopes.specs.declared.all_scopes.Scopes.{Scopes}
use Rattle.scopes.specs.Block.{bound_value, last_value}
use Rattle.scopes.specs.Maps.{variable_of}
use Rattle.scopes.specs.Moves.{Move, variable, or_else, last_in, first_in, value_at_end}
use Rattle.scopes.specs.Scopes.{scopes_around, IsScopesOf}
use Rattle.scopes.specs.Marks.{key, IsMarked, AreMarked, AreAmong, AreOfScopes}
use Rattle.scopes.proofs.Few.{is_named, passed_over}
use Rattle.scopes.proofs.LastBound.{last_push}

greater_left : (x y : ℕ) → x ≡ 1 → y < 2 → max x y ≡ 1
greater_left x y is low = omega (arith, is, low)

greater_right : (x y : ℕ) → y ≡ 1 → x < 2 → max x y ≡ 1
greater_right x y is low = omega (arith, is, low)

bit_low : (a k : ℕ) → bit_at a k < 2
bit_low a k = omega arith

pub or_left : (a b k : ℕ) → bit_at a k ≡ 1 → bit_at (bit_or a b) k ≡ 1
or_left a b k is = bit_at_or a b k ∙ greater_left (bit_at a k) (bit_at b k) is (bit_low b k)

pub or_right : (a b k : ℕ) → bit_at b k ≡ 1 → bit_at (bit_or a b) k ≡ 1
or_right a b k is = bit_at_or a b k ∙ greater_right (bit_at a k) (bit_at b k) is (bit_low a k)

pub one_bit : (k : ℕ) → k < 64 → bit_at (1 * 2 ^ k % 18446744073709551616) k ≡ 1
one_bit k low = ap (λ (n : ℕ). bit_at n k) (one_shl k 64 low) ∙ bit_at-pow_same k

same_text : (a b : List ℕ) → bytes_eq a b ≡ true → a ≡ b
same_text a b e = (bytes_eq-Decides a b).0 e

-- ---- names of a list

-- a name is marked, or stands for something in what is left
abbrev pub IsMarkedOrLeft : {Y V : Type 0} → Marks → List (String Y × V) → List ℕ → Type 0
IsMarkedOrLeft marks rest name = IsMarked marks name ⊎ IsSome (lookup (is_named name) rest)

pub passed : {Y V : Type 0} (old new : Marks) (entries rest : List (String Y × V)) (k : String Y) (v : V) (name : List ℕ) → entries ≡ (k, v) ∷ rest → IsMarked new (string_bytes k) → AreAmong old new → IsMarkedOrLeft old entries name → IsMarkedOrLeft new rest name
passed old new entries rest k v name first marked among (inl is) = inl (among (key name) is)
passed old new entries rest k v name first marked among (inr some) = elim (cases_Bool (is_named name k)) [
  | inl same ↦ inl (subst (IsMarked new) (sym (same_text name (string_bytes k) same)) marked)
  | inr other ↦ inr (subst IsSome (passed_over (is_named name) entries rest k v first other) some)
]

pub all_passed : {Y V : Type 0} (marks : Marks) (rest : List (String Y × V)) (name : List ℕ) → rest ≡ [] → IsMarkedOrLeft marks rest name → IsMarked marks name
all_passed marks rest name none (inl is) = is
all_passed {Y} {V} marks rest name none (inr some) = absurd (false≢true (subst (λ (l : List (String Y × V)). IsSome (lookup (is_named name) l)) none some))

none_or : {V : Type 0} (found : Option V) → (IsSome found → ⊥) → found ≡ None
none_or None not = refl
none_or (Some value) not = absurd (not refl)

-- a name that is not marked stands for nothing
pub none_marked : {V : Type 0} (names : List ℕ → Option V) (marks : Marks) (name : List ℕ) → AreMarked names marks → (IsMarked marks name → ⊥) → names name ≡ None
none_marked names marks name are not = none_or (names name) (λ some. not (are name some))

-- ---- scopes

some_of : {V : Type 0} (first other : Option V) → IsSome (or_else first other) → IsSome first ⊎ IsSome other
some_of None other some = inr some
some_of (Some value) other some = inl some

got_push : {X : Type 0} (xs : List X) (y : X) (n : ℕ) (x : X) → slice_get (xs ++ y ∷ []) n ≡ Some x → (slice_get xs n ≡ Some x) ⊎ ((n ≡ length xs) × (y ≡ x))
got_push [] y zero x at = inr (refl, let same : y ≡ x = cc in same)
got_push [] y (suc n) x at = absurd (let clash : ◌≡◌ {A = Option _} None (Some x) = at in cc)
got_push (z ∷ xs) y zero x at = inl at
got_push (z ∷ xs) y (suc n) x at = elim (got_push xs y n x at) [
  | inl there ↦ inl there
  | inr last ↦ inr (ap suc last.0, last.1)
]

-- the marks of the scope around, of which there is one where the number is not 0
abbrev pub IsAround : List Marks → ℕ → Marks → Type 0
IsAround all around marks = (n : ℕ) → around ≡ suc n → n < length all → slice_get all n ≡ Some marks

module _ (scopes : Scopes) (past : List Move) (is : IsScopesOf scopes past) (all : List Marks) (x : Scope) (own around marks : Marks)
    (here : slice_get scopes.scopes.items (length all) ≡ Some x) (before : AreOfScopes scopes all) (is_own : AreMarked (variable_of x) own) (is_around : IsAround all x.around around)
    (these : AreAmong around marks) (others : AreAmong own marks) where
  outer : (n : ℕ) (name : List ℕ) → x.around ≡ n → n ≤ length all → IsSome (first_in (variable name) past (scopes_around past n)) → IsMarked around name
  outer zero name e low some = absurd (false≢true some)
  outer (suc n) name e low some = before n around (is_around n e low) past is name some

  pub scope_marked : AreMarked (value_at_end past (length all)) marks
  scope_marked name some =
      let linked = is.linked (length all) x here in
      let said : last_in (variable name) past (length all) ≡ variable_of x name = sym (is.variables (length all) name) ∙ ap (option_and_then (λ (scope : Scope). variable_of scope name)) here in
      let split : value_at_end past (length all) name ≡ or_else (variable_of x name) (first_in (variable name) past (scopes_around past x.around)) =
      ap (first_in (variable name) past) linked.links ∙ ap (λ (o : Option (List ℕ)). or_else o (first_in (variable name) past (scopes_around past x.around))) said in
      elim (some_of (variable_of x name) (first_in (variable name) past (scopes_around past x.around)) (subst IsSome split some)) [
        | inl inner ↦ others (key name) (is_own name inner)
        | inr out ↦ these (key name) (outer x.around name refl linked.lower out)
      ]

-- the marks of one scope more
pub scopes_marked : (scopes : Scopes) (all : List Marks) (x : Scope) (own around marks : Marks) → slice_get scopes.scopes.items (length all) ≡ Some x → AreOfScopes scopes all → AreMarked (variable_of x) own → IsAround all x.around around → AreAmong around marks → AreAmong own marks
    → AreOfScopes scopes (all ++ marks ∷ [])
scopes_marked scopes all x own around marks here before is_own is_around these others scope found at = elim (got_push all marks scope found at) [
  | inl there ↦ before scope found there
  | inr last ↦ λ past is. subst (AreMarked (value_at_end past scope)) last.1 (subst (λ (s : ℕ). AreMarked (value_at_end past s) marks) (sym last.0) (scope_marked scopes past is all x own around marks here before is_own is_around these others))
]

pub none_of_scopes : (scopes : Scopes) (all : List Marks) → all ≡ [] → AreOfScopes scopes all
none_of_scopes scopes [] none scope marks at = absurd (let clash : ◌≡◌ {A = Option Marks} None (Some marks) = at in cc)
none_of_scopes scopes (m ∷ all) none scope marks at = absurd (let clash : m ∷ all ≡ [] = none in cc)

-- an item of a slice of all
pub item_at : (scopes items : List Scope) (n : ℕ) (x : Scope) → n < length items → x ≡ get_or items n x → items ≡ scopes → slice_get scopes n ≡ Some x
item_at scopes items n x within read same = subst (λ (l : List Scope). slice_get l n ≡ Some x) same (slice_get_read items (length items) n x refl within read)

-- ---- blocks

-- where one name of two has a value, it has one by both
pub either_marked : {V : Type 0} (one other : List ℕ → Option V) (mine others all : Marks) → AreMarked one mine → AreMarked other others → AreAmong mine all → AreAmong others all → AreMarked (λ name. or_else (one name) (other name)) all
either_marked one other mine others all are more these those name some = elim (some_of (one name) (other name) some) [
  | inl here ↦ these (key name) (are name here)
  | inr there ↦ those (key name) (more name there)
]

-- what is bound by one binding is its name
pub bound_marked : (bound : Bound) (marks : Marks) → IsMarked marks bound.name → AreMarked (bound_value bound) marks
bound_marked bound marks is name some = by (bytes_eq bound.name name) refl
  where
    by : (same : Bool) → bytes_eq bound.name name ≡ same → IsMarked marks name
    by true same = subst (IsMarked marks) (same_text bound.name name same) is
    by false other = absurd (false≢true (subst (λ (b : Bool). IsSome (cond b (Some bound.value) None)) other some))

-- of bindings one more was looked at
pub few_marked : (few : List Bound) (k : ℕ) (bound : Bound) (old new : Marks) → k < length few → bound ≡ get_or few k bound → AreMarked (last_value (take k few)) old → IsMarked new bound.name → AreAmong old new → AreMarked (last_value (take (k + 1) few)) new
few_marked few k bound old new within is are marked among name some =
    let next : take (k + 1) few ≡ take k few ++ bound ∷ [] = rw (add-one, take-suc few k bound within) (ap (λ (b : Bound). take k few ++ b ∷ []) (sym is)) in
    by (bytes_eq bound.name name) refl (subst IsSome (last_push (take k few) (take (k + 1) few) bound name next) some)
  where
    by : (same : Bool) → bytes_eq bound.name name ≡ same → IsSome (cond (bytes_eq bound.name name) (Some bound.value) (last_value (take k few) name)) → IsMarked new name
    by true same found = subst (IsMarked new) (same_text bound.name name same) marked
    by false other found = among (key name) (are name (subst (λ (b : Bool). IsSome (cond b (Some bound.value) (last_value (take k few) name))) other found))

-- none of them binds a name
pub none_taken : (few : List Bound) (name : List ℕ) → IsSome (last_value (take 0 few) name) → ⊥
none_taken [] name some = false≢true some
none_taken (bound ∷ few) name some = false≢true some

pub all_named : (few : List Bound) (k : ℕ) (marks : Marks) → length few ≤ k → AreMarked (last_value (take k few)) marks → AreMarked (last_value few) marks
all_named few k marks past are = subst (λ (l : List Bound). AreMarked (last_value l) marks) (take_all k few past) are
