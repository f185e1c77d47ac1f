-- Texts and their places in a table.
use Rattle.std.proofs.Common.{◌≡◌, ◌⊎◌, inl, inr, ℕ, zero, suc, ◌+◌, ◌<◌, ◌≤◌, ◌^◌, ◌||◌, cond, Bool, true, false, if◌then◌else◌, List, [], ◌∷◌, ◌++◌, map, length, take, slice_get, nat_lt, Option, Some, None, MatchOption, String, Global, string_bytes, bytes_eq, refl, sym, ◌∙◌, ap, subst, arith, length-append}
use Rattle.std.specs.List.{list_any, position, position_from}
use Rattle.std.specs.String.{string_eq}
use Rattle.std.proofs.lemmas.Bool.{cases_Bool, or_left, or_right, false≢true}
use Rattle.std.proofs.lemmas.Iterator.Adapters.{position_from-zero}
use Rattle.std.proofs.lemmas.List.{map-append}
use Rattle.std.proofs.lemmas.Option.{slice_get_within}
use Rattle.std.proofs.lemmas.Slice.Eq.{bytes_eq-Decides}
use Rattle.model.specs.Graph.{has}
use Rattle.paths.specs.Numbers.{IsAdded, HaveOnePlace, IsSmall}

same_bytes : (p q : List ℕ) → bytes_eq p q ≡ true → p ≡ q
same_bytes p q is = (bytes_eq-Decides p q).0 is

bytes_same : (p : List ℕ) → bytes_eq p p ≡ true
bytes_same p = (bytes_eq-Decides p p).1 refl

turned : (a b : List ℕ) → bytes_eq a b ≡ bytes_eq b a
turned a b = elim (cases_Bool (bytes_eq a b)) [
  | inl same ↦ rw (same_bytes a b same) refl
  | inr other ↦ elim (cases_Bool (bytes_eq b a)) [
    | inl same ↦ rw (same_bytes b a same) refl
    | inr neither ↦ other ∙ sym neither
  ]
]

-- ---- the place of a text

-- where a key with this text stands, where places count from i
abbrev IsFoundIn : List ℕ → ℕ → List (String Global) → Option ℕ → Type 0
IsFoundIn q i keys r = MatchOption r (has (map string_bytes keys) q ≡ false) (λ n. (k : ℕ) × (n ≡ i + k) × (slice_get (map string_bytes keys) k ≡ Some q))

found_later : (q : List ℕ) (x : String Global) (i : ℕ) (keys : List (String Global)) → bytes_eq q (string_bytes x) ≡ false → (r : Option ℕ) → IsFoundIn q (i + 1) keys r → IsFoundIn q i (x ∷ keys) r
found_later q x i keys other None absent = let apart = turned (string_bytes x) q in cc
found_later q x i keys other (Some n) at = (suc at.0, omega (arith, at.1), at.2)

from_found : (q : List ℕ) (i : ℕ) (keys : List (String Global)) → IsFoundIn q i keys (position_from (λ (k : String Global). bytes_eq q (string_bytes k)) i keys)
from_found q i [] = refl
from_found q i (x ∷ keys) = elim (cases_Bool (bytes_eq q (string_bytes x))) [
  | inl here ↦
      subst (λ (b : Bool). IsFoundIn q i (x ∷ keys) (cond b (Some i) (position_from (λ (k : String Global). bytes_eq q (string_bytes k)) (i + 1) keys))) (sym here)
      (0, omega arith, ap (λ (t : List ℕ). Some t) (sym (same_bytes q (string_bytes x) here)))
  | inr other ↦
      subst (λ (b : Bool). IsFoundIn q i (x ∷ keys) (cond b (Some i) (position_from (λ (k : String Global). bytes_eq q (string_bytes k)) (i + 1) keys))) (sym other)
      (found_later q x i keys other (position_from (λ (k : String Global). bytes_eq q (string_bytes k)) (i + 1) keys) (from_found q (i + 1) keys))
]

-- what a search for a text found
abbrev IsFound : List ℕ → List (List ℕ) → Option ℕ → Type 0
IsFound q texts r = MatchOption r (has texts q ≡ false) (λ n. slice_get texts n ≡ Some q)

number_found : (q : List ℕ) (keys : List (String Global)) (r : Option ℕ) → r ≡ position (λ (k : String Global). bytes_eq q (string_bytes k)) keys → IsFound q (map string_bytes keys) r
number_found q keys r is =
    subst (IsFound q (map string_bytes keys)) (sym (is ∙ position_from-zero (λ (k : String Global). bytes_eq q (string_bytes k)) keys))
    (at_zero (position_from (λ (k : String Global). bytes_eq q (string_bytes k)) 0 keys) (from_found q 0 keys))
  where
    at_zero : (o : Option ℕ) → IsFoundIn q 0 keys o → IsFound q (map string_bytes keys) o
    at_zero None absent = absent
    at_zero (Some n) at = let same : at.0 ≡ n = omega (arith, at.1) in subst (λ (k : ℕ). slice_get (map string_bytes keys) k ≡ Some q) same at.2

-- where it was not found
pub found_nowhere : (q sought : List ℕ) (keys : List (String Global)) (texts : List (List ℕ)) (r : Option ℕ) → map string_bytes keys ≡ texts → sought ≡ q → r ≡ position (λ (k : String Global). bytes_eq sought (string_bytes k)) keys → r ≡ None
    → has texts q ≡ false
found_nowhere q sought keys texts r view same is none =
    subst (λ (t : List (List ℕ)). has t q ≡ false) view (subst (λ (s : List ℕ). has (map string_bytes keys) s ≡ false) same
    (subst (IsFound sought (map string_bytes keys)) none (number_found sought keys r is)))

-- where it was, the place is one that a number has
pub found_place : (q sought : List ℕ) (keys : List (String Global)) (texts : List (List ℕ)) (r at : Option ℕ) (n : ℕ) → map string_bytes keys ≡ texts → IsSmall (map string_bytes keys) → sought ≡ q
    → r ≡ position (λ (k : String Global). bytes_eq sought (string_bytes k)) keys → r ≡ Some n
    → at ≡ (if nat_lt n (2 ^ 32) then Some n else None) → IsFound q texts at
found_place q sought keys texts r at n view small same is some placed =
    let found : slice_get (map string_bytes keys) n ≡ Some sought = subst (IsFound sought (map string_bytes keys)) some (number_found sought keys r is) in
    let within : n < length (map string_bytes keys) = slice_get_within (map string_bytes keys) n sought found in
    let fits : nat_lt n (2 ^ 32) ≡ true = grind (arith, within, small) in
    let at_is : at ≡ Some n = placed ∙ ap (λ (b : Bool). if b then Some n else None) fits in
    subst (IsFound q texts) (sym at_is) (subst (λ (t : List (List ℕ)). slice_get t n ≡ Some q) view (found ∙ ap (λ (t : List ℕ). Some t) same))

-- ---- one more text

pub in_has : (paths : List (List ℕ)) (k : ℕ) (p : List ℕ) → slice_get paths k ≡ Some p → has paths p ≡ true
in_has [] k p is = cc
in_has (x ∷ xs) zero p is = let same : x ≡ p = cc in or_left (bytes_eq x p) (has xs p) (subst (λ (q : List ℕ). bytes_eq q p ≡ true) (sym same) (bytes_same p))
in_has (x ∷ xs) (suc k) p is = or_right (bytes_eq x p) (has xs p) (in_has xs k p is)

pub added_known : (paths : List (List ℕ)) (p : List ℕ) (k : ℕ) → slice_get paths k ≡ Some p → IsAdded paths paths p k
added_known paths p k is = record { grows = sym (ap (λ (b : Bool). if b then paths else paths ++ p ∷ []) (in_has paths k p is)); at = is }

pub last_at : (xs : List (List ℕ)) (y : List ℕ) → slice_get (xs ++ y ∷ []) (length xs) ≡ Some y
last_at [] y = refl
last_at (x ∷ xs) y = last_at xs y

pub added_new : (paths new : List (List ℕ)) (p : List ℕ) (k : ℕ) → has paths p ≡ false → new ≡ paths ++ p ∷ [] → k ≡ length paths → IsAdded paths new p k
added_new paths new p k absent grown is = record {
  grows = grown ∙ sym (ap (λ (b : Bool). if b then paths else paths ++ p ∷ []) absent);
  at = subst (λ (i : ℕ). slice_get new i ≡ Some p) (sym is) (subst (λ (l : List (List ℕ)). slice_get l (length paths) ≡ Some p) (sym grown) (last_at paths p));
}

push_cases : (xs : List (List ℕ)) (y p : List ℕ) (i : ℕ) → slice_get (xs ++ y ∷ []) i ≡ Some p → (slice_get xs i ≡ Some p) ⊎ ((i ≡ length xs) × (p ≡ y))
push_cases [] y p zero is = inr (refl, cc)
push_cases [] y p (suc i) is = cc
push_cases (x ∷ xs) y p zero is = inl is
push_cases (x ∷ xs) y p (suc i) is = elim (push_cases xs y p i is) [
  | inl before ↦ inl before
  | inr last ↦ inr (ap suc last.0, last.1)
]

place_push : (xs : List (List ℕ)) (y : List ℕ) → HaveOnePlace xs → has xs y ≡ false → HaveOnePlace (xs ++ y ∷ [])
place_push xs y once absent i j p at_i at_j = elim (push_cases xs y p i at_i) [
  | inl i_before ↦ elim (push_cases xs y p j at_j) [
    | inl j_before ↦ once i j p i_before j_before
    | inr j_last ↦ absurd (false≢true (sym absent ∙ (sym (ap (has xs) j_last.1) ∙ in_has xs i p i_before)))
  ]
  | inr i_last ↦ elim (push_cases xs y p j at_j) [
    | inl j_before ↦ absurd (false≢true (sym absent ∙ (sym (ap (has xs) i_last.1) ∙ in_has xs j p j_before)))
    | inr j_last ↦ i_last.0 ∙ sym j_last.0
  ]
]

listed : (text : List ℕ) (keys : List (String Global)) → list_any (λ (key : String Global). bytes_eq text (string_bytes key)) keys ≡ has (map string_bytes keys) text
listed text [] = refl
listed text (key ∷ keys) = ap (λ (b : Bool). bytes_eq text (string_bytes key) || b) (listed text keys) ∙ ap (λ (b : Bool). b || has (map string_bytes keys) text) (turned text (string_bytes key))

-- what an insertion of a new text leaves
pub inserted : (keys new : List (String Global)) (key : String Global) (paths : List (List ℕ)) (text path : List ℕ) → map string_bytes keys ≡ paths → text ≡ path → has paths path ≡ false → string_bytes key ≡ text
    → new ≡ (if list_any (string_eq key) keys then keys else keys ++ key ∷ []) → map string_bytes new ≡ paths ++ path ∷ []
inserted keys new key paths text path view same absent named grown =
    let there : has (map string_bytes keys) (string_bytes key) ≡ false = ap (has (map string_bytes keys)) (named ∙ same) ∙ (ap (λ (l : List (List ℕ)). has l path) view ∙ absent) in
    let alike : list_any (string_eq key) keys ≡ false = listed (string_bytes key) keys ∙ there in
    let items : new ≡ keys ++ key ∷ [] = grown ∙ ap (λ (b : Bool). if b then keys else keys ++ key ∷ []) alike in
    ap (map string_bytes) items ∙ (map-append string_bytes keys (key ∷ []) ∙ (ap (λ (t : List ℕ). map string_bytes keys ++ t ∷ []) (named ∙ same) ∙ ap (λ (l : List (List ℕ)). l ++ path ∷ []) view))

pub kept_once : (paths new : List (List ℕ)) (path : List ℕ) (place : ℕ) → HaveOnePlace paths → has paths path ≡ false → new ≡ paths ++ path ∷ [] → place ≡ length paths → place < 2 ^ 32
    → HaveOnePlace new × IsSmall new
kept_once paths new path place once absent grown is small =
    let count : length (paths ++ path ∷ []) ≡ length paths + 1 = length-append paths (path ∷ []) in
    let few : IsSmall (paths ++ path ∷ []) = omega (arith, count, is, small) in
    subst (λ (l : List (List ℕ)). HaveOnePlace l × IsSmall l) (sym grown) (place_push paths path once absent, few)

-- the place that was given a number
pub numbered : (n number : ℕ) (at : Option ℕ) → at ≡ (if nat_lt n (2 ^ 32) then Some n else None) → at ≡ Some number → (number ≡ n) × (n < 2 ^ 32)
numbered n number at is some = elim (cases_Bool (nat_lt n (2 ^ 32))) [
  | inl less ↦
      let same : Some number ≡ Some n = sym some ∙ (is ∙ ap (λ (b : Bool). if b then Some n else None) less) in
      (cc, grind (arith, less))
  | inr more ↦
      let none : Some number ≡ None = sym some ∙ (is ∙ ap (λ (b : Bool). if b then Some n else None) more) in
      cc
]

-- ---- fewer texts

taken_at : (count : ℕ) (paths : List (List ℕ)) (i : ℕ) (path : List ℕ) → slice_get (take count paths) i ≡ Some path → slice_get paths i ≡ Some path
taken_at zero paths i path is = absurd (nothing i is)
  where
    none : List (List ℕ)
    none = []

    nothing : (i : ℕ) → slice_get none i ≡ Some path → ⊥
    nothing zero is = cc
    nothing (suc i) is = cc
taken_at (suc count) [] i path is = is
taken_at (suc count) (p ∷ paths) zero path is = is
taken_at (suc count) (p ∷ paths) (suc i) path is = taken_at count paths i path is

pub fewer_once : (count : ℕ) (paths : List (List ℕ)) → HaveOnePlace paths → HaveOnePlace (take count paths)
fewer_once count paths once i j path at other = once i j path (taken_at count paths i path at) (taken_at count paths j path other)

shorter : (count : ℕ) (paths : List (List ℕ)) → length (take count paths) ≤ length paths
shorter zero paths = omega arith
shorter (suc count) [] = omega arith
shorter (suc count) (p ∷ paths) = let rest = shorter count paths in omega (arith, rest)

pub fewer_small : (count : ℕ) (paths : List (List ℕ)) → IsSmall paths → IsSmall (take count paths)
fewer_small count paths small = let fewer = shorter count paths in omega (arith, fewer, small)
