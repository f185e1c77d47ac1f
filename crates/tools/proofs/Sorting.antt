-- Texts in the order of their bytes, each once.
use Rattle.std.proofs.Common.{◌≡◌, ◌⊎◌, inl, inr, ℕ, zero, suc, ◌+◌, ◌<◌, ◌≤◌, ◌||◌, Bool, true, false, if◌then◌else◌, List, [], ◌∷◌, ◌++◌, Option, Some, None, length, get_or, map, refl, sym, ap, ◌∙◌, subst, arith, bytes_eq, Ordering, Less, Equal, Greater}
use Rattle.std.specs.Map.Iter.{deref}
use denote.Ref.{Bor}
use Rattle.std.specs.Cmp.Lexicographic.{slice_cmp}
use Rattle.std.specs.List.{Contains}
use Rattle.std.specs.List.Sorted.{IsPermutation}
use Rattle.std.specs.Ordering.{is_lt, nat_cmp, ordering_reverse, ordering_then}
use Rattle.std.proofs.lemmas.Bool.{false≢true, or_cases, or_left, or_right}
use Rattle.std.proofs.lemmas.Cmp.{by_ranked, nat_list_cmp_total, ranked}
use Rattle.std.proofs.lemmas.List.Sorted.{Contains-permutation, IsPermutation-map, IsPermutation-sym}
use Rattle.std.proofs.lemmas.Option.{none-some, same_Some}
use Rattle.std.proofs.lemmas.Slice.Eq.{bytes_eq-Decides}
use Rattle.model.specs.Graph.{has}
use Rattle.tools.specs.Answers.{AreAfter, AreInOrder, PrintsEach, lines}
use Rattle.tools.specs.Showing.{unless_same, unrepeated}
use Rattle.tools.proofs.Adding.{has_either, has_left, has_right}

-- ---- the order of bytes

less_equal : Less ≡ Equal → ⊥
less_equal h = cc

greater_equal : Greater ≡ Equal → ⊥
greater_equal h = cc

same_by_order : (xs ys : List ℕ) → slice_cmp nat_cmp xs ys ≡ Equal → xs ≡ ys
same_by_order [] [] h = refl
same_by_order [] (y ∷ ys) h = absurd (less_equal h)
same_by_order (x ∷ xs) [] h = absurd (greater_equal h)
same_by_order (x ∷ xs) (y ∷ ys) h = first x y xs ys h (same_by_order xs ys)
  where
    first : (x y : ℕ) (xs ys : List ℕ) → ordering_then (nat_cmp x y) (slice_cmp nat_cmp xs ys) ≡ Equal → (slice_cmp nat_cmp xs ys ≡ Equal → xs ≡ ys) → x ∷ xs ≡ y ∷ ys
    first x y xs ys h rest =
        by_ranked (x < y) (x ≡ y) (y < x) (nat_cmp x y) (ranked x y (nat_cmp x y) refl)
        (λ is low. absurd (less_equal (sym (ap (λ (o : Ordering). ordering_then o (slice_cmp nat_cmp xs ys)) is) ∙ h)))
        (λ is same. ap (λ (n : ℕ). n ∷ xs) same ∙ ap (λ (l : List ℕ). y ∷ l) (rest (sym (ap (λ (o : Ordering). ordering_then o (slice_cmp nat_cmp xs ys)) is) ∙ h)))
        (λ is high. absurd (greater_equal (sym (ap (λ (o : Ordering). ordering_then o (slice_cmp nat_cmp xs ys)) is) ∙ h)))

same_text : (a b : List ℕ) → bytes_eq a b ≡ true → a ≡ b
same_text a b h = (bytes_eq-Decides a b).0 h

text_same : (a b : List ℕ) → a ≡ b → bytes_eq a b ≡ true
text_same a b same = (bytes_eq-Decides a b).1 same

-- what does not come before a text, and is another one, comes after it
comes_after : (x y : List ℕ) → is_lt (slice_cmp nat_cmp y x) ≡ false → bytes_eq x y ≡ false → slice_cmp nat_cmp x y ≡ Less
comes_after x y not_before other = by (slice_cmp nat_cmp y x) refl
  where
    by : (o : Ordering) → slice_cmp nat_cmp y x ≡ o → slice_cmp nat_cmp x y ≡ Less
    by Less is = absurd (false≢true (sym not_before ∙ ap is_lt is))
    by Equal is = absurd (false≢true (sym other ∙ text_same x y (sym (same_by_order y x is))))
    by Greater is = nat_list_cmp_total.antisymm x y ∙ ap ordering_reverse is

-- ---- sorted texts

abbrev AreSorted : List (Bor (List ℕ)) → Type 0
AreSorted texts = (k : ℕ) (d : Bor (List ℕ)) → 0 ≤ k → k + 1 < length texts → is_lt (slice_cmp nat_cmp (get_or texts (k + 1) d).now (get_or texts k d).now) ≡ false

abbrev AreNotBefore : List ℕ → List (List ℕ) → Type 0
AreNotBefore last [] = Unit {0}
AreNotBefore last (text ∷ texts) = (is_lt (slice_cmp nat_cmp text last) ≡ false) × AreNotBefore text texts

get_more : (x : Bor (List ℕ)) (xs : List (Bor (List ℕ))) (k : ℕ) (d : Bor (List ℕ)) → get_or (x ∷ xs) (k + 1) d ≡ get_or xs k d
get_more x xs k d = let more : k + 1 ≡ suc k = omega arith in ap (λ (n : ℕ). get_or (x ∷ xs) n d) more

sorted_rest : (x : Bor (List ℕ)) (xs : List (Bor (List ℕ))) → AreSorted (x ∷ xs) → AreSorted xs
sorted_rest x xs sorted k d least low =
    subst (λ (y : Bor (List ℕ)). is_lt (slice_cmp nat_cmp (get_or xs (k + 1) d).now y.now) ≡ false) (get_more x xs k d)
    (subst (λ (y : Bor (List ℕ)). is_lt (slice_cmp nat_cmp y.now (get_or (x ∷ xs) (k + 1) d).now) ≡ false) (get_more x xs (k + 1) d) (sorted (k + 1) d (omega arith) (omega (arith, low))))

sorted_first : (x : Bor (List ℕ)) (xs : List (Bor (List ℕ))) → AreSorted (x ∷ xs) → AreNotBefore x.now (map deref xs)
sorted_first x [] sorted = tt
sorted_first x (y ∷ ys) sorted = (
  subst (λ (z : Bor (List ℕ)). is_lt (slice_cmp nat_cmp z.now x.now) ≡ false) (get_more x (y ∷ ys) 0 x) (sorted 0 x (omega arith) (omega arith)),
  sorted_first y ys (sorted_rest x (y ∷ ys) sorted),
)

-- ---- each once

after_one : (last text : List ℕ) (texts : List (List ℕ)) → is_lt (slice_cmp nat_cmp text last) ≡ false → AreAfter text (unrepeated (Some text) texts) → AreAfter last (unless_same (Some last) text ++ unrepeated (Some text) texts)
after_one last text texts not_before rest = by (bytes_eq last text) refl
  where
    by : (b : Bool) → bytes_eq last text ≡ b → AreAfter last (unless_same (Some last) text ++ unrepeated (Some text) texts)
    by true same =
        subst (λ (b : Bool). AreAfter last ((if b then [] else text ∷ []) ++ unrepeated (Some text) texts)) (sym same)
        (subst (λ (l : List ℕ). AreAfter l (unrepeated (Some text) texts)) (sym (same_text last text same)) rest)
    by false other = subst (λ (b : Bool). AreAfter last ((if b then [] else text ∷ []) ++ unrepeated (Some text) texts)) (sym other) (comes_after last text not_before other, rest)

unrepeated_after : (last : List ℕ) (texts : List (List ℕ)) → AreNotBefore last texts → AreAfter last (unrepeated (Some last) texts)
unrepeated_after last [] above = tt
unrepeated_after last (text ∷ texts) above = after_one last text texts above.0 (unrepeated_after text texts above.1)

in_order : (texts : List (Bor (List ℕ))) → AreSorted texts → AreInOrder (unrepeated None (map deref texts))
in_order [] sorted = tt
in_order (x ∷ xs) sorted = unrepeated_after x.now (map deref xs) (sorted_first x xs sorted)

one_if : (b : Bool) (text t : List ℕ) → has (if b then [] else text ∷ []) t ≡ true → bytes_eq text t ≡ true
one_if true text t h = absurd (false≢true h)
one_if false text t h = elim (or_cases (bytes_eq text t) false h) [
  | inl one ↦ one
  | inr none ↦ absurd (false≢true none)
]

unless_has : (last : Option (List ℕ)) (text t : List ℕ) → has (unless_same last text) t ≡ true → bytes_eq text t ≡ true
unless_has None text t h = one_if false text t h
unless_has (Some last) text t h = one_if (bytes_eq last text) text t h

unrepeated_has : (last : Option (List ℕ)) (texts : List (List ℕ)) (t : List ℕ) → has (unrepeated last texts) t ≡ true → has texts t ≡ true
unrepeated_has last [] t h = h
unrepeated_has last (text ∷ texts) t h = elim (has_either (unless_same last text) (unrepeated (Some text) texts) t h) [
  | inl one ↦ or_left (bytes_eq text t) (has texts t) (unless_has last text t one)
  | inr later ↦ or_right (bytes_eq text t) (has texts t) (unrepeated_has (Some text) texts t later)
]

has_here : (last : Option (List ℕ)) (text t : List ℕ) → bytes_eq text t ≡ true → (last ≡ Some t) ⊎ (has (unless_same last text) t ≡ true)
has_here None text t here = inr (or_left (bytes_eq text t) false here)
has_here (Some last) text t here = by (bytes_eq last text) refl
  where
    by : (b : Bool) → bytes_eq last text ≡ b → (Some last ≡ Some t) ⊎ (has (unless_same (Some last) text) t ≡ true)
    by true same = inl (ap (λ (l : List ℕ). Some l) (same_text last text same ∙ same_text text t here))
    by false other = inr (subst (λ (b : Bool). has (if b then [] else text ∷ []) t ≡ true) (sym other) (or_left (bytes_eq text t) false here))

found_here : (last : Option (List ℕ)) (text : List ℕ) (texts : List (List ℕ)) (t : List ℕ) → bytes_eq text t ≡ true → (last ≡ Some t) ⊎ (has (unrepeated last (text ∷ texts)) t ≡ true)
found_here last text texts t here = elim (has_here last text t here) [
  | inl same ↦ inl same
  | inr one ↦ inr (has_left (unless_same last text) (unrepeated (Some text) texts) t one)
]

has_unrepeated : (last : Option (List ℕ)) (texts : List (List ℕ)) (t : List ℕ) → has texts t ≡ true → (last ≡ Some t) ⊎ (has (unrepeated last texts) t ≡ true)
has_unrepeated last [] t h = absurd (false≢true h)
has_unrepeated last (text ∷ texts) t h = elim (or_cases (bytes_eq text t) (has texts t) h) [
  | inl here ↦ found_here last text texts t here
  | inr later ↦ elim (has_unrepeated (Some text) texts t later) [
    | inl same ↦ found_here last text texts t (text_same text t (same_Some text t same))
    | inr rest ↦ inr (has_right (unless_same last text) (unrepeated (Some text) texts) t rest)
  ]
]

-- ---- the same texts in another order

contains_has : (xs : List (List ℕ)) (t : List ℕ) (k : ℕ) → k < length xs → get_or xs k t ≡ t → has xs t ≡ true
contains_has [] t k low is = absurd (omega (arith, low))
contains_has (x ∷ xs) t zero low is = or_left (bytes_eq x t) (has xs t) (text_same x t is)
contains_has (x ∷ xs) t (suc k) low is = or_right (bytes_eq x t) (has xs t) (contains_has xs t k (omega (arith, low)) is)

has_contains : (xs : List (List ℕ)) (t : List ℕ) → has xs t ≡ true → Contains xs t
has_contains [] t h = absurd (false≢true h)
has_contains (x ∷ xs) t h = elim (or_cases (bytes_eq x t) (has xs t) h) [
  | inl here ↦ (zero, omega arith, same_text x t here)
  | inr later ↦ let rest = has_contains xs t later in (suc rest.0, omega (arith, rest.1), rest.2)
]

moved_has : (old new : List (Bor (List ℕ))) (t : List ℕ) → IsPermutation old new → has (map deref old) t ≡ true → has (map deref new) t ≡ true
moved_has old new t moved h =
    let there = Contains-permutation (map deref old) (map deref new) t (IsPermutation-map deref old new moved) (has_contains (map deref old) t h) in
    contains_has (map deref new) t there.0 there.1 there.2

-- a line for each of sorted texts, but for those that stand behind the same
pub prints_each : (old new slice : List (Bor (List ℕ))) (text : List ℕ) → IsPermutation old new → AreSorted new → slice ≡ new → text ≡ lines (unrepeated None (map deref slice)) → PrintsEach (map deref old) text
prints_each old new slice text moved sorted same is = record {
  each = unrepeated None (map deref new);
  order = in_order new sorted;
  just = λ t. (
    λ h. moved_has new old t (IsPermutation-sym old new moved) (unrepeated_has None (map deref new) t h),
    λ h. elim (has_unrepeated None (map deref new) t (moved_has old new t moved h)) [
      | inl none ↦ absurd (none-some t none)
      | inr there ↦ there
    ],
  );
  is = is ∙ ap (λ (l : List (Bor (List ℕ))). lines (unrepeated None (map deref l))) same;
}
