-- Sets of numbers that grow.
use Rattle.std.proofs.Common.{◌≡◌, ◌⊎◌, inl, inr, ℕ, zero, suc, ◌<◌, ◌==◌, ◌||◌, Bool, true, false, if◌then◌else◌, nat_eq, nat_lt, get_or, is_some, IfSome, List, [], ◌∷◌, ◌++◌, length, slice_get, Option, Some, None, refl, sym, ◌∙◌, ap, subst, append_assoc, arith}
use Rattle.std.specs.Borrow.{Bor}
use Rattle.std.specs.List.{list_any}
use Rattle.std.specs.Option.{option_copied}
use Rattle.std.proofs.lemmas.Bool.{cases_Bool, eqb-true, eq-eqb, ltb-true, or_left, or_right, or_cases, false≢true, true≢false}
use Rattle.std.proofs.lemmas.List.{append-nil}
use Rattle.std.proofs.lemmas.Option.{slice_get-get_or}
use Rattle.indexmap.specs.IndexSet.{insert_key, insert_all}
use Rattle.model.specs.Graph.{has_number}
use Rattle.theory.proofs.Lists.{has_number-left, has_number-cases, has_number-is, has_number-push}
use Rattle.graph.specs.Held.{HasPut, StandOnce}
use Rattle.graph.proofs.Lists.{once_push, apart_of_once}

-- ---- a set of numbers that grows

any_number : (xs : List ℕ) (n : ℕ) → list_any (nat_eq n) xs ≡ true → has_number xs n ≡ true
any_number [] n h = absurd (false≢true h)
any_number (x ∷ xs) n h = elim (or_cases (nat_eq n x) (list_any (nat_eq n) xs) h) [
  | inl here ↦ or_left (x == n) (has_number xs n) (eq-eqb x n (sym (eqb-true n x here)))
  | inr there ↦ or_right (x == n) (has_number xs n) (any_number xs n there)
]

-- the new list is the old one and more, and has just the numbers of both
pub record Gains (old new numbers : List ℕ) : Type 0 where
  pub more : List ℕ
  pub grows : new ≡ old ++ more
  pub has : (n : ℕ) → has_number numbers n ≡ true → has_number new n ≡ true
  pub each : (n : ℕ) → has_number new n ≡ true → (has_number old n ≡ true) ⊎ (has_number numbers n ≡ true)

-- a set into which a number is put keeps its list, or has the number behind
pub put_in : (xs new : List ℕ) (n : ℕ) → new ≡ insert_key nat_eq xs n → HasPut xs n new
put_in xs new n is = record {
  set = is;
  either = elim (cases_Bool (list_any (nat_eq n) xs)) [
    | inl here ↦ inl (any_number xs n here, is ∙ ap (λ (b : Bool). if b then xs else xs ++ n ∷ []) here)
    | inr fresh ↦ inr (is ∙ ap (λ (b : Bool). if b then xs else xs ++ n ∷ []) fresh)
  ];
}

gains_one : (xs : List ℕ) (n : ℕ) → Gains xs (insert_key nat_eq xs n) (n ∷ [])
gains_one xs n = by (list_any (nat_eq n) xs) refl
  where
    is_one : (k : ℕ) → has_number (n ∷ []) k ≡ true → n ≡ k
    is_one k h = has_number-is n k h

    by : (b : Bool) → list_any (nat_eq n) xs ≡ b → Gains xs (if b then xs else xs ++ n ∷ []) (n ∷ [])
    by true here = record {
      more = [];
      grows = sym (append-nil xs);
      has = λ k h. subst (λ (m : ℕ). has_number xs m ≡ true) (is_one k h) (any_number xs n here);
      each = λ k h. inl h;
    }
    by false absent = record {
      more = n ∷ [];
      grows = refl;
      has = λ k h. subst (λ (m : ℕ). has_number (xs ++ n ∷ []) m ≡ true) (is_one k h) (has_number-push xs n);
      each = λ k h. has_number-cases xs (n ∷ []) k h;
    }

pub gains_all : (xs numbers : List ℕ) → Gains xs (insert_all nat_eq xs numbers) numbers
gains_all xs [] = record { more = []; grows = sym (append-nil xs); has = λ n h. absurd (false≢true h); each = λ n h. inl h }
gains_all xs (m ∷ ms) =
    let one = gains_one xs m in
    let rest = gains_all (insert_key nat_eq xs m) ms in
    record {
      more = one.more ++ rest.more;
      grows = rest.grows ∙ (ap (λ (l : List ℕ). l ++ rest.more) one.grows ∙ append_assoc xs one.more rest.more);
      has = λ n h. elim (or_cases (m == n) (has_number ms n) h) [
        | inl here ↦ subst (λ (l : List ℕ). has_number l n ≡ true) (sym rest.grows)
            (has_number-left (insert_key nat_eq xs m) rest.more n (one.has n (or_left (m == n) false here)))
        | inr there ↦ rest.has n there
      ];
      each = λ n h. elim (rest.each n h) [
        | inl before ↦ elim (one.each n before) [
          | inl old ↦ inl old
          | inr new ↦ inr (or_left (m == n) (has_number ms n) (eq-eqb m n (has_number-is m n new)))
        ]
        | inr new ↦ inr (or_right (m == n) (has_number ms n) new)
      ];
    }

pub slice_get_kept : (xs ys : List ℕ) (k : ℕ) → k < length xs → slice_get (xs ++ ys) k ≡ slice_get xs k
slice_get_kept [] ys k lt = absurd (omega arith)
slice_get_kept (x ∷ xs) ys zero lt = refl
slice_get_kept (x ∷ xs) ys (suc k) lt = slice_get_kept xs ys k (omega arith)

pub listed_has : (xs : List ℕ) (k n : ℕ) → slice_get xs k ≡ Some n → has_number xs n ≡ true
listed_has [] k n is = cc
listed_has (x ∷ xs) zero n is = let same : x ≡ n = cc in or_left (x == n) (has_number xs n) (eq-eqb x n same)
listed_has (x ∷ xs) (suc k) n is = or_right (x == n) (has_number xs n) (listed_has xs k n is)

pub same_value : (o : Option ℕ) (p q : ℕ) → o ≡ Some p → o ≡ Some q → p ≡ q
same_value o p q left right = let same : Some p ≡ Some q = sym left ∙ right in cc

-- what a slice gives at a place
pub found_at : (xs : List ℕ) (k : ℕ) (o : Option (Bor ℕ)) (p : ℕ) → is_some o ≡ nat_lt k (length xs) → IfSome o (λ x. x.now ≡ get_or xs k x.now) → Some p ≡ option_copied o → slice_get xs k ≡ Some p
found_at xs k None p within is same = cc
found_at xs k (Some x) p within is same =
    let number : p ≡ x.now = cc in
    let low : k < length xs = ltb-true k (length xs) (sym within) in
    slice_get-get_or xs k x.now low ∙ ap (λ (n : ℕ). Some n) (sym is ∙ sym number)

-- ---- each number once

any_absent : (xs : List ℕ) (n : ℕ) → list_any (nat_eq n) xs ≡ false → has_number xs n ≡ false
any_absent [] n h = refl
any_absent (x ∷ xs) n h = elim (cases_Bool (has_number (x ∷ xs) n)) [
  | inl there ↦ elim (or_cases (x == n) (has_number xs n) there) [
    | inl here ↦ absurd (false≢true (sym h ∙ or_left (nat_eq n x) (list_any (nat_eq n) xs) (eq-eqb n x (sym (eqb-true x n here)))))
    | inr later ↦ absurd (false≢true (sym (any_absent xs n (rest (nat_eq n x) (list_any (nat_eq n) xs) h)) ∙ later))
  ]
  | inr absent ↦ absent
]
  where
    rest : (a b : Bool) → (a || b) ≡ false → b ≡ false
    rest true b h = absurd (true≢false h)
    rest false b h = h

key_once : (xs : List ℕ) (n : ℕ) → StandOnce xs → StandOnce (insert_key nat_eq xs n)
key_once xs n once = by (list_any (nat_eq n) xs) refl
  where
    by : (b : Bool) → list_any (nat_eq n) xs ≡ b → StandOnce (if b then xs else xs ++ n ∷ [])
    by true here = once
    by false absent = once_push xs n once (any_absent xs n absent)

pub all_once : (xs numbers : List ℕ) → StandOnce xs → StandOnce (insert_all nat_eq xs numbers)
all_once xs [] once = once
all_once xs (n ∷ numbers) once = all_once (insert_key nat_eq xs n) numbers (key_once xs n once)

twice_once : (xs : List ℕ) (n : ℕ) (ns : List ℕ) → StandOnce (xs ++ n ∷ ns) → has_number xs n ≡ true → ⊥
twice_once xs n ns once here = false≢true (sym (apart_of_once xs (n ∷ ns) n once here) ∙ or_left (n == n) (has_number ns n) (eq-eqb n n refl))

-- numbers of which none stands twice make a set in their order
pub all_fresh : (xs numbers : List ℕ) → StandOnce (xs ++ numbers) → insert_all nat_eq xs numbers ≡ xs ++ numbers
all_fresh xs [] once = sym (append-nil xs)
all_fresh xs (n ∷ numbers) once = by (list_any (nat_eq n) xs) refl (all_fresh (xs ++ n ∷ []) numbers (subst StandOnce (sym (append_assoc xs (n ∷ []) numbers)) once))
  where
    by : (b : Bool) → list_any (nat_eq n) xs ≡ b → insert_all nat_eq (xs ++ n ∷ []) numbers ≡ (xs ++ n ∷ []) ++ numbers → insert_all nat_eq (if b then xs else xs ++ n ∷ []) numbers ≡ xs ++ n ∷ numbers
    by true here rest = absurd (twice_once xs n numbers once (any_number xs n here))
    by false absent rest = rest ∙ append_assoc xs (n ∷ []) numbers
