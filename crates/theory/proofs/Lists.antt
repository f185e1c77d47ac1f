-- Lists of numbers and of paths.
use Rattle.std.proofs.Common.{◌≡◌, ◌⊎◌, inl, inr, ℕ, zero, suc, ◌+◌, ◌<◌, ◌≤◌, ◌==◌, ◌||◌, ◌&&◌, cond, filter, Bool, true, false, List, [], ◌∷◌, ◌++◌, refl, sym, ◌∙◌, ap, subst, bytes_eq, arith, Some, None, map}
use Rattle.std.specs.List.{AllByRecursion}
use Rattle.std.proofs.lemmas.Bool.{eqb-true, eq-eqb, or_cases, or_left, or_right, and_right, false≢true, cases_Bool, cases_eq, false_from_ne_true}
use Rattle.std.proofs.lemmas.Slice.Eq.{bytes_eq-Decides}
use Rattle.model.specs.Graph.{has, has_number}

pub same_bytes : (p q : List ℕ) → bytes_eq p q ≡ true → p ≡ q
same_bytes p q is = (bytes_eq-Decides p q).0 is

pub bytes_same : (p : List ℕ) → bytes_eq p p ≡ true
bytes_same p = (bytes_eq-Decides p p).1 refl

-- ---- all of a list

pub all_append : {X : Type 0} (P : X → Type 0) (xs ys : List X) → AllByRecursion P xs → AllByRecursion P ys → AllByRecursion P (xs ++ ys)
all_append P [] ys a b = b
all_append P (x ∷ xs) ys a b = (a.0, all_append P xs ys a.1 b)

pub all_parts : {X : Type 0} (P : X → Type 0) (xs ys : List X) → AllByRecursion P (xs ++ ys) → AllByRecursion P xs × AllByRecursion P ys
all_parts P [] ys a = (tt, a)
all_parts P (x ∷ xs) ys a = let rest = all_parts P xs ys a.1 in ((a.0, rest.0), rest.1)

pub all_weaker : {X : Type 0} (P Q : X → Type 0) → ((x : X) → P x → Q x) → (xs : List X) → AllByRecursion P xs → AllByRecursion Q xs
all_weaker P Q f [] a = tt
all_weaker P Q f (x ∷ xs) a = (f x a.0, all_weaker P Q f xs a.1)

pub all_joined : {X : Type 0} (P Q R : X → Type 0) → ((x : X) → P x → Q x → R x) → (xs : List X) → AllByRecursion P xs → AllByRecursion Q xs → AllByRecursion R xs
all_joined P Q R f [] a b = tt
all_joined P Q R f (x ∷ xs) a b = (f x a.0 b.0, all_joined P Q R f xs a.1 b.1)

abbrev rest_of : {X : Type 0} → List X → List X
rest_of [] = []
rest_of (x ∷ xs) = xs

-- the same list stands before both
pub same_rest : {X : Type 0} (xs ys zs : List X) → xs ++ ys ≡ xs ++ zs → ys ≡ zs
same_rest [] ys zs is = is
same_rest (x ∷ xs) ys zs is = same_rest xs ys zs (ap rest_of is)

-- of a list of paths
pub all_has : (P : List ℕ → Type 0) (ps : List (List ℕ)) (p : List ℕ) → AllByRecursion P ps → has ps p ≡ true → P p
all_has P [] p all h = absurd (false≢true h)
all_has P (q ∷ ps) p all h = elim (or_cases (bytes_eq q p) (has ps p) h) [
  | inl here ↦ subst (λ (x : List ℕ). P x) (same_bytes q p here) all.0
  | inr there ↦ all_has P ps p all.1 there
]

pub all_from_has : (P : List ℕ → Type 0) (ps : List (List ℕ)) → ((p : List ℕ) → has ps p ≡ true → P p) → AllByRecursion P ps
all_from_has P [] each = tt
all_from_has P (q ∷ ps) each = (each q (or_left (bytes_eq q q) (has ps q) (bytes_same q)), all_from_has P ps (λ p h. each p (or_right (bytes_eq q p) (has ps p) h)))

-- ---- a list of paths

pub has-left : (ps qs : List (List ℕ)) (p : List ℕ) → has ps p ≡ true → has (ps ++ qs) p ≡ true
has-left [] qs p h = absurd (false≢true h)
has-left (x ∷ ps) qs p h = elim (or_cases (bytes_eq x p) (has ps p) h) [
  | inl here ↦ or_left (bytes_eq x p) (has (ps ++ qs) p) here
  | inr there ↦ or_right (bytes_eq x p) (has (ps ++ qs) p) (has-left ps qs p there)
]

pub has-right : (ps qs : List (List ℕ)) (p : List ℕ) → has qs p ≡ true → has (ps ++ qs) p ≡ true
has-right [] qs p h = h
has-right (x ∷ ps) qs p h = or_right (bytes_eq x p) (has (ps ++ qs) p) (has-right ps qs p h)

pub has-cases : (ps qs : List (List ℕ)) (p : List ℕ) → has (ps ++ qs) p ≡ true → (has ps p ≡ true) ⊎ (has qs p ≡ true)
has-cases [] qs p h = inr h
has-cases (x ∷ ps) qs p h = elim (or_cases (bytes_eq x p) (has (ps ++ qs) p) h) [
  | inl here ↦ inl (or_left (bytes_eq x p) (has ps p) here)
  | inr there ↦ elim (has-cases ps qs p there) [
    | inl left ↦ inl (or_right (bytes_eq x p) (has ps p) left)
    | inr right ↦ inr right
  ]
]

-- ---- a list of numbers

pub has_number-left : (xs ys : List ℕ) (i : ℕ) → has_number xs i ≡ true → has_number (xs ++ ys) i ≡ true
has_number-left [] ys i h = absurd (false≢true h)
has_number-left (x ∷ xs) ys i h = elim (or_cases (x == i) (has_number xs i) h) [
  | inl here ↦ or_left (x == i) (has_number (xs ++ ys) i) here
  | inr there ↦ or_right (x == i) (has_number (xs ++ ys) i) (has_number-left xs ys i there)
]

pub has_number-right : (xs ys : List ℕ) (i : ℕ) → has_number ys i ≡ true → has_number (xs ++ ys) i ≡ true
has_number-right [] ys i h = h
has_number-right (x ∷ xs) ys i h = or_right (x == i) (has_number (xs ++ ys) i) (has_number-right xs ys i h)

pub has_number-append : (xs ys : List ℕ) (i : ℕ) → has_number (xs ++ ys) i ≡ (has_number xs i || has_number ys i)
has_number-append [] ys i = refl
has_number-append (x ∷ xs) ys i = ap (λ (b : Bool). (x == i) || b) (has_number-append xs ys i) ∙ shift (x == i) (has_number xs i) (has_number ys i)
  where
    shift : (a b c : Bool) → (a || (b || c)) ≡ ((a || b) || c)
    shift true b c = refl
    shift false b c = refl

pub has_number-cases : (xs ys : List ℕ) (i : ℕ) → has_number (xs ++ ys) i ≡ true → (has_number xs i ≡ true) ⊎ (has_number ys i ≡ true)
has_number-cases xs ys i h = or_cases (has_number xs i) (has_number ys i) (sym (has_number-append xs ys i) ∙ h)

pub has_number-one : (i : ℕ) → has_number (i ∷ []) i ≡ true
has_number-one i = or_left (i == i) false (eq-eqb i i refl)

pub has_number-is : (i j : ℕ) → has_number (i ∷ []) j ≡ true → i ≡ j
has_number-is i j h = elim (or_cases (i == j) false h) [
  | inl here ↦ eqb-true i j here
  | inr none ↦ absurd (false≢true none)
]

pub has_number-push : (xs : List ℕ) (i : ℕ) → has_number (xs ++ i ∷ []) i ≡ true
has_number-push xs i = has_number-right xs (i ∷ []) i (has_number-one i)

pub has_number-push_cases : (xs : List ℕ) (i j : ℕ) → has_number (xs ++ i ∷ []) j ≡ true → (has_number xs j ≡ true) ⊎ (i ≡ j)
has_number-push_cases xs i j h = elim (has_number-cases xs (i ∷ []) j h) [
  | inl old ↦ inl old
  | inr new ↦ inr (has_number-is i j new)
]

pub has_number-push_other : (xs : List ℕ) (i j : ℕ) → (i ≡ j → ⊥) → has_number (xs ++ i ∷ []) j ≡ has_number xs j
has_number-push_other xs i j other = elim (cases_Bool (has_number xs j)) [
  | inl old ↦ has_number-left xs (i ∷ []) j old ∙ sym old
  | inr absent ↦ false_from_ne_true (has_number (xs ++ i ∷ []) j) (λ h. elim (has_number-push_cases xs i j h) [
    | inl old ↦ absurd (false≢true (sym absent ∙ old))
    | inr same ↦ absurd (other same)
  ]) ∙ sym absent
]

-- where a number stands in a list for the first time
pub record IsPlace (xs : List ℕ) (i : ℕ) : Type 0 where
  pub before : List ℕ
  pub after : List ℕ
  pub splits : xs ≡ before ++ i ∷ after
  pub first : has_number before i ≡ false

pub place_of : (xs : List ℕ) (i : ℕ) → has_number xs i ≡ true → IsPlace xs i
place_of [] i h = absurd (false≢true h)
place_of (x ∷ xs) i h = elim (cases_Bool (x == i)) [
  | inl same ↦ record { before = []; after = xs; splits = ap (λ (n : ℕ). n ∷ xs) (eqb-true x i same); first = refl }
  | inr other ↦
      let rest = place_of xs i (sym (ap (λ (b : Bool). b || has_number xs i) other) ∙ h) in
      record {
        before = x ∷ rest.before;
        after = rest.after;
        splits = ap (λ (l : List ℕ). x ∷ l) rest.splits;
        first = ap (λ (b : Bool). b || has_number rest.before i) other ∙ rest.first;
      }
]

-- ---- how many

abbrev pub one_if : Bool → ℕ
one_if true = 1
one_if false = 0

-- how many of the numbers from 1 to n are done
abbrev pub count_done : ℕ → List ℕ → ℕ
count_done zero done = 0
count_done (suc n) done = one_if (has_number done (suc n)) + count_done n done

pub count_few : (n : ℕ) (done : List ℕ) → count_done n done ≤ n
count_few zero done = omega arith
count_few (suc n) done = elim (cases_Bool (has_number done (suc n))) [
  | inl h ↦ let e : one_if (has_number done (suc n)) ≡ 1 = ap one_if h in let few = count_few n done in omega arith
  | inr h ↦ let e : one_if (has_number done (suc n)) ≡ 0 = ap one_if h in let few = count_few n done in omega arith
]

count_past : (n i : ℕ) (done : List ℕ) → n < i → count_done n (done ++ i ∷ []) ≡ count_done n done
count_past zero i done le = refl
count_past (suc n) i done le =
    let same = has_number-push_other done i (suc n) (λ e. omega arith) in
    let rest = count_past n i done (omega arith) in
    rw (same, rest) refl

-- one more of them
pub count_more : (n i : ℕ) (done : List ℕ) → has_number done i ≡ false → 0 < i → i ≤ n → count_done n (done ++ i ∷ []) ≡ suc (count_done n done)
count_more zero i done absent some le = absurd (omega arith)
count_more (suc n) i done absent some le = elim (cases_eq (suc n) i) [
  | inl same ↦
      let at_end : has_number (done ++ i ∷ []) (suc n) ≡ true = subst (λ (k : ℕ). has_number (done ++ i ∷ []) k ≡ true) (sym same) (has_number-push done i) in
      let before : has_number done (suc n) ≡ false = subst (λ (k : ℕ). has_number done k ≡ false) (sym same) absent in
      let a : one_if (has_number (done ++ i ∷ []) (suc n)) ≡ 1 = ap one_if at_end in
      let b : one_if (has_number done (suc n)) ≡ 0 = ap one_if before in
      let rest = count_past n i done (omega arith) in
      omega arith
  | inr other ↦
      let same = has_number-push_other done i (suc n) (λ e. other (sym e)) in
      let rest = count_more n i done absent some (omega arith) in
      let a : one_if (has_number (done ++ i ∷ []) (suc n)) ≡ one_if (has_number done (suc n)) = ap one_if same in
      omega arith
]

-- ---- a filtered list

pub has_number-filter : (test : ℕ → Bool) (xs : List ℕ) (i : ℕ) → has_number (filter test xs) i ≡ (has_number xs i && test i)
has_number-filter test [] i = refl
has_number-filter test (x ∷ xs) i = by_test (has_number-filter test xs i) (test x) (x == i) refl refl
  where
    by_test : has_number (filter test xs) i ≡ (has_number xs i && test i) → (t e : Bool) → test x ≡ t → (x == i) ≡ e → has_number (cond (test x) (x ∷ filter test xs) (filter test xs)) i ≡ (((x == i) || has_number xs i) && test i)
    by_test rest true true is same =
        ap (λ (b : Bool). has_number (cond b (x ∷ filter test xs) (filter test xs)) i) is
        ∙ (ap (λ (b : Bool). b || has_number (filter test xs) i) same
        ∙ (sym (subst (λ (n : ℕ). test n ≡ true) (eqb-true x i same) is)
        ∙ ap (λ (b : Bool). (b || has_number xs i) && test i) (sym same)))
    by_test rest true false is other =
        ap (λ (b : Bool). has_number (cond b (x ∷ filter test xs) (filter test xs)) i) is
        ∙ (ap (λ (b : Bool). b || has_number (filter test xs) i) other
        ∙ (rest ∙ ap (λ (b : Bool). (b || has_number xs i) && test i) (sym other)))
    by_test rest false true is same =
        ap (λ (b : Bool). has_number (cond b (x ∷ filter test xs) (filter test xs)) i) is
        ∙ (rest ∙ (and_right (has_number xs i) (test i) (subst (λ (n : ℕ). test n ≡ false) (eqb-true x i same) is)
        ∙ sym (and_right ((x == i) || has_number xs i) (test i) (subst (λ (n : ℕ). test n ≡ false) (eqb-true x i same) is))))
    by_test rest false false is other =
        ap (λ (b : Bool). has_number (cond b (x ∷ filter test xs) (filter test xs)) i) is
        ∙ (rest ∙ ap (λ (b : Bool). (b || has_number xs i) && test i) (sym other))

-- ---- one item of two lists

-- an item of two lists is in the first, or in the second
pub place_in : {X : Type 0} (xs ys before after : List X) (z : X) → xs ++ ys ≡ before ++ z ∷ after
    → ((rest : List X) × (xs ≡ before ++ z ∷ rest)) ⊎ ((rest : List X) × (before ≡ xs ++ rest) × (ys ≡ rest ++ z ∷ after))
place_in [] ys before after z is = inr (before, refl, is)
place_in {X} (x ∷ xs) ys [] after z is =
    let head : x ≡ z = cc in
    inl (xs, ap (λ (y : X). y ∷ xs) head)
place_in {X} (x ∷ xs) ys (b ∷ before) after z is =
    let head : x ≡ b = cc in
    let tail : xs ++ ys ≡ before ++ z ∷ after = cc in
    elim (place_in xs ys before after z tail) [
      | inl (rest, first) ↦ inl (rest, ap (λ (y : X). y ∷ xs) head ∙ ap (λ (l : List X). b ∷ l) first)
      | inr (rest, first, second) ↦ inr (rest, ap (λ (l : List X). b ∷ l) first ∙ ap (λ (y : X). y ∷ (xs ++ rest)) (sym head), second)
    ]

-- ---- options, and lists that are mapped

pub same_some : {X : Type 0} (x y : X) → Some x ≡ Some y → x ≡ y
same_some x y is = cc

pub some_none : {X : Type 0} (x : X) → Some x ≡ None → ⊥
some_none x is = cc

pub map_same : {Y : Type 0} (f g : List ℕ → Y) (ps : List (List ℕ)) → ((p : List ℕ) → has ps p ≡ true → f p ≡ g p) → map f ps ≡ map g ps
map_same f g [] same = refl
map_same {Y} f g (p ∷ ps) same =
    ap (λ (y : Y). y ∷ map f ps) (same p (or_left (bytes_eq p p) (has ps p) (bytes_same p)))
    ∙ ap (λ (ys : List Y). g p ∷ ys) (map_same f g ps (λ q h. same q (or_right (bytes_eq p q) (has ps q) h)))
