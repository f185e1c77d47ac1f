-- Lists, numbers and tests.
use Rattle.std.proofs.Common.{◌≡◌, ◌⊎◌, inl, inr, ℕ, zero, suc, ◌<◌, ◌==◌, ◌&&◌, ◌||◌, not, Bool, true, false, List, [], ◌∷◌, ◌++◌, Option, Some, None, refl, sym, ◌∙◌, ap, subst, bytes_eq, append_assoc, arith}
use Rattle.std.specs.List.{AllByRecursion}
use Rattle.std.proofs.lemmas.Bool.{or_cases, or_left, or_right, and_parts, false≢true, cases_lt, eqb-true, eq-eqb, not-true}
use Rattle.std.proofs.lemmas.List.{append-nil}
use Rattle.std.proofs.lemmas.Slice.Eq.{bytes_eq-Decides}
use Rattle.model.specs.Graph.{has, has_number, StandsTwice}

pub none_some : {A : Type 0} (x : A) → None ≡ Some x → ⊥
none_some x e = cc

pub some_none : {A : Type 0} (x : A) → Some x ≡ None → ⊥
some_none x e = cc

pub some_same : {A : Type 0} (x y : A) → Some x ≡ Some y → x ≡ y
some_same x y e = cc

-- ---- paths

pub same_bytes : (p q : List ℕ) → bytes_eq p q ≡ true → p ≡ q
same_bytes p q is = (bytes_eq-Decides p q).0 is

pub bytes_same : (p : List ℕ) → bytes_eq p p ≡ true
bytes_same p = (bytes_eq-Decides p p).1 refl

-- what holds of each of these paths holds of one of them
pub all_has : (P : List ℕ → Type 0) (ps : List (List ℕ)) (p : List ℕ) → AllByRecursion P ps → has ps p ≡ true → P p
all_has P [] p all h = absurd (false≢true h)
all_has P (q ∷ ps) p all h = elim (or_cases (bytes_eq q p) (has ps p) h) [
  | inl here ↦ subst P (same_bytes q p here) all.0
  | inr there ↦ all_has P ps p all.1 there
]

pub all_from_has : (P : List ℕ → Type 0) (ps : List (List ℕ)) → ((p : List ℕ) → has ps p ≡ true → P p) → AllByRecursion P ps
all_from_has P [] each = tt
all_from_has P (q ∷ ps) each = (each q (or_left (bytes_eq q q) (has ps q) (bytes_same q)), all_from_has P ps (λ p h. each p (or_right (bytes_eq q p) (has ps p) h)))

pub has-left : (ps qs : List (List ℕ)) (p : List ℕ) → has ps p ≡ true → has (ps ++ qs) p ≡ true
has-left [] qs p h = absurd (false≢true h)
has-left (x ∷ ps) qs p h = elim (or_cases (bytes_eq x p) (has ps p) h) [
  | inl here ↦ or_left (bytes_eq x p) (has (ps ++ qs) p) here
  | inr there ↦ or_right (bytes_eq x p) (has (ps ++ qs) p) (has-left ps qs p there)
]

pub has-right : (ps qs : List (List ℕ)) (p : List ℕ) → has qs p ≡ true → has (ps ++ qs) p ≡ true
has-right [] qs p h = h
has-right (x ∷ ps) qs p h = or_right (bytes_eq x p) (has (ps ++ qs) p) (has-right ps qs p h)

pub has-cases : (ps qs : List (List ℕ)) (p : List ℕ) → has (ps ++ qs) p ≡ true → (has ps p ≡ true) ⊎ (has qs p ≡ true)
has-cases [] qs p h = inr h
has-cases (x ∷ ps) qs p h = elim (or_cases (bytes_eq x p) (has (ps ++ qs) p) h) [
  | inl here ↦ inl (or_left (bytes_eq x p) (has ps p) here)
  | inr there ↦ elim (has-cases ps qs p there) [
    | inl left ↦ inl (or_right (bytes_eq x p) (has ps p) left)
    | inr right ↦ inr right
  ]
]

pub has_middle : (before after : List (List ℕ)) (p : List ℕ) → has (before ++ p ∷ after) p ≡ true
has_middle [] after p = or_left (bytes_eq p p) (has after p) (bytes_same p)
has_middle (x ∷ before) after p = or_right (bytes_eq x p) (has (before ++ p ∷ after) p) (has_middle before after p)

-- no path stands twice
abbrev pub distinct : List (List ℕ) → Bool
distinct [] = true
distinct (p ∷ ps) = not (has ps p) && distinct ps

none_twice : (before after : List (List ℕ)) (p : List ℕ) → distinct (before ++ p ∷ after) ≡ true → has before p ≡ true → ⊥
none_twice [] after p all h = false≢true h
none_twice (x ∷ before) after p all h =
    let both = and_parts (not (has (before ++ p ∷ after) x)) (distinct (before ++ p ∷ after)) all in
    elim (or_cases (bytes_eq x p) (has before p) h) [
      | inl here ↦
          let none = not-true (has (before ++ p ∷ after) x) both.0 in
          false≢true (sym none ∙ subst (λ (q : List ℕ). has (before ++ p ∷ after) q ≡ true) (sym (same_bytes x p here)) (has_middle before after p))
      | inr there ↦ none_twice before after p both.1 there
    ]

pub stands_once : (ps : List (List ℕ)) (p : List ℕ) → distinct ps ≡ true → StandsTwice ps p → ⊥
stands_once ps p all twice = none_twice twice.before twice.after p (subst (λ (l : List (List ℕ)). distinct l ≡ true) twice.splits all) twice.earlier

-- ---- a test of each in a list, and of one

abbrev pub every : {A : Type 0} → (A → Bool) → List A → Bool
every f [] = true
every f (x ∷ xs) = f x && every f xs

abbrev pub some_of : {A : Type 0} → (A → Bool) → List A → Bool
some_of f [] = false
some_of f (x ∷ xs) = f x || some_of f xs

pub every_number : (f : ℕ → Bool) (ns : List ℕ) (i : ℕ) → every f ns ≡ true → has_number ns i ≡ true → f i ≡ true
every_number f [] i all h = absurd (false≢true h)
every_number f (n ∷ ns) i all h =
    let both = and_parts (f n) (every f ns) all in
    elim (or_cases (n == i) (has_number ns i) h) [
      | inl here ↦ subst (λ (k : ℕ). f k ≡ true) (eqb-true n i here) both.0
      | inr there ↦ every_number f ns i both.1 there
    ]

pub every_path : (f : List ℕ → Bool) (ps : List (List ℕ)) (p : List ℕ) → every f ps ≡ true → has ps p ≡ true → f p ≡ true
every_path f [] p all h = absurd (false≢true h)
every_path f (q ∷ ps) p all h =
    let both = and_parts (f q) (every f ps) all in
    elim (or_cases (bytes_eq q p) (has ps p) h) [
      | inl here ↦ subst (λ (r : List ℕ). f r ≡ true) (same_bytes q p here) both.0
      | inr there ↦ every_path f ps p both.1 there
    ]

pub every_from_has : (f : List ℕ → Bool) (ps : List (List ℕ)) → ((p : List ℕ) → has ps p ≡ true → f p ≡ true) → every f ps ≡ true
every_from_has f [] each = refl
every_from_has f (q ∷ ps) each =
    both (f q) (every f ps) (each q (or_left (bytes_eq q q) (has ps q) (bytes_same q))) (every_from_has f ps (λ p h. each p (or_right (bytes_eq q p) (has ps p) h)))
  where
    both : (x y : Bool) → x ≡ true → y ≡ true → (x && y) ≡ true
    both true y first second = second
    both false y first second = first

-- one of the paths passes the test
pub record Passes (f : List ℕ → Bool) (ps : List (List ℕ)) : Type 0 where
  pub path : List ℕ
  pub here : has ps path ≡ true
  pub passes : f path ≡ true

pub some_path : (f : List ℕ → Bool) (ps : List (List ℕ)) → some_of f ps ≡ true → Passes f ps
some_path f [] h = absurd (false≢true h)
some_path f (q ∷ ps) h = elim (or_cases (f q) (some_of f ps) h) [
  | inl here ↦ record { path = q; here = or_left (bytes_eq q q) (has ps q) (bytes_same q); passes = here }
  | inr there ↦
      let rest = some_path f ps there in
      record { path = rest.path; here = or_right (bytes_eq q rest.path) (has ps rest.path) rest.here; passes = rest.passes }
]

pub record PassesNumber (f : ℕ → Bool) (ns : List ℕ) : Type 0 where
  pub number : ℕ
  pub here : has_number ns number ≡ true
  pub passes : f number ≡ true

pub some_number : (f : ℕ → Bool) (ns : List ℕ) → some_of f ns ≡ true → PassesNumber f ns
some_number f [] h = absurd (false≢true h)
some_number f (n ∷ ns) h = elim (or_cases (f n) (some_of f ns) h) [
  | inl here ↦ record { number = n; here = or_left (n == n) (has_number ns n) (eq-eqb n n refl); passes = here }
  | inr there ↦
      let rest = some_number f ns there in
      record { number = rest.number; here = or_right (n == rest.number) (has_number ns rest.number) rest.here; passes = rest.passes }
]

-- ---- numbers

abbrev pub below : ℕ → List ℕ
below zero = []
below (suc n) = n ∷ below n

pub below_has : (n i : ℕ) → i < n → has_number (below n) i ≡ true
below_has zero i lt = absurd (omega (arith, lt))
below_has (suc n) i lt = elim (cases_lt i n) [
  | inl less ↦ or_right (n == i) (has_number (below n) i) (below_has n i less)
  | inr more ↦ or_left (n == i) (has_number (below n) i) (eq-eqb n i (omega (arith, lt, more)))
]

-- ---- a test of each in a list, given what comes before it

abbrev pub at_each : {A : Type 0} → (List A → A → Bool) → List A → List A → Bool
at_each test front [] = true
at_each test front (x ∷ xs) = test front x && at_each test (front ++ x ∷ []) xs

at_place : {A : Type 0} (test : List A → A → Bool) (front earlier later : List A) (x : A) → at_each test front (earlier ++ x ∷ later) ≡ true → test (front ++ earlier) x ≡ true
at_place {A} test front [] later x all =
    subst (λ (l : List A). test l x ≡ true) (sym (append-nil front)) (and_parts (test front x) (at_each test (front ++ x ∷ []) later) all).0
at_place {A} test front (y ∷ earlier) later x all =
    subst (λ (l : List A). test l x ≡ true) (append_assoc front (y ∷ []) earlier)
    (at_place test (front ++ y ∷ []) earlier later x (and_parts (test front y) (at_each test (front ++ y ∷ []) (earlier ++ x ∷ later)) all).1)

pub at_split : {A : Type 0} (test : List A → A → Bool) (xs earlier later : List A) (x : A) → xs ≡ earlier ++ x ∷ later → at_each test [] xs ≡ true → test earlier x ≡ true
at_split {A} test xs earlier later x is all = at_place test [] earlier later x (subst (λ (l : List A). at_each test [] l ≡ true) is all)

-- ---- equal tests and equal files

abbrev pub same_test : Bool → Bool → Bool
same_test true c = c
same_test false c = not c

pub tests_same : (b c : Bool) → same_test b c ≡ true → b ≡ c
tests_same true c is = sym is
tests_same false c is = sym (not-true c is)

abbrev pub same_content : Option (List ℕ) → Option (List ℕ) → Bool
same_content None None = true
same_content None (Some q) = false
same_content (Some p) None = false
same_content (Some p) (Some q) = bytes_eq p q

pub contents_same : (a b : Option (List ℕ)) → same_content a b ≡ true → a ≡ b
contents_same None None is = refl
contents_same None (Some q) is = absurd (false≢true is)
contents_same (Some p) None is = absurd (false≢true is)
contents_same (Some p) (Some q) is = ap Some (same_bytes p q is)

-- ---- options

-- a test of what is there, which holds where nothing is; and one that does not
abbrev pub if_there : {A : Type 0} → (A → Bool) → Option A → Bool
if_there f None = true
if_there f (Some x) = f x

abbrev pub is_there : {A : Type 0} → (A → Bool) → Option A → Bool
is_there f None = false
is_there f (Some x) = f x

pub if_there_at : {A : Type 0} (f : A → Bool) (o : Option A) (x : A) → if_there f o ≡ true → o ≡ Some x → f x ≡ true
if_there_at {A} f o x h is = subst (λ (other : Option A). if_there f other ≡ true) is h

pub if_there_from : {A : Type 0} (f : A → Bool) (o : Option A) → ((x : A) → o ≡ Some x → f x ≡ true) → if_there f o ≡ true
if_there_from f None each = refl
if_there_from f (Some x) each = each x refl

pub record IsThere {A : Type 0} (f : A → Bool) (o : Option A) : Type 0 where
  pub value : A
  pub is : o ≡ Some value
  pub passes : f value ≡ true

pub is_there_at : {A : Type 0} (f : A → Bool) (o : Option A) → is_there f o ≡ true → IsThere f o
is_there_at f None h = absurd (false≢true h)
is_there_at f (Some x) h = record { value = x; is = refl; passes = h }

-- ---- one of two tests, by a third

abbrev pub choose : Bool → Bool → Bool → Bool
choose true x y = x
choose false x y = y

pub choose_first : (b x y : Bool) → b ≡ true → choose b x y ≡ true → x ≡ true
choose_first b x y is h = subst (λ (c : Bool). choose c x y ≡ true) is h

pub choose_second : (b x y : Bool) → b ≡ false → choose b x y ≡ true → y ≡ true
choose_second b x y is h = subst (λ (c : Bool). choose c x y ≡ true) is h

pub first_chosen : (b x y : Bool) → b ≡ true → x ≡ true → choose b x y ≡ true
first_chosen b x y is h = subst (λ (c : Bool). choose c x y ≡ true) (sym is) h

pub second_chosen : (b x y : Bool) → b ≡ false → y ≡ true → choose b x y ≡ true
second_chosen b x y is h = subst (λ (c : Bool). choose c x y ≡ true) (sym is) h

-- the second test holds where the first does not
pub other_of : (x y : Bool) → (x || y) ≡ true → x ≡ false → y ≡ true
other_of x y h none = elim (or_cases x y h) [ inl here ↦ absurd (false≢true (sym none ∙ here)) | inr there ↦ there ]
