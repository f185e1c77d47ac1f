-- Texts that are added to a table, whatever their order.
use Rattle.std.proofs.Common.{◌≡◌, ◌≢◌, ◌⊎◌, ◌↔◌, inl, inr, ℕ, zero, suc, ◌+◌, ◌<◌, ◌≤◌, ◌==◌, ◌||◌, Bool, true, false, if◌then◌else◌, List, [], ◌∷◌, ◌++◌, length, take, get_or, map, refl, sym, ap, ◌∙◌, subst, arith, bytes_eq}
use Rattle.std.proofs.lemmas.Bool.{cases_Bool, cases_lt, eqb-true, eq-eqb, false≢true, or_cases, or_left, or_right}
use Rattle.std.proofs.lemmas.List.{map-append, take_more}
use Rattle.std.proofs.lemmas.Slice.Eq.{bytes_eq-Decides}
use Rattle.std.specs.Map.Iter.{deref}
use denote.Ref.{Bor}
use Rattle.model.specs.Graph.{has, has_number}
use Rattle.paths.specs.Numbers.{IsAdded}
use Rattle.tools.specs.Clean.{AddsJust}
use Rattle.tools.proofs.Rises.{has_push as number_push}

has_push : (xs : List (List ℕ)) (x t : List ℕ) → has (xs ++ x ∷ []) t ≡ (has xs t || bytes_eq x t)
has_push [] x t = or_nothing (bytes_eq x t)
  where
    or_nothing : (b : Bool) → (b || false) ≡ (false || b)
    or_nothing true = refl
    or_nothing false = refl
has_push (y ∷ xs) x t = ap (λ (b : Bool). bytes_eq y t || b) (has_push xs x t) ∙ or_assoc (bytes_eq y t) (has xs t) (bytes_eq x t)
  where
    or_assoc : (a b c : Bool) → (a || (b || c)) ≡ ((a || b) || c)
    or_assoc true b c = refl
    or_assoc false b c = refl

pub has_old : (xs : List (List ℕ)) (x t : List ℕ) → has xs t ≡ true → has (xs ++ x ∷ []) t ≡ true
has_old xs x t h = has_push xs x t ∙ or_left (has xs t) (bytes_eq x t) h

pub has_new : (xs : List (List ℕ)) (x : List ℕ) → has (xs ++ x ∷ []) x ≡ true
has_new xs x = has_push xs x x ∙ or_right (has xs x) (bytes_eq x x) ((bytes_eq-Decides x x).1 refl)

pub has_cases : (xs : List (List ℕ)) (x t : List ℕ) → has (xs ++ x ∷ []) t ≡ true → (has xs t ≡ true) ⊎ (x ≡ t)
has_cases xs x t h = elim (or_cases (has xs t) (bytes_eq x t) (sym (has_push xs x t) ∙ h)) [
  | inl old ↦ inl old
  | inr new ↦ inr ((bytes_eq-Decides x t).0 new)
]

pub has_first : (x : List ℕ) (xs : List (List ℕ)) → has (x ∷ xs) x ≡ true
has_first x xs = or_left (bytes_eq x x) (has xs x) ((bytes_eq-Decides x x).1 refl)

pub has_later : (x t : List ℕ) (xs : List (List ℕ)) → has xs t ≡ true → has (x ∷ xs) t ≡ true
has_later x t xs h = or_right (bytes_eq x t) (has xs t) h

pub has_either : (xs ys : List (List ℕ)) (t : List ℕ) → has (xs ++ ys) t ≡ true → (has xs t ≡ true) ⊎ (has ys t ≡ true)
has_either [] ys t h = inr h
has_either (x ∷ xs) ys t h = elim (or_cases (bytes_eq x t) (has (xs ++ ys) t) h) [
  | inl here ↦ inl (or_left (bytes_eq x t) (has xs t) here)
  | inr later ↦ elim (has_either xs ys t later) [
    | inl one ↦ inl (or_right (bytes_eq x t) (has xs t) one)
    | inr two ↦ inr two
  ]
]

pub has_left : (xs ys : List (List ℕ)) (t : List ℕ) → has xs t ≡ true → has (xs ++ ys) t ≡ true
has_left [] ys t h = absurd (false≢true h)
has_left (x ∷ xs) ys t h = elim (or_cases (bytes_eq x t) (has xs t) h) [
  | inl here ↦ or_left (bytes_eq x t) (has (xs ++ ys) t) here
  | inr later ↦ or_right (bytes_eq x t) (has (xs ++ ys) t) (has_left xs ys t later)
]

pub has_right : (xs ys : List (List ℕ)) (t : List ℕ) → has ys t ≡ true → has (xs ++ ys) t ≡ true
has_right [] ys t h = h
has_right (x ∷ xs) ys t h = or_right (bytes_eq x t) (has (xs ++ ys) t) (has_right xs ys t h)

-- ---- what is added

-- the text is the one or the other
abbrev pub Or : (List ℕ → Type 0) → (List ℕ → Type 0) → List ℕ → Type 0
Or P Q t = P t ⊎ Q t

-- it is this one, and not empty
abbrev pub IsText : List ℕ → List ℕ → Type 0
IsText path t = (t ≢ []) × (t ≡ path)

abbrev pub IsTextOf : List (List ℕ) → List ℕ → Type 0
IsTextOf texts t = (t ≢ []) × (has texts t ≡ true)

abbrev pub IsSame : List ℕ → List ℕ → Type 0
IsSame path t = t ≡ path

abbrev pub IsHad : List (List ℕ) → List ℕ → Type 0
IsHad texts t = has texts t ≡ true

-- one of those below a bound
abbrev pub IsBelow : (ℕ → List ℕ → Type 0) → ℕ → List ℕ → Type 0
IsBelow P i t = (e : ℕ) × (e < i) × P e t

-- one of a list of numbers
abbrev pub IsListed : (ℕ → List ℕ → Type 0) → List ℕ → List ℕ → Type 0
IsListed P numbers t = (p : ℕ) × (has_number numbers p ≡ true) × P p t

pub adds_none : (old : List (List ℕ)) (P : List ℕ → Type 0) → ((t : List ℕ) → P t → ⊥) → AddsJust old old P
adds_none old P none t = (
  λ h. inl h,
  λ h. elim h [
    | inl is ↦ is
    | inr p ↦ absurd (none t p)
  ],
)

pub adds_as : (old new : List (List ℕ)) (P Q : List ℕ → Type 0) → ((t : List ℕ) → P t → Q t) → ((t : List ℕ) → Q t → P t) → AddsJust old new P → AddsJust old new Q
adds_as old new P Q on back adds t = (
  λ h. elim ((adds t).0 h) [
    | inl is ↦ inl is
    | inr p ↦ inr (on t p)
  ],
  λ h. elim h [
    | inl is ↦ (adds t).1 (inl is)
    | inr q ↦ (adds t).1 (inr (back t q))
  ],
)

pub adds_then : (old mid new : List (List ℕ)) (P Q : List ℕ → Type 0) → AddsJust old mid P → AddsJust mid new Q → AddsJust old new (Or P Q)
adds_then old mid new P Q first second t = (
  λ h. elim ((second t).0 h) [
    | inl was ↦ elim ((first t).0 was) [
      | inl is ↦ inl is
      | inr p ↦ inr (inl p)
    ]
    | inr q ↦ inr (inr q)
  ],
  λ h. elim h [
    | inl is ↦ (second t).1 (inl ((first t).1 (inl is)))
    | inr both ↦ elim both [
      | inl p ↦ (second t).1 (inl ((first t).1 (inr p)))
      | inr q ↦ (second t).1 (inr q)
    ]
  ],
)

-- one text
pub adds_path : (old new : List (List ℕ)) (path : List ℕ) (n : ℕ) → IsAdded old new path n → AddsJust old new (λ t. t ≡ path)
adds_path old new path n added t = elim (cases_Bool (has old path)) [
  | inl known ↦
      let same : new ≡ old = added.grows ∙ ap (λ (b : Bool). if b then old else old ++ path ∷ []) known in (
        λ h. inl (subst (λ (l : List (List ℕ)). has l t ≡ true) same h),
        λ h. subst (λ (l : List (List ℕ)). has l t ≡ true) (sym same) (elim h [
          | inl is ↦ is
          | inr is ↦ subst (λ (q : List ℕ). has old q ≡ true) (sym is) known
        ]),
      )
  | inr unknown ↦
      let same : new ≡ old ++ path ∷ [] = added.grows ∙ ap (λ (b : Bool). if b then old else old ++ path ∷ []) unknown in (
        λ h. elim (has_cases old path t (subst (λ (l : List (List ℕ)). has l t ≡ true) same h)) [
          | inl is ↦ inl is
          | inr is ↦ inr (sym is)
        ],
        λ h. subst (λ (l : List (List ℕ)). has l t ≡ true) (sym same) (elim h [
          | inl is ↦ has_old old path t is
          | inr is ↦ subst (λ (q : List ℕ). has (old ++ path ∷ []) q ≡ true) (sym is) (has_new old path)
        ]),
      )
]

-- one that is not empty
pub adds_text : (old new : List (List ℕ)) (path : List ℕ) (n : ℕ) → IsAdded old new path n → path ≢ [] → AddsJust old new (λ t. (t ≢ []) × (t ≡ path))
adds_text old new path n added some = adds_as old new (IsSame path) (IsText path) (λ t is. (λ empty. some (sym is ∙ empty), is)) (λ t both. both.1) (adds_path old new path n added)

-- ---- lists that are gone through

-- one text more of a list
pub adds_next : (f : ℕ → List ℕ) (numbers : List ℕ) (i n : ℕ) (old mid new : List (List ℕ)) (text : List ℕ) → i < length numbers → n ≡ get_or numbers i n → text ≡ f n
    → AddsJust old mid (λ t. (t ≢ []) × (has (map f (take i numbers)) t ≡ true)) → AddsJust mid new (λ t. (t ≢ []) × (t ≡ text))
    → AddsJust old new (λ t. (t ≢ []) × (has (map f (take (i + 1) numbers)) t ≡ true))
adds_next f numbers i n old mid new text low is same before adds =
    adds_as old new (Or (IsTextOf (map f (take i numbers))) (IsText text)) (IsTextOf (map f (take (i + 1) numbers)))
    (λ t either. elim either [
      | inl p ↦ (p.0, subst (λ (l : List (List ℕ)). has l t ≡ true) (sym more) (has_old (map f (take i numbers)) (f n) t p.1))
      | inr q ↦ (q.0, subst (λ (l : List (List ℕ)). has l t ≡ true) (sym more) (subst (λ (u : List ℕ). has (map f (take i numbers) ++ f n ∷ []) u ≡ true) (sym (q.1 ∙ same)) (has_new (map f (take i numbers)) (f n))))
    ])
    (λ t p. elim (has_cases (map f (take i numbers)) (f n) t (subst (λ (l : List (List ℕ)). has l t ≡ true) more p.1)) [
      | inl was ↦ inl (p.0, was)
      | inr now ↦ inr (p.0, sym now ∙ sym same)
    ])
    (adds_then old mid new (IsTextOf (map f (take i numbers))) (IsText text) before adds)
  where
    more : map f (take (i + 1) numbers) ≡ map f (take i numbers) ++ f n ∷ []
    more = ap (map f) (take_more numbers i n low ∙ ap (λ (m : ℕ). take i numbers ++ m ∷ []) (sym is)) ∙ map-append f (take i numbers) (n ∷ [])

-- one number more of those below a bound
pub below_on : (P : ℕ → List ℕ → Type 0) (i : ℕ) (t : List ℕ) → Or (IsBelow P i) (P i) t → IsBelow P (i + 1) t
below_on P i t (inl p) = (p.0, omega (arith, p.1), p.2)
below_on P i t (inr q) = (i, omega arith, q)

pub below_back : (P : ℕ → List ℕ → Type 0) (i : ℕ) (t : List ℕ) → IsBelow P (i + 1) t → Or (IsBelow P i) (P i) t
below_back P i t p = elim (cases_lt p.0 i) [
  | inl below ↦ inl (p.0, below, p.2)
  | inr above ↦ inr (subst (λ (e : ℕ). P e t) (last p.0 p.1 above) p.2)
]
  where
    last : (e : ℕ) → e < i + 1 → i ≤ e → e ≡ i
    last e low above = omega (arith, low, above)

pub adds_counted : (P : ℕ → List ℕ → Type 0) (i : ℕ) (old mid new : List (List ℕ)) → AddsJust old mid (λ t. (e : ℕ) × (e < i) × P e t) → AddsJust mid new (P i)
    → AddsJust old new (λ t. (e : ℕ) × (e < i + 1) × P e t)
adds_counted P i old mid new before adds =
    adds_as old new (Or (IsBelow P i) (P i)) (IsBelow P (i + 1)) (below_on P i) (below_back P i) (adds_then old mid new (IsBelow P i) (P i) before adds)

-- before the first of them, and where all were counted
pub counted_start : (P : ℕ → List ℕ → Type 0) (old : List (List ℕ)) → AddsJust old old (IsBelow P 0)
counted_start P old = adds_none old (IsBelow P 0) (λ t below. absurd (omega (arith, below.1)))

pub counted_all : (P : ℕ → List ℕ → Type 0) (i n : ℕ) (old new : List (List ℕ)) → i ≡ n → AddsJust old new (IsBelow P i) → AddsJust old new (IsBelow P n)
counted_all P i n old new same adds = subst (λ (m : ℕ). AddsJust old new (IsBelow P m)) same adds

-- of no numbers, and of no texts
pub listed_start : (P : ℕ → List ℕ → Type 0) (old : List (List ℕ)) → AddsJust old old (IsListed P [])
listed_start P old = adds_none old (IsListed P []) (λ t one. false≢true one.1)

pub texts_start : (old : List (List ℕ)) → AddsJust old old (IsTextOf [])
texts_start old = adds_none old (IsTextOf []) (λ t one. false≢true one.1)

-- ---- texts that are borrowed

pub deref_more : (texts : List (Bor (List ℕ))) (i : ℕ) (d : Bor (List ℕ)) → i < length texts → map deref (take (i + 1) texts) ≡ map deref (take i texts) ++ (get_or texts i d).now ∷ []
deref_more texts i d low = ap (map deref) (take_more texts i d low) ∙ map-append deref (take i texts) (get_or texts i d ∷ [])

has_next : (texts : List (Bor (List ℕ))) (i : ℕ) (d : Bor (List ℕ)) (text : List ℕ) → i < length texts → has (map deref (take (i + 1) texts)) text ≡ (has (map deref (take i texts)) text || bytes_eq (get_or texts i d).now text)
has_next texts i d text low = ap (λ (l : List (List ℕ)). has l text) (deref_more texts i d low) ∙ has_push (map deref (take i texts)) (get_or texts i d).now text

pub not_among : (texts : List (Bor (List ℕ))) (i : ℕ) (d : Bor (List ℕ)) (text : List ℕ) → i < length texts → bytes_eq (get_or texts i d).now text ≡ false → has (map deref (take i texts)) text ≡ false → has (map deref (take (i + 1) texts)) text ≡ false
not_among texts i d text low other none = has_next texts i d text low ∙ (ap (λ (b : Bool). b || bytes_eq (get_or texts i d).now text) none ∙ (ap (λ (b : Bool). false || b) other))

pub is_among : (texts : List (Bor (List ℕ))) (i : ℕ) (d : Bor (List ℕ)) (text : List ℕ) → i < length texts → bytes_eq (get_or texts i d).now text ≡ true → has (map deref texts) text ≡ true
is_among [] i d text low same = absurd (omega (arith, low))
is_among (t ∷ texts) zero d text low same = or_left (bytes_eq t.now text) (has (map deref texts) text) same
is_among (t ∷ texts) (suc i) d text low same = or_right (bytes_eq t.now text) (has (map deref texts) text) (is_among texts i d text (omega (arith, low)) same)

pub length_none : (numbers : List ℕ) → length numbers ≡ 0 → numbers ≡ []
length_none [] none = refl
length_none (n ∷ numbers) none = absurd (omega (arith, none))

-- one number more of a list
pub adds_listed : (P : ℕ → List ℕ → Type 0) (numbers : List ℕ) (i n : ℕ) (old mid new : List (List ℕ)) → i < length numbers → n ≡ get_or numbers i n
    → AddsJust old mid (λ t. (p : ℕ) × (has_number (take i numbers) p ≡ true) × P p t) → AddsJust mid new (P n) → AddsJust old new (λ t. (p : ℕ) × (has_number (take (i + 1) numbers) p ≡ true) × P p t)
adds_listed P numbers i n old mid new low is before adds =
    adds_as old new (Or (IsListed P (take i numbers)) (P n)) (IsListed P (take (i + 1) numbers))
    (λ t either. elim either [
      | inl was ↦ (was.0, subst (λ (l : List ℕ). has_number l was.0 ≡ true) (sym more) (number_push (take i numbers) n was.0 ∙ or_left (has_number (take i numbers) was.0) (n == was.0) was.1), was.2)
      | inr now ↦ (n, subst (λ (l : List ℕ). has_number l n ≡ true) (sym more) (number_push (take i numbers) n n ∙ or_right (has_number (take i numbers) n) (n == n) (eq-eqb n n refl)), now)
    ])
    (λ t all. elim (or_cases (has_number (take i numbers) all.0) (n == all.0) (sym (number_push (take i numbers) n all.0) ∙ subst (λ (l : List ℕ). has_number l all.0 ≡ true) more all.1)) [
      | inl was ↦ inl (all.0, was, all.2)
      | inr now ↦ inr (subst (λ (p : ℕ). P p t) (sym (eqb-true n all.0 now)) all.2)
    ])
    (adds_then old mid new (IsListed P (take i numbers)) (P n) before adds)
  where
    more : take (i + 1) numbers ≡ take i numbers ++ n ∷ []
    more = take_more numbers i n low ∙ ap (λ (m : ℕ). take i numbers ++ m ∷ []) (sym is)
