-- How often numbers stand in lists.
use Rattle.std.proofs.Common.{◌≡◌, ◌≢◌, inl, inr, ℕ, suc, ◌+◌, ◌<◌, ◌==◌, Bool, true, false, cond, List, [], ◌∷◌, ◌++◌, length, refl, sym, ◌∙◌, ap, subst, arith}
use Rattle.std.proofs.lemmas.List.{get_or-set_same, get_or-set_other, length-set}
use Rattle.std.proofs.lemmas.Bool.{cases_Bool, eqb-true, eq-eqb, false≢true, or_cases, or_left, or_right, false_from_ne_true}
use Rattle.std.specs.List.{AllByRecursion}
use Rattle.model.specs.Graph.{has_number}
use Rattle.graph.specs.Held.{list_at, times, StandOnce, push_at, pushed}

pub one_time : (m n : ℕ) → ((m == n) ≡ true) → (ms : List ℕ) → times (m ∷ ms) n ≡ suc (times ms n)
one_time m n is ms = ap (λ (b : Bool). cond b (suc (times ms n)) (times ms n)) is

pub no_time : (m n : ℕ) → ((m == n) ≡ false) → (ms : List ℕ) → times (m ∷ ms) n ≡ times ms n
no_time m n is ms = ap (λ (b : Bool). cond b (suc (times ms n)) (times ms n)) is

pub times-append : (xs ys : List ℕ) (n : ℕ) → times (xs ++ ys) n ≡ times xs n + times ys n
times-append [] ys n = omega arith
times-append (x ∷ xs) ys n = elim (cases_Bool (x == n)) [
  | inl here ↦ let a = one_time x n here (xs ++ ys) in let b = one_time x n here xs in let rest = times-append xs ys n in omega (arith, a, b, rest)
  | inr other ↦ let a = no_time x n other (xs ++ ys) in let b = no_time x n other xs in let rest = times-append xs ys n in omega (arith, a, b, rest)
]

pub times_of_has : (xs : List ℕ) (n : ℕ) → has_number xs n ≡ true → 0 < times xs n
times_of_has [] n h = absurd (false≢true h)
times_of_has (x ∷ xs) n h = elim (cases_Bool (x == n)) [
  | inl here ↦ let a = one_time x n here xs in omega (arith, a)
  | inr other ↦
      let a = no_time x n other xs in
      let later : has_number xs n ≡ true = elim (or_cases (x == n) (has_number xs n) h) [ inl here ↦ absurd (false≢true (sym other ∙ here)) | inr rest ↦ rest ] in
      let rest = times_of_has xs n later in
      omega (arith, a, rest)
]

pub has_of_times : (xs : List ℕ) (n : ℕ) → 0 < times xs n → has_number xs n ≡ true
has_of_times [] n some = absurd (omega (arith, some))
has_of_times (x ∷ xs) n some = elim (cases_Bool (x == n)) [
  | inl here ↦ or_left (x == n) (has_number xs n) here
  | inr other ↦ let a = no_time x n other xs in or_right (x == n) (has_number xs n) (has_of_times xs n (omega (arith, a, some)))
]

pub times_none : (xs : List ℕ) (n : ℕ) → has_number xs n ≡ false → times xs n ≡ 0
times_none xs n absent =
    let none : 0 < times xs n → ⊥ = λ some. false≢true (sym absent ∙ has_of_times xs n some) in
    omega (arith, none)

pub times_one : (n : ℕ) → times (n ∷ []) n ≡ 1
times_one n = one_time n n (eq-eqb n n refl) []

pub once_left : (xs ys : List ℕ) → StandOnce (xs ++ ys) → StandOnce xs
once_left xs ys once n = let sum = times-append xs ys n in let most = once n in omega (arith, sum, most)

pub once_right : (xs ys : List ℕ) → StandOnce (xs ++ ys) → StandOnce ys
once_right xs ys once n = let sum = times-append xs ys n in let most = once n in omega (arith, sum, most)

pub once_none : StandOnce []
once_none n = omega arith

-- a number more, which was not there
pub once_push : (xs : List ℕ) (n : ℕ) → StandOnce xs → has_number xs n ≡ false → StandOnce (xs ++ n ∷ [])
once_push xs n once absent k = elim (cases_Bool (n == k)) [
  | inl same ↦
      let sum = times-append xs (n ∷ []) k in
      let one = one_time n k same [] in
      let none : times xs k ≡ 0 = subst (λ (m : ℕ). times xs m ≡ 0) (eqb-true n k same) (times_none xs n absent) in
      omega (arith, sum, one, none)
  | inr other ↦
      let sum = times-append xs (n ∷ []) k in
      let none = no_time n k other [] in
      let most = once k in
      omega (arith, sum, none, most)
]

-- two lists without a number in common
pub once_append : (xs ys : List ℕ) → StandOnce xs → StandOnce ys → ((n : ℕ) → has_number xs n ≡ true → has_number ys n ≡ false) → StandOnce (xs ++ ys)
once_append xs ys a b apart n = elim (cases_Bool (has_number xs n)) [
  | inl here ↦
      let sum = times-append xs ys n in
      let none = times_none ys n (apart n here) in
      let most = a n in
      omega (arith, sum, none, most)
  | inr absent ↦
      let sum = times-append xs ys n in
      let none = times_none xs n absent in
      let most = b n in
      omega (arith, sum, none, most)
]

pub apart_of_once : (xs ys : List ℕ) (n : ℕ) → StandOnce (xs ++ ys) → has_number xs n ≡ true → has_number ys n ≡ false
apart_of_once xs ys n once here = false_from_ne_true (has_number ys n) (λ there.
    let sum = times-append xs ys n in
    let a = times_of_has xs n here in
    let b = times_of_has ys n there in
    let most = once n in
    omega (arith, sum, a, b, most))

-- ---- one edge behind those that name some paths

pub length-pushed : (users : List (List ℕ)) (ps : List ℕ) (e : ℕ) → length (pushed users ps e) ≡ length users
length-pushed users [] e = refl
length-pushed users (p ∷ ps) e = length-pushed (push_at users p e) ps e ∙ length-set users p (list_at users p ++ e ∷ [])

pub pushed-append : (users : List (List ℕ)) (ps qs : List ℕ) (e : ℕ) → pushed users (ps ++ qs) e ≡ pushed (pushed users ps e) qs e
pushed-append users [] qs e = refl
pushed-append users (p ∷ ps) qs e = pushed-append (push_at users p e) ps qs e

pub push_same : (users : List (List ℕ)) (p e : ℕ) → p < length users → list_at (push_at users p e) p ≡ list_at users p ++ e ∷ []
push_same users p e within = get_or-set_same users p (list_at users p ++ e ∷ []) [] within

pub push_other : (users : List (List ℕ)) (p q e : ℕ) → q ≢ p → list_at (push_at users p e) q ≡ list_at users q
push_other users p q e other = get_or-set_other users p q (list_at users p ++ e ∷ []) [] other

times_pushed_one : (users : List (List ℕ)) (p q e f : ℕ) → p < length users → times (list_at (push_at users p e) q) f ≡ times (list_at users q) f + cond (e == f) (times (p ∷ []) q) 0
times_pushed_one users p q e f within = elim (cases_Bool (p == q)) [
  | inl same ↦ subst (λ (r : ℕ). times (list_at (push_at users p e) r) f ≡ times (list_at users r) f + cond (e == f) (times (p ∷ []) r) 0) (eqb-true p q same) (elim (cases_Bool (e == f)) [
    | inl edge ↦
        let here : times (list_at (push_at users p e) p) f ≡ times (list_at users p ++ e ∷ []) f = ap (λ (l : List ℕ). times l f) (push_same users p e within) in
        let sum = times-append (list_at users p) (e ∷ []) f in
        let one = one_time e f edge [] in
        let mine : cond (e == f) (times (p ∷ []) p) 0 ≡ times (p ∷ []) p = ap (λ (b : Bool). cond b (times (p ∷ []) p) 0) edge in
        let single = times_one p in
        omega (arith, here, sum, one, mine, single)
    | inr another ↦
        let here : times (list_at (push_at users p e) p) f ≡ times (list_at users p ++ e ∷ []) f = ap (λ (l : List ℕ). times l f) (push_same users p e within) in
        let sum = times-append (list_at users p) (e ∷ []) f in
        let none = no_time e f another [] in
        let mine : cond (e == f) (times (p ∷ []) p) 0 ≡ 0 = ap (λ (b : Bool). cond b (times (p ∷ []) p) 0) another in
        omega (arith, here, sum, none, mine)
  ])
  | inr other ↦
      let apart : q ≢ p = λ is. false≢true (sym other ∙ eq-eqb p q (sym is)) in
      let here : times (list_at (push_at users p e) q) f ≡ times (list_at users q) f = ap (λ (l : List ℕ). times l f) (push_other users p q e apart) in
      let none = no_time p q other [] in
      let mine : cond (e == f) (times (p ∷ []) q) 0 ≡ 0 = either (e == f) none in
      omega (arith, here, mine)
]
  where
    either : (b : Bool) → times (p ∷ []) q ≡ 0 → cond b (times (p ∷ []) q) 0 ≡ 0
    either true none = none
    either false none = refl

-- the edge stands once more for each time that a path is named
pub times_pushed : (users : List (List ℕ)) (ps : List ℕ) (q e f : ℕ) → AllByRecursion (λ p. p < length users) ps → times (list_at (pushed users ps e) q) f ≡ times (list_at users q) f + cond (e == f) (times ps q) 0
times_pushed users [] q e f within = let none = same (e == f) in omega (arith, none)
  where
    same : (b : Bool) → cond b (times [] q) 0 ≡ times [] q
    same true = refl
    same false = refl
times_pushed users (p ∷ ps) q e f within =
    let rest = times_pushed (push_at users p e) ps q e f (subst (λ (n : ℕ). AllByRecursion (λ r. r < n) ps) (sym (length-set users p (list_at users p ++ e ∷ []))) within.1) in
    let one = times_pushed_one users p q e f within.0 in
    let sum = times-append (p ∷ []) ps q in
    let split : cond (e == f) (times (p ∷ ps) q) 0 ≡ cond (e == f) (times (p ∷ []) q) 0 + cond (e == f) (times ps q) 0 = both (e == f) sum in
    omega (arith, rest, one, split)
  where
    both : (b : Bool) → times (p ∷ ps) q ≡ times (p ∷ []) q + times ps q → cond b (times (p ∷ ps) q) 0 ≡ cond b (times (p ∷ []) q) 0 + cond b (times ps q) 0
    both true sum = sum
    both false sum = refl
