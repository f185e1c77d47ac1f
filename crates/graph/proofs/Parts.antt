-- Results, options and lists, taken apart.
use Rattle.std.proofs.Common.{◌≡◌, ℕ, zero, suc, ◌<◌, ◌==◌, true, false, List, [], ◌∷◌, ◌++◌, Option, Some, None, IfSome, IfNone, MatchOption, IfOk, IfErr, OnOk, OnErr, Result, Ok, Err, length, get_or, refl, sym, arith}
use Rattle.std.specs.List.{AllByRecursion}
use Rattle.std.specs.Option.{is_some}
use Rattle.std.proofs.lemmas.Bool.{true≢false, eqb-true}

pub some_of : {T : Type 0} {P : T → Type 0} (r : Option T) → ((x : T) → r ≡ Some x → P x) → IfSome r P
some_of None each = tt
some_of (Some x) each = each x refl

pub none_of : {T : Type 0} (o : Option T) → is_some o ≡ false → o ≡ None
none_of None is = refl
none_of (Some x) is = absurd (true≢false is)

pub if_ok_then : {T E : Type 0} {P Q : T → Type 0} (r : Result T E) → IfOk r P → ((x : T) → P x → Q x) → IfOk r Q
if_ok_then (Ok x) p f = f x p
if_ok_then (Err e) p f = tt

pub if_err_then : {T E : Type 0} {P Q : E → Type 0} (r : Result T E) → IfErr r P → ((e : E) → P e → Q e) → IfErr r Q
if_err_then (Ok x) p f = tt
if_err_then (Err e) p f = f e p

pub all_index : (n : ℕ) (xs : List ℕ) → AllByRecursion (λ p. p < n) xs → (k d : ℕ) → k < length xs → get_or xs k d < n
all_index n [] all k d lt = absurd (omega (arith, lt))
all_index n (x ∷ xs) all zero d lt = all.0
all_index n (x ∷ xs) all (suc k) d lt = all_index n xs all.1 k d (omega (arith, lt))

pub index_all : (n : ℕ) (xs : List ℕ) → ((k d : ℕ) → k < length xs → get_or xs k d < n) → AllByRecursion (λ p. p < n) xs
index_all n [] each = tt
index_all n (x ∷ xs) each = (each 0 0 (omega arith), index_all n xs (λ k d lt. each (suc k) d (omega (arith, lt))))

pub nothing_of : {T : Type 0} (xs : List T) → true ≡ (length xs == 0) → xs ≡ []
nothing_of [] is = refl
nothing_of (x ∷ xs) is = let none = eqb-true (length (x ∷ xs)) 0 (sym is) in absurd (omega (arith, none))

pub all_push : (n : ℕ) (xs : List ℕ) (x : ℕ) → AllByRecursion (λ p. p < n) xs → x < n → AllByRecursion (λ p. p < n) (xs ++ x ∷ [])
all_push n [] x all lt = (lt, tt)
all_push n (y ∷ xs) x all lt = (all.0, all_push n xs x all.1 lt)

pub on_err_then : {T E P Q : Type 0} (r : Result T E) → OnErr r P → (P → Q) → OnErr r Q
on_err_then (Ok x) p f = tt
on_err_then (Err e) p f = f p

pub on_ok_then : {T E P Q : Type 0} (r : Result T E) → OnOk r P → (P → Q) → OnOk r Q
on_ok_then (Ok x) p f = f p
on_ok_then (Err e) p f = tt

pub on_ok_both : {T E P Q R : Type 0} (r : Result T E) → OnOk r P → OnOk r Q → (P → Q → R) → OnOk r R
on_ok_both (Ok x) p q f = f p q
on_ok_both (Err e) p q f = tt

pub if_ok_both : {T E : Type 0} {P Q R : T → Type 0} (r : Result T E) → IfOk r P → IfOk r Q → ((x : T) → P x → Q x → R x) → IfOk r R
if_ok_both (Ok x) p q f = f x p q
if_ok_both (Err e) p q f = tt

pub match_some : {T : Type 0} (A : Type 0) (B : T → Type 0) (o : Option T) → MatchOption o A B → IfSome o B
match_some A B None is = tt
match_some A B (Some x) is = is

pub match_none : {T : Type 0} (A : Type 0) (B : T → Type 0) (o : Option T) → MatchOption o A B → IfNone o A
match_none A B None is = is
match_none A B (Some x) is = tt
