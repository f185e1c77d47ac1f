-- What holds where a call was well, or failed.
use Rattle.std.proofs.Common.{◌≡◌, is_ok, OnOk, OnErr, MatchOption, Option, Some, None, Result, Ok, Err, sym, ◌∙◌, ap, subst}
use Rattle.std.proofs.lemmas.Bool.{false≢true}

pub ok_then : {T E : Type 0} {P Q : Type 0} (r : Result T E) → OnOk r P → (P → Q) → OnOk r Q
ok_then (Ok x) p f = f p
ok_then (Err e) p f = tt

pub ok_both : {T E : Type 0} {P Q R : Type 0} (r : Result T E) → OnOk r P → OnOk r Q → (P → Q → R) → OnOk r R
ok_both (Ok x) p q f = f p q
ok_both (Err e) p q f = tt

-- three clauses of one call
pub ok_then₃ : {T E : Type 0} {P Q R S : Type 0} (r : Result T E) → OnOk r P → OnOk r Q → OnOk r R → (P → Q → R → S) → OnOk r S
ok_then₃ (Ok x) p q s f = f p q s
ok_then₃ (Err e) p q s f = tt

pub on_ok : {T E : Type 0} {P : Type 0} (r : Result T E) → P → OnOk r P
on_ok (Ok x) p = p
on_ok (Err e) p = tt

pub on_err : {T E : Type 0} {P : Type 0} (r : Result T E) → P → OnErr r P
on_err (Ok x) p = tt
on_err (Err e) p = p

pub some_of : {T : Type 0} (o : Option T) (x : T) (P : Type 0) (Q : T → Type 0) → o ≡ Some x → MatchOption o P Q → Q x
some_of {T} (Some y) x P Q is h = let same : y ≡ x = cc in subst Q same h
some_of {T} None x P Q is h = cc

-- where another answer is one where this one is

pub ok_by : {T U E D : Type 0} {P : Type 0} (r : Result T E) (q : Result U D) (x : U) → is_ok q ≡ is_ok r → q ≡ Ok x → OnOk r P → P
ok_by (Ok y) q x same is p = p
ok_by (Err e) q x same is p = absurd (false≢true (sym same ∙ ap is_ok is))

pub err_by : {T U E D : Type 0} {P : Type 0} (r : Result T E) (q : Result U D) (d : D) → is_ok q ≡ is_ok r → q ≡ Err d → OnErr r P → P
err_by (Ok y) q d same is p = absurd (false≢true (sym (ap is_ok is) ∙ same))
err_by (Err e) q d same is p = p
