-- Texts that come in two parts.
use Rattle.std.proofs.Common.{◌≡◌, ◌≢◌, ◌≤◌, ℕ, Bool, true, false, List, [], ◌∷◌, ◌++◌, length, Option, Some, None, Bor, refl, sym, ap, ◌∙◌, subst, append_assoc, arith}
use Rattle.std.specs.Prelude.{IfSome, IfNone, MatchOption}
use Rattle.std.specs.Str.{bytes_eq}
use Rattle.text.proofs.Plain.{same_bytes, bytes_eq-same}

pub stripped : (bytes front : List ℕ) (found : Option (Bor (List ℕ))) → MatchOption found ((rest : List ℕ) → bytes ≢ front ++ rest) (λ rest. bytes ≡ front ++ rest.now) → IfSome found (λ rest. bytes ≡ front ++ rest.now)
stripped bytes front None is = tt
stripped bytes front (Some rest) is = is

pub not_stripped : (bytes front : List ℕ) (found : Option (Bor (List ℕ))) → MatchOption found ((rest : List ℕ) → bytes ≢ front ++ rest) (λ rest. bytes ≡ front ++ rest.now) → IfNone found ((rest : List ℕ) → bytes ≡ front ++ rest → ⊥)
not_stripped bytes front None is = is
not_stripped bytes front (Some rest) is = tt

-- two truths of which each follows from the other
iff_same : (x y : Bool) → (x ≡ true → y ≡ true) → (y ≡ true → x ≡ true) → x ≡ y
iff_same true true f g = refl
iff_same true false f g = sym (f refl)
iff_same false true f g = g refl
iff_same false false f g = refl

are_equal : (a b : List ℕ) → a ≡ b → bytes_eq a b ≡ true
are_equal a b e = subst (λ (xs : List ℕ). bytes_eq a xs ≡ true) e (bytes_eq-same a)

cancel : (a x y : List ℕ) → a ++ x ≡ a ++ y → x ≡ y
cancel [] x y e = e
cancel (z ∷ a) x y e = cancel a x y cc

front_of : (a b c d : List ℕ) → a ++ b ≡ c ++ d → length a ≤ length c → (rest : List ℕ) × (c ≡ a ++ rest)
front_of [] b c d e le = (c, refl)
front_of (x ∷ a) b [] d e le = absurd (omega (arith, le))
front_of (x ∷ a) b (y ∷ c) d e le =
    let heads : x ≡ y = cc in
    let tails : a ++ b ≡ c ++ d = cc in
    let inner = front_of a b c d tails (omega (arith, le)) in
    (inner.0, ap (λ (z : ℕ). z ∷ c) (sym heads) ∙ ap (λ (xs : List ℕ). x ∷ xs) inner.1)

pub same_parts : (a b c d more last : List ℕ) → c ≡ a ++ more → b ≡ more ++ last → bytes_eq last d ≡ bytes_eq (a ++ b) (c ++ d)
same_parts a b c d more last e f =
    let left : a ++ b ≡ (a ++ more) ++ last = ap (λ (xs : List ℕ). a ++ xs) f ∙ sym (append_assoc a more last) in
    let right : c ++ d ≡ (a ++ more) ++ d = ap (λ (xs : List ℕ). xs ++ d) e in
    iff_same (bytes_eq last d) (bytes_eq (a ++ b) (c ++ d)) (λ is. are_equal (a ++ b) (c ++ d) (left ∙ (ap (λ (xs : List ℕ). (a ++ more) ++ xs) (same_bytes last d is) ∙ sym right)))
    (λ is. are_equal last d (cancel (a ++ more) last d (sym left ∙ (same_bytes (a ++ b) (c ++ d) is ∙ right))))

pub other_front : (a b c d : List ℕ) → length a ≤ length c → ((rest : List ℕ) → c ≡ a ++ rest → ⊥) → false ≡ bytes_eq (a ++ b) (c ++ d)
other_front a b c d le none =
    iff_same false (bytes_eq (a ++ b) (c ++ d)) (λ e. absurd (let clash : false ≡ true = e in cc)) (λ is. let front = front_of a b c d (same_bytes (a ++ b) (c ++ d) is) le in absurd (none front.0 front.1))

pub other_rest : (a b c d more : List ℕ) → c ≡ a ++ more → ((rest : List ℕ) → b ≡ more ++ rest → ⊥) → false ≡ bytes_eq (a ++ b) (c ++ d)
other_rest a b c d more e none =
    iff_same false (bytes_eq (a ++ b) (c ++ d)) (λ f. absurd (let clash : false ≡ true = f in cc))
    (λ is. absurd (none d (cancel a b (more ++ d) (same_bytes (a ++ b) (c ++ d) is ∙ (ap (λ (xs : List ℕ). xs ++ d) e ∙ append_assoc a more d)))))

pub turned : (a b : List ℕ) → bytes_eq a b ≡ bytes_eq b a
turned a b = iff_same (bytes_eq a b) (bytes_eq b a) (λ is. are_equal b a (sym (same_bytes a b is))) (λ is. are_equal a b (sym (same_bytes b a is)))

pub in_parts : (front rest a b : List ℕ) → a ≡ front → b ≡ rest → front ++ rest ≡ a ++ b
in_parts front rest a b e f = ap (λ (xs : List ℕ). xs ++ rest) (sym e) ∙ ap (λ (xs : List ℕ). a ++ xs) (sym f)
