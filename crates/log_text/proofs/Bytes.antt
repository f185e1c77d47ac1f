-- Bytes with and without a mark.
use Rattle.std.proofs.Common.{◌≡◌, ◌<◌, ◌+◌, ℕ, List, [], ◌∷◌, ◌++◌, refl, subst, ap, ◌∙◌, length, take, get_or, add-one, arith}
use Rattle.std.proofs.Math.Seq.{take-suc}
use Rattle.text.specs.Marks.{Lacks}

pub Lacks-append : (mark : ℕ) (xs ys : List ℕ) → Lacks mark xs → Lacks mark ys → Lacks mark (xs ++ ys)
Lacks-append mark [] ys front back = back
Lacks-append mark (x ∷ xs) ys front back = (front.0, Lacks-append mark xs ys front.1 back)

pub Lacks-front : (mark : ℕ) (xs ys : List ℕ) → Lacks mark (xs ++ ys) → Lacks mark xs
Lacks-front mark [] ys all = tt
Lacks-front mark (x ∷ xs) ys all = (all.0, Lacks-front mark xs ys all.1)

pub Lacks-back : (mark : ℕ) (xs ys : List ℕ) → Lacks mark (xs ++ ys) → Lacks mark ys
Lacks-back mark [] ys all = all
Lacks-back mark (x ∷ xs) ys all = Lacks-back mark xs ys all.1

pub has_mark : (mark : ℕ) (xs ys : List ℕ) → Lacks mark (xs ++ mark ∷ ys) → ⊥
has_mark mark xs ys lacks = (Lacks-back mark xs (mark ∷ ys) lacks).0 refl

-- the first mark parts bytes in one way
pub one_cut : (mark : ℕ) (a b x y : List ℕ) → Lacks mark a → Lacks mark b → a ++ mark ∷ x ≡ b ++ mark ∷ y → (a ≡ b) × (x ≡ y)
one_cut mark [] [] x y h k e = (refl, cc)
one_cut mark [] (c ∷ b) x y h k e = absurd (k.0 cc)
one_cut mark (c ∷ a) [] x y h k e = absurd (h.0 cc)
one_cut mark (c ∷ a) (d ∷ b) x y h k e =
    let inner = one_cut mark a b x y h.1 k.1 cc in
    let heads : c ≡ d = cc in
    (rw (heads, inner.0) refl, inner.1)

-- the last mark parts bytes in one way
pub one_tail : (mark : ℕ) (a b x y : List ℕ) → Lacks mark x → Lacks mark y → a ++ mark ∷ x ≡ b ++ mark ∷ y → (a ≡ b) × (x ≡ y)
one_tail mark [] [] x y h k e = (refl, cc)
one_tail mark [] (d ∷ b) x y h k e = absurd (let rest : x ≡ b ++ mark ∷ y = cc in has_mark mark b y (subst (Lacks mark) rest h))
one_tail mark (c ∷ a) [] x y h k e = absurd (let rest : y ≡ a ++ mark ∷ x = cc in has_mark mark a x (subst (Lacks mark) rest k))
one_tail mark (c ∷ a) (d ∷ b) x y h k e =
    let inner = one_tail mark a b x y h k cc in
    let heads : c ≡ d = cc in
    (rw (heads, inner.0) refl, inner.1)

pub length_nil : {A : Type 0} (xs : List A) → length xs ≡ 0 → xs ≡ []
length_nil [] e = refl
length_nil (x ∷ xs) e = absurd (omega arith)

-- one item more from the front
pub take_more : {A : Type 0} (xs : List A) (i : ℕ) (d : A) → i < length xs → take (i + 1) xs ≡ take i xs ++ get_or xs i d ∷ []
take_more xs i d lt = ap (λ (n : ℕ). take n xs) (add-one i) ∙ take-suc xs i d lt
