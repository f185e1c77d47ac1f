-- A change of each item of a list, one after the other.
use Rattle.std.proofs.Common.{◌≡◌, ℕ, zero, suc, ◌+◌, ◌≤◌, List, [], ◌∷◌, map, length, set, get_or, refl, ap, ◌∙◌, arith}

-- the first so many are changed
abbrev pub changed : {A : Type 0} → (A → A) → ℕ → List A → List A
changed f zero xs = xs
changed f (suc n) [] = []
changed f (suc n) (x ∷ xs) = f x ∷ changed f n xs

pub changed_all : {A : Type 0} (f : A → A) (n : ℕ) (xs : List A) → length xs ≤ n → changed f n xs ≡ map f xs
changed_all f zero [] inside = refl
changed_all f (suc n) [] inside = refl
changed_all f zero (x ∷ xs) inside = let never : ⊥ = omega (arith, inside) in absurd never
changed_all f (suc n) (x ∷ xs) inside = ap (λ ys. f x ∷ ys) (changed_all f n xs (omega (arith, inside)))

changed_at : {A : Type 0} (f : A → A) (n : ℕ) (xs : List A) (d : A) → get_or (changed f n xs) n d ≡ get_or xs n d
changed_at f zero xs d = refl
changed_at f (suc n) [] d = refl
changed_at f (suc n) (x ∷ xs) d = changed_at f n xs d

changed_set : {A : Type 0} (f : A → A) (n : ℕ) (xs : List A) (d : A) → set (changed f n xs) n (f (get_or xs n d)) ≡ changed f (suc n) xs
changed_set f zero [] d = refl
changed_set f (suc n) [] d = refl
changed_set f zero (x ∷ xs) d = refl
changed_set f (suc n) (x ∷ xs) d = ap (λ ys. f x ∷ ys) (changed_set f n xs d)

-- one more is changed
pub changed_next : {A : Type 0} (f : A → A) (n : ℕ) (xs items : List A) (one other : A) → items ≡ changed f n xs → one ≡ get_or items n one → other ≡ f one → set items n other ≡ changed f (n + 1) xs
changed_next f n xs items one other so_far is next =
    let up : suc n ≡ n + 1 = omega arith in
    (λ i. set (so_far i) n ((next ∙ ap f (is ∙ ap (λ ys. get_or ys n one) so_far ∙ changed_at f n xs one)) i)) ∙ changed_set f n xs one ∙ ap (λ (k : ℕ). changed f k xs) up
