-- Texts in a row, and places filled with blanks.
use Rattle.std.proofs.Common.{◌≡◌, ℕ, zero, suc, ◌+◌, ◌-◌, ◌≤◌, List, [], ◌∷◌, ◌++◌, map, length, take, drop, replicate, refl, sym, ap, ◌∙◌, append_assoc, append-nil, arith, Bor}
use Rattle.std.proofs.lemmas.List.{take_all}
use Rattle.std.proofs.lemmas.List.Folds.{flat_map-map}
use Rattle.std.specs.List.{flat_map, join_with_byte}

-- a first text, and a byte and a text for each other
pub join_with_byte-cons : (c : ℕ) (first : List ℕ) (others : List (List ℕ)) → join_with_byte c (first ∷ others) ≡ first ++ flat_map (λ text. c ∷ text) others
join_with_byte-cons c first [] = sym (append-nil first)
join_with_byte-cons c first (next ∷ others) = ap (λ (xs : List ℕ). first ++ c ∷ xs) (join_with_byte-cons c next others)

-- the places that a short text leaves free
pub places_left : (n : ℕ) → n ≤ 3 → take (3 - n) (drop {A = ℕ} n (32 ∷ 32 ∷ 32 ∷ [])) ≡ replicate (3 - n) 32
places_left zero h = refl
places_left (suc zero) h = refl
places_left (suc (suc zero)) h = refl
places_left (suc (suc (suc zero))) h = refl
places_left (suc (suc (suc (suc n)))) h = absurd (omega arith)

-- a first text, and those behind it, each after a blank
pub spaced : (old : List ℕ) (first : Bor (List ℕ)) (others : List (Bor (List ℕ))) (n : ℕ) → length others ≤ n
    → (old ++ first.now) ++ flat_map (λ text. 32 ∷ text.now) (take n others) ≡ old ++ join_with_byte 32 (map (λ text. text.now) (first ∷ others))
spaced old first others n le =
    rw (take_all n others le, join_with_byte-cons 32 first.now (map (λ (text : Bor (List ℕ)). text.now) others), flat_map-map (λ (text : List ℕ). 32 ∷ text) (λ (text : Bor (List ℕ)). text.now) others)
    (append_assoc old first.now (flat_map (λ (text : Bor (List ℕ)). 32 ∷ text.now) others))

-- what is written piece by piece
pub in_a_row : (old a b c d e f g : List ℕ) → old ++ a ++ b ++ c ++ d ++ e ++ f ++ g ≡ old ++ (a ++ b ++ c ++ d ++ e ++ f ++ g)
in_a_row old a b c d e f g = simp append_assoc
