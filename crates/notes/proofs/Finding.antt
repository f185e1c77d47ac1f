-- Two paths of a list that stand one after the other.
use Rattle.std.proofs.Common.{◌≡◌, ℕ, zero, suc, ◌<◌, List, [], ◌∷◌, ◌++◌, length, get_or, refl, sym, ap, ◌∙◌, arith}
use Rattle.std.proofs.lemmas.List.{get_or_default}

pub two_of : (xs : List (List ℕ)) (k : ℕ) → suc k < length xs → (before after : List (List ℕ)) × (xs ≡ before ++ get_or xs k [] ∷ get_or xs (suc k) [] ∷ after)
two_of [] k lt = absurd (omega (arith, lt))
two_of (x ∷ []) k lt = absurd (omega (arith, lt))
two_of (x ∷ y ∷ xs) zero lt = ([], xs, refl)
two_of (x ∷ y ∷ xs) (suc k) lt = let rest = two_of (y ∷ xs) k (omega (arith, lt)) in (x ∷ rest.0, rest.1, ap (λ (l : List (List ℕ)). x ∷ l) rest.2)

-- two paths that were read at a place and right before it
pub joined : (round : List (List ℕ)) (k place : ℕ) (output input before after : List ℕ) → place ≡ suc k → place < length round
    → before ≡ get_or round k before → after ≡ get_or round place after → output ≡ before → input ≡ after
    → (front back : List (List ℕ)) × (round ≡ front ++ output ∷ input ∷ back)
joined round k place output input before after at lt first second same_output same_input =
    let two = two_of round k (omega (arith, at, lt)) in
    let one : get_or round k [] ≡ output = get_or_default round k [] before (omega (arith, at, lt)) ∙ (sym first ∙ sym same_output) in
    let next : get_or round (suc k) [] ≡ input =
    get_or_default round (suc k) [] after (omega (arith, at, lt)) ∙ (ap (λ (n : ℕ). get_or round n after) (sym at) ∙ (sym second ∙ sym same_input)) in
    (two.0, two.1, two.2 ∙ (ap (λ (x : List ℕ). two.0 ++ x ∷ get_or round (suc k) [] ∷ two.1) one ∙ ap (λ (y : List ℕ). two.0 ++ output ∷ y ∷ two.1) next))
