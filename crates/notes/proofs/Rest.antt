-- What is left of a text, behind what was read of it.
use Rattle.std.proofs.Common.{◌≡◌, ◌∙◌, ℕ, List, [], ◌∷◌, ◌++◌, ap, sym}
use Rattle.std.proofs.lemmas.List.{append_assoc}

-- a line more was read
pub read_on : (log before rest line after : List ℕ) → log ≡ before ++ rest → rest ≡ line ++ 10 ∷ after
    → (more : List ℕ) × (log ≡ more ++ after)
read_on log before rest line after is found =
    (before ++ (line ++ 10 ∷ []), is ∙ ap (λ (left : List ℕ). before ++ left) (found ∙ sym (append_assoc line (10 ∷ []) after)) ∙ sym (append_assoc before (line ++ 10 ∷ []) after))
