-- A record that names one output.
use Rattle.std.proofs.Common.{◌≡◌, ℕ, true, false, List, [], ◌∷◌, ◌++◌, not, sym, ap, ◌∙◌}
use Rattle.std.specs.Str.{bytes_eq}
use Rattle.std.proofs.lemmas.Bool.{not-false}
use Rattle.std.proofs.lemmas.Slice.Eq.{bytes_eq-Decides}
use Rattle.log_text.specs.Line.{field_and_tab}
use Rattle.seen.specs.Told.{BeginsWithOne, NamesOne}

pub one_of : (bytes count named output rest : List ℕ) → bytes ≡ field_and_tab count ++ named → named ≡ field_and_tab output ++ rest → false ≡ not (bytes_eq count (49 ∷ [])) → NamesOne output bytes
one_of bytes count named output rest e f one =
    let count_is : count ≡ 49 ∷ [] = (bytes_eq-Decides count (49 ∷ [])).0 (not-false (bytes_eq count (49 ∷ [])) (sym one)) in
    (rest, e ∙ (ap (λ (c : List ℕ). field_and_tab c ++ named) count_is ∙ ap (λ (l : List ℕ). field_and_tab (49 ∷ []) ++ l) f))

pub begins_so : (letter : ℕ) (line kind counted output : List ℕ) → line ≡ field_and_tab kind ++ counted → true ≡ bytes_eq kind (letter ∷ []) → NamesOne output counted → BeginsWithOne letter output line
begins_so letter line kind counted output e is names =
    let kind_is : kind ≡ letter ∷ [] = (bytes_eq-Decides kind (letter ∷ [])).0 (sym is) in
    (counted, e ∙ ap (λ (k : List ℕ). field_and_tab k ++ counted) kind_is, names)
