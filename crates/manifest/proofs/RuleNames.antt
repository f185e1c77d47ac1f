-- The name of a rule.
use Rattle.std.proofs.Common.{◌≡◌, ℕ, zero, suc, List, [], ◌∷◌, Option, Some, None, get_or, slice_get, refl, sym, ap, ◌∙◌, subst}
use Rattle.std.specs.Option.{option_map, unwrap_or}
use Rattle.std.specs.Map.Iter.{deref}
use denote.Ref.{Bor}

got : (texts : List (List ℕ)) (n : ℕ) → get_or texts n [] ≡ unwrap_or (slice_get texts n) []
got [] n = refl
got (x ∷ texts) zero = refl
got (x ∷ texts) (suc n) = got texts n

told : (o : Option (Bor (List ℕ))) (other : Bor (List ℕ)) → other.now ≡ [] → (unwrap_or o other).now ≡ unwrap_or (option_map deref o) []
told None other none = none
told (Some text) other none = refl

-- what is told of a number, and nothing where it has no text
pub text_or : (o : Option (Bor (List ℕ))) (other text : Bor (List ℕ)) (texts : List (List ℕ)) (n : ℕ) → option_map deref o ≡ slice_get texts n → other.now ≡ [] → text ≡ unwrap_or o other → text.now ≡ get_or texts n []
text_or o other text texts n at none is =
    ap (λ (b : Bor (List ℕ)). b.now) is ∙ (told o other none ∙ (ap (λ (m : Option (List ℕ)). unwrap_or m []) at ∙ sym (got texts n)))
