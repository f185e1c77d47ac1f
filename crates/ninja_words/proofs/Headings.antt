-- A text and its parts.
use Rattle.std.proofs.Common.{◌≡◌, ℕ, List, [], ◌∷◌, ◌++◌, append-nil, append_assoc, flat_map, refl, sym, ap, ◌∙◌, subst}
use Rattle.std.proofs.lemmas.Grind.{flat_map-append}
use Rattle.ninja_words.specs.Heading.{IsHeadingOf, spelled}
use Rattle.ninja_words.specs.declared.heading.Part.{Part}

-- one part more
pub more_parts : (text : List ℕ) (parts new : List Part) (rest : List ℕ) (part : Part) (behind : List ℕ) → text ≡ flat_map spelled parts ++ rest → rest ≡ spelled part ++ behind → new ≡ parts ++ part ∷ [] → text ≡ flat_map spelled new ++ behind
more_parts text parts new rest part behind is cut pushed =
    is
    ∙ (ap (λ (l : List ℕ). flat_map spelled parts ++ l) cut
    ∙ (sym (append_assoc (flat_map spelled parts) (spelled part) behind)
    ∙ ap (λ (l : List ℕ). l ++ behind)
    (ap (λ (l : List ℕ). flat_map spelled parts ++ l) (sym (append-nil (spelled part)))
    ∙ (sym (flat_map-append spelled parts (part ∷ [])) ∙ ap (flat_map spelled) (sym pushed))
    )))

-- nothing is left
pub no_more : (text : List ℕ) (parts : List Part) (rest : List ℕ) → text ≡ flat_map spelled parts ++ rest → rest ≡ [] → IsHeadingOf text parts
no_more text parts rest is none = is ∙ (ap (λ (l : List ℕ). flat_map spelled parts ++ l) none ∙ append-nil (flat_map spelled parts))
