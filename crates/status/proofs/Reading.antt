-- How a pattern's text is read, part by part.
use Rattle.std.proofs.Common.{◌≡◌, ◌≢◌, ℕ, List, [], ◌∷◌, ◌++◌, Option, Some, None, ◌==◌, if◌then◌else◌, refl, sym, ap, ◌∙◌, subst, append_assoc}
use Rattle.status.specs.declared.part.Placeholder.{Placeholder}
use Rattle.status.specs.declared.part.Placeholder.TheVariants.{Started, Total, Percentage, Running, Unstarted, Finished, Sign}
use Rattle.status.specs.declared.part.Part.{Part}
use Rattle.status.specs.declared.part.Part.TheVariants.{Plain, Shown}
use Rattle.status.specs.Pattern.{letter, spelling, spelled, BeginsWithPlaceholder, NoneIsMissed, IsPatternOf}

-- a plain part is no placeholder's, if none begins where it stands
abbrev pub IsRightly : Part → List ℕ → Type 0
IsRightly part text = (byte : ℕ) → part ≡ Plain byte → ¬ BeginsWithPlaceholder text

pub nothing : IsPatternOf [] []
nothing = record { written = refl; none_is_missed = tt }

-- one part more in front of those of the rest
pub in_front : (part : Part) (text after : List ℕ) (more : List Part) → text ≡ spelling part ++ after → IsRightly part text → IsPatternOf after more → IsPatternOf text (part ∷ more)
in_front (Plain byte) text after more e rightly rest = record {
  written = e ∙ ap (λ (xs : List ℕ). byte ∷ xs) rest.written;
  none_is_missed = (λ begins. rightly byte refl (subst BeginsWithPlaceholder (sym (e ∙ ap (λ (xs : List ℕ). byte ∷ xs) rest.written)) begins), rest.none_is_missed);
}
in_front (Shown placeholder) text after more e rightly rest = record {
  written = e ∙ ap (λ (xs : List ℕ). 37 ∷ letter placeholder ∷ xs) rest.written;
  none_is_missed = rest.none_is_missed;
}

-- ---- a text is read in one way

abbrev pub placeholder_of : ℕ → Option Placeholder
placeholder_of byte =
    if byte == 115 then Some Started else if byte == 116 then Some Total else if byte == 112 then Some Percentage else if byte == 114 then Some Running else if byte == 117 then Some Unstarted else if byte == 102 then Some Finished else if byte == 37 then Some Sign else None

of_letter : (placeholder : Placeholder) → placeholder_of (letter placeholder) ≡ Some placeholder
of_letter Started = refl
of_letter Total = refl
of_letter Percentage = refl
of_letter Running = refl
of_letter Unstarted = refl
of_letter Finished = refl
of_letter Sign = refl

one_letter : (one other : Placeholder) → letter one ≡ letter other → one ≡ other
one_letter one other e =
    let same : Some one ≡ Some other = sym (of_letter one) ∙ (ap placeholder_of e ∙ of_letter other) in
    cc

one_spelling : (one other : List Part) → spelled one ≡ spelled other → NoneIsMissed one → NoneIsMissed other → one ≡ other
one_spelling [] [] e x y = refl
one_spelling [] (Plain byte ∷ other) e x y = cc
one_spelling [] (Shown placeholder ∷ other) e x y = cc
one_spelling (Plain byte ∷ one) [] e x y = cc
one_spelling (Shown placeholder ∷ one) [] e x y = cc
one_spelling (Plain a ∷ one) (Plain b ∷ other) e x y =
    let first : a ≡ b = cc in
    let rest : spelled one ≡ spelled other = cc in
    let same : one ≡ other = one_spelling one other rest x.1 y.1 in
    cc
one_spelling (Plain a ∷ one) (Shown placeholder ∷ other) e x y = absurd (x.0 (placeholder, spelled other, e))
one_spelling (Shown placeholder ∷ one) (Plain b ∷ other) e x y = absurd (y.0 (placeholder, spelled one, sym e))
one_spelling (Shown a ∷ one) (Shown b ∷ other) e x y =
    let first : letter a ≡ letter b = cc in
    let rest : spelled one ≡ spelled other = cc in
    let named : a ≡ b = one_letter a b first in
    let same : one ≡ other = one_spelling one other rest x y in
    cc

pub one_pattern : (text : List ℕ) (one other : List Part) → IsPatternOf text one → IsPatternOf text other → one ≡ other
one_pattern text one other x y = one_spelling one other (sym x.written ∙ y.written) x.none_is_missed y.none_is_missed
