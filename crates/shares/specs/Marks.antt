-- Texts cut at marks.
use Rattle.std.specs.Prelude.{ℕ, ◌==◌, Bool, List, [], ◌∷◌, ◌++◌, drop, length, Option, Some, None, option_map, is_some, nat_eq, if◌then◌else◌}
use Rattle.std.specs.List.{starts_with}
use denote.Ref.{Bor}

-- the bytes of two slices
abbrev pub both : Bor (List ℕ) × Bor (List ℕ) → List ℕ × List ℕ
both parts = (parts.0.now, parts.1.now)

-- the same two parts with more in front
abbrev pub in_front : List ℕ → List ℕ × List ℕ → List ℕ × List ℕ
in_front front parts = (front ++ parts.0, parts.1)

-- what stands before the first place where the mark stands, and what stands behind the mark there
abbrev pub cut : List ℕ → List ℕ → Option (List ℕ × List ℕ)
cut mark [] = None
cut mark (b ∷ text) =
    if starts_with nat_eq (b ∷ text) mark then Some ([], drop (length mark) (b ∷ text))
    else option_map (in_front (b ∷ [])) (cut mark text)

-- the mark stands somewhere in the text
abbrev pub has : List ℕ → List ℕ → Bool
has mark text = is_some (cut mark text)

-- the text without the blanks in front
abbrev pub skip_blanks : List ℕ → List ℕ
skip_blanks [] = []
skip_blanks (b ∷ text) = if b == 32 then skip_blanks text else b ∷ text
