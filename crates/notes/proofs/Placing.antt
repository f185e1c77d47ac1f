-- Events of other jobs, and what is kept of a list.
use Rattle.std.proofs.Common.{◌≡◌, ◌∙◌, ◌+◌, ◌<◌, ℕ, Bool, true, false, not, List, [], ◌∷◌, ◌++◌, drop, filter, get_or, length, if◌then◌else◌, sym, ap}
use Rattle.std.proofs.lemmas.List.{append_assoc, drop_more}
use Rattle.model.specs.declared.event.Event.{Event}
use Rattle.notes.specs.Ahead.{is_of}

-- it is no event of the job
abbrev pub is_other : Bool → ℕ → Event → Bool
is_other ends job event = not (is_of ends job event)

-- one item more was looked at, and kept where it passes
pub kept_on : {X : Type 0} (passes : X → Bool) (xs found new : List X) (i : ℕ) (d : X) (is : Bool)
    → i < length xs → is ≡ passes (get_or xs i d) → found ++ filter passes (drop i xs) ≡ filter passes xs
    → new ≡ found ++ (if is then get_or xs i d ∷ [] else []) → new ++ filter passes (drop (i + 1) xs) ≡ filter passes xs
kept_on {X} passes xs found new i d is within same was now = by is same now
  where
    rest : List X
    rest = filter passes (drop (i + 1) xs)

    split : filter passes (drop i xs) ≡ (if passes (get_or xs i d) then get_or xs i d ∷ rest else rest)
    split = ap (filter passes) (drop_more xs i d within)

    by : (b : Bool) → b ≡ passes (get_or xs i d) → new ≡ found ++ (if b then get_or xs i d ∷ [] else []) → new ++ rest ≡ filter passes xs
    by true same now =
        let kept : filter passes (drop i xs) ≡ get_or xs i d ∷ rest = split ∙ ap (λ (b : Bool). if b then get_or xs i d ∷ rest else rest) (sym same) in
        ap (λ (l : List X). l ++ rest) now ∙ (append_assoc found (get_or xs i d ∷ []) rest ∙ (ap (λ (l : List X). found ++ l) (sym kept) ∙ was))
    by false same now =
        let left : filter passes (drop i xs) ≡ rest = split ∙ ap (λ (b : Bool). if b then get_or xs i d ∷ rest else rest) (sym same) in
        ap (λ (l : List X). l ++ rest) now ∙ (append_assoc found [] rest ∙ (ap (λ (l : List X). found ++ l) (sym left) ∙ was))
