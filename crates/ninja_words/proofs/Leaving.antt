-- Texts without escapes, and what is left of others.
use Rattle.std.proofs.Common.{◌≡◌, ◌==◌, ◌||◌, ℕ, Bool, true, false, List, [], ◌∷◌, ◌++◌, if◌then◌else◌, refl, sym, ap, ◌∙◌}
use Rattle.std.specs.List.{list_any}
use Rattle.std.proofs.lemmas.List.Folds.{list_any-append}
use Rattle.std.proofs.lemmas.Bool.{false≢true}
use Rattle.ninja_words.specs.declared.escapes.Escape.{Escape}
use Rattle.ninja_words.specs.declared.escapes.Escape.TheVariants.{Outside, Opened, Inside}
use Rattle.ninja_words.specs.Escapes.{behind, behind_all, kept, left}

abbrev pub has_escape : List ℕ → Bool
has_escape text = list_any (λ byte. byte == 27) text

-- ---- a text without ESC is left as it is

same_after : (b : Bool) (x : ℕ) (xs : List ℕ) → (b || has_escape xs) ≡ false
    → (has_escape xs ≡ false → left Outside xs ≡ xs)
    → (if b then [] else x ∷ []) ++ left (if b then Opened else Outside) xs ≡ x ∷ xs
same_after true x xs none rest = absurd (false≢true (sym none))
same_after false x xs none rest = ap (λ (l : List ℕ). x ∷ l) (rest none)

pub same : (text : List ℕ) → has_escape text ≡ false → left Outside text ≡ text
same [] none = refl
same (x ∷ xs) none = same_after (x == 27) x xs none (same xs)

outside_after : (b : Bool) (xs : List ℕ) → (b || has_escape xs) ≡ false
    → (has_escape xs ≡ false → behind_all Outside xs ≡ Outside)
    → behind_all (if b then Opened else Outside) xs ≡ Outside
outside_after true xs none rest = absurd (false≢true (sym none))
outside_after false xs none rest = rest none

pub stays_outside : (text : List ℕ) → has_escape text ≡ false → behind_all Outside text ≡ Outside
stays_outside [] none = refl
stays_outside (x ∷ xs) none = outside_after (x == 27) xs none (stays_outside xs)

-- ---- no ESC is left

one_outside : (b : Bool) (x : ℕ) → (x == 27) ≡ b → has_escape (if b then [] else x ∷ []) ≡ false
one_outside true x is = refl
one_outside false x is = ap (λ (b : Bool). b || false) is

one_opened : (b d : Bool) (x : ℕ) → (x == 27) ≡ b → has_escape (if b || d then [] else x ∷ []) ≡ false
one_opened true d x is = refl
one_opened false true x is = refl
one_opened false false x is = ap (λ (b : Bool). b || false) is

one_kept : (escape : Escape) (x : ℕ) → has_escape (kept escape x) ≡ false
one_kept Outside x = one_outside (x == 27) x refl
one_kept Opened x = one_opened (x == 27) (x == 91) x refl
one_kept Inside x = refl

neither : (a b : Bool) → a ≡ false → b ≡ false → (a || b) ≡ false
neither true b left_no right_no = left_no
neither false b left_no right_no = right_no

pub none_left : (escape : Escape) (text : List ℕ) → has_escape (left escape text) ≡ false
none_left escape [] = refl
none_left escape (x ∷ xs) =
    list_any-append (λ byte. byte == 27) (kept escape x) (left (behind escape x) xs)
    ∙ neither (has_escape (kept escape x)) (has_escape (left (behind escape x) xs)) (one_kept escape x) (none_left (behind escape x) xs)
