-- Spaces, values and paths have at most one reading.
use Rattle.std.proofs.Common.{◌≡◌, ℕ, Bool, true, false, List, ap, sym, ◌∙◌, subst, Some, None, ◌⊎◌, inl, inr}
use Rattle.lexer.specs.declared.fault.FaultKind.{FaultKind}
use Rattle.lexer.specs.declared.characters.Class.{Class}
use Rattle.lexer.specs.declared.characters.Class.TheVariants as class
use Rattle.lexer.specs.Characters.{behind_run}
use Rattle.lexer.specs.Grammar.{Outcome, Is, Give, Then, IsItem, Many, IsUnique}
use Rattle.lexer.specs.Grammar.Outcome.{Reached, Broken}
use Rattle.lexer.specs.Tokens.{join, piece, ends}
use Rattle.lexer.specs.Values.{AreBlanks, Blanks, joined, Pieces, OfValue, OfPath, PathAndBlanks, ends_paths, Paths}
use Rattle.lexer.specs.Values.AreBlanks.{last, more}
use Rattle.lexer.proofs.Reading.{is_unique, give_unique, then_unique, row_unique, broken_both}

-- where a row stops: at its end, or at an item that is stuck
StopsRow : {X : Type 0} → (List ℕ → Outcome X → Type 0) → (List ℕ → Bool) → List ℕ → Type 0
StopsRow One ends place = (ends place ≡ true) ⊎ ((kind : FaultKind) × (rest : List ℕ) × One place (Broken kind rest))

item_one : {X : Type 0} (One : List ℕ → Outcome X → Type 0) (ends : List ℕ → Bool) → IsUnique One → (i j : X) (a b c : List ℕ) → IsItem One ends i a b → IsItem One ends j a c → (i ≡ j) × (b ≡ c)
item_one One ends one i j a b c x y = let same = one a (Reached i b) (Reached j c) x.1 y.1 in (cc, cc)

item_none : {X : Type 0} (One : List ℕ → Outcome X → Type 0) (ends : List ℕ → Bool) → IsUnique One → (i : X) (a b : List ℕ) → IsItem One ends i a b → StopsRow One ends a → ⊥
unfolding StopsRow
item_none One ends one i a b x (inl stop) = let clash : true ≡ false = sym stop ∙ x.0 in cc
item_none One ends one i a b x (inr stop) = let clash = one a (Reached i b) (Broken stop.0 stop.1) x.1 stop.2 in cc

pub many_unique : {X : Type 0} (One : List ℕ → Outcome X → Type 0) (stops : List ℕ → Bool) → IsUnique One → IsUnique (Many One stops)
unfolding StopsRow
many_unique One stops one bytes (Reached xs b) (Reached ys c) x y =
    let same = row_unique (IsItem One stops) (StopsRow One stops) (item_one One stops one) (item_none One stops one) xs ys bytes b c x.0 (inl x.1) y.0 (inl y.1) in
    let items = same.0 in let rest = same.1 in cc
many_unique One stops one bytes (Reached xs b) (Broken l s) x y =
    let same = row_unique (IsItem One stops) (StopsRow One stops) (item_one One stops one) (item_none One stops one) xs y.0 bytes b y.1 x.0 (inl x.1) y.2 (inr (l, s, y.4)) in
    let rest = same.1 in let clash : true ≡ false = sym x.1 ∙ (ap stops rest ∙ y.3) in cc
many_unique One stops one bytes (Broken k r) (Reached ys c) x y =
    let same = row_unique (IsItem One stops) (StopsRow One stops) (item_one One stops one) (item_none One stops one) x.0 ys bytes x.1 c x.2 (inr (k, r, x.4)) y.0 (inl y.1) in
    let rest = same.1 in let clash : true ≡ false = sym y.1 ∙ (ap stops (sym rest) ∙ x.3) in cc
many_unique {X = X} One stops one bytes (Broken k r) (Broken l s) x y =
    let same = row_unique (IsItem One stops) (StopsRow One stops) (item_one One stops one) (item_none One stops one) x.0 y.0 bytes x.1 y.1 x.2 (inr (k, r, x.4)) y.2 (inr (l, s, y.4)) in
    broken_both X (List X) k l r s (one x.1 (Broken k r) (Broken l s) x.4 (subst (λ (p : List ℕ). One p (Broken l s)) (sym same.1) y.4))

-- the same place, with more to read and with no more
never_joined : {C : Type 0} (place next : List ℕ) → join place ≡ Some next → join place ≡ None → C
never_joined place next some none = let clash = sym some ∙ none in absurd (cc)

are_blanks_unique : (bytes r s : List ℕ) → AreBlanks bytes r → AreBlanks bytes s → r ≡ s
are_blanks_unique bytes r s (last e none) (last f nothing) = sym e ∙ f
are_blanks_unique bytes r s (last e none) (more {next = n} some blanks) = never_joined (behind_run class.Space bytes) n some (ap join e ∙ none)
are_blanks_unique bytes r s (more {next = n} some blanks) (last e none) = never_joined (behind_run class.Space bytes) n some (ap join e ∙ none)
are_blanks_unique bytes r s (more {next = n} some blanks) (more {next = m} other blanks_too) =
    let same : Some n ≡ Some m = sym some ∙ other in
    let next : n ≡ m = cc in
    are_blanks_unique n r s blanks (subst (λ (p : List ℕ). AreBlanks p s) (sym next) blanks_too)

pub blanks_unique : IsUnique Blanks
blanks_unique bytes (Reached u r) (Reached v s) x y = let same = are_blanks_unique bytes r s x y in ap (λ (p : List ℕ). Reached tt p) same
blanks_unique bytes (Reached u r) (Broken l s) x y = absurd y
blanks_unique bytes (Broken k r) b x y = absurd x

pub pieces_unique : (class : Class) → IsUnique (Pieces class)
pieces_unique class = then_unique (Many (Is (piece class)) (ends class)) (λ all. Give (joined all)) (many_unique (Is (piece class)) (ends class) (is_unique (piece class))) (λ all. give_unique (joined all))

pub value_unique : IsUnique OfValue
value_unique = pieces_unique class.Value

pub path_unique : IsUnique OfPath
path_unique = pieces_unique class.Path

path_and_blanks_unique : IsUnique PathAndBlanks
path_and_blanks_unique = then_unique OfPath (λ path. Then Blanks (λ _. Give path)) path_unique (λ path. then_unique Blanks (λ _. Give path) blanks_unique (λ _. give_unique path))

pub paths_unique : IsUnique Paths
paths_unique = then_unique Blanks (λ _. Many PathAndBlanks ends_paths) blanks_unique (λ _. many_unique PathAndBlanks ends_paths path_and_blanks_unique)
