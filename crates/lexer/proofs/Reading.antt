-- Faults of parts are faults of the whole, and grammars of which each part has at most one reading have one.
use Rattle.std.proofs.Common.{◌≡◌, ℕ, Bool, true, false, List, [], ◌∷◌, ◌++◌, ap, sym, arith, refl, ◌∙◌, append_assoc, subst}
use Rattle.lexer.specs.declared.cursor.Cursor.{Cursor}
use Rattle.lexer.specs.declared.fault.FaultKind.{FaultKind}
use Rattle.lexer.specs.declared.stop.Stop.{Stop}
use Rattle.lexer.specs.declared.stop.Stop.TheVariants.{Memory, Found}
use Rattle.lexer.specs.Grammar.{Outcome, Is, Give, Then, Either, AreInRow, IsItem, Many, IsUnique}
use Rattle.lexer.specs.Grammar.Outcome.{Reached, Broken}
use Rattle.lexer.specs.Grammar.Then.{goes_on, is_stuck}
use Rattle.lexer.specs.Places.{IsBehind, Breaks}
use Rattle.lexer.specs.Tokens.{fault_at, unexpected}
use Rattle.lexer.proofs.Places.{line_feeds-append}

-- ---- faults

-- the first part is stuck
pub breaks_first : {X Y : Type 0} (First : List ℕ → Outcome X → Type 0) (Next : X → List ℕ → Outcome Y → Type 0) (a : Cursor) (stop : Stop) → Breaks First a stop → Breaks (Then First Next) a stop
breaks_first First Next a Memory stops = tt
breaks_first First Next a (Found fault) stops = record { taken = stops.taken; rest = stops.rest; spelled = stops.spelled; reads = is_stuck stops.reads; line_is = stops.line_is }

-- the first part is read, and what follows is stuck
pub breaks_next : {X Y : Type 0} (First : List ℕ → Outcome X → Type 0) (Next : X → List ℕ → Outcome Y → Type 0) (value : X) (a b : Cursor) (stop : Stop) → First a.rest.now (Reached value b.rest.now) → IsBehind a b → Breaks (Next value) b stop → Breaks (Then First Next) a stop
breaks_next First Next value a b Memory reads behind stops = tt
breaks_next First Next value a b (Found fault) reads behind stops = record {
  taken = behind.taken ++ stops.taken;
  rest = stops.rest;
  spelled = behind.spelled ∙ (ap (λ (rest : List ℕ). behind.taken ++ rest) stops.spelled ∙ sym (append_assoc behind.taken stops.taken stops.rest));
  reads = goes_on reads stops.reads;
  line_is = let feeds = line_feeds-append behind.taken stops.taken in let x = behind.line_is in let y = stops.line_is in omega arith;
}

-- some items of a row are read, and the next one is stuck
pub breaks_many : {X : Type 0} (One : List ℕ → Outcome X → Type 0) (ends : List ℕ → Bool) (items : List X) (a b : Cursor) (stop : Stop) → AreInRow (IsItem One ends) items a.rest.now b.rest.now → IsBehind a b → ends b.rest.now ≡ false → Breaks One b stop → Breaks (Many One ends) a stop
breaks_many One ends items a b Memory row behind open_end stops = tt
breaks_many One ends items a b (Found fault) row behind open_end stops = record {
  taken = behind.taken ++ stops.taken;
  rest = stops.rest;
  spelled = behind.spelled ∙ (ap (λ (rest : List ℕ). behind.taken ++ rest) stops.spelled ∙ sym (append_assoc behind.taken stops.taken stops.rest));
  reads = (items, b.rest.now, row, open_end, stops.reads);
  line_is = let feeds = line_feeds-append behind.taken stops.taken in let x = behind.line_is in let y = stops.line_is in omega arith;
}

-- the fault stands here, by computing
pub breaks_here : {X : Type 0} (reading : List ℕ → Outcome X) (a : Cursor) (kind : FaultKind) → reading a.rest.now ≡ Broken kind a.rest.now → Breaks (Is reading) a (Found (record { line = a.line; kind = kind }))
breaks_here reading a kind e = record { taken = []; rest = a.rest.now; spelled = refl; reads = sym e; line_is = omega arith }

-- ---- rows

pub row_more : {X S : Type 0} (Stands : X → S → S → Type 0) (items : List X) (item : X) (a b c : S) → AreInRow Stands items a b → Stands item b c → AreInRow Stands (items ++ item ∷ []) a c
row_more Stands [] item a b c row stands = (c, subst (λ (s : _). Stands item s c) (sym row) stands, refl)
row_more Stands (first ∷ items) item a b c row stands = (row.0, row.1, row_more Stands items item row.0 b c row.2 stands)

-- ---- one reading

pub is_unique : {X : Type 0} (reading : List ℕ → Outcome X) → IsUnique (Is reading)
is_unique reading bytes a b first second = first ∙ sym second

pub give_unique : {X : Type 0} (value : X) → IsUnique (Give value)
give_unique value bytes a b first second = first ∙ sym second

reached_both : {X : Type 0} (x y : X) (r s : List ℕ) → Reached x r ≡ Reached y s → (x ≡ y) × (r ≡ s)
reached_both x y r s e = (cc, cc)

never_both : {X : Type 0} {C : Type 0} (x : X) (r s : List ℕ) (kind : FaultKind) → Reached x r ≡ Broken kind s → C
never_both x r s kind e = absurd (cc)

abbrev pub broken_as : (X : Type 0) (k : FaultKind) (r : List ℕ) → Outcome X
broken_as X k r = Broken k r

pub broken_both : (X Y : Type 0) (k l : FaultKind) (r s : List ℕ) → broken_as X k r ≡ broken_as X l s → broken_as Y k r ≡ broken_as Y l s
broken_both X Y k l r s e = let kind : k ≡ l = cc in let rest : r ≡ s = cc in cc

pub then_unique : {X Y : Type 0} (First : List ℕ → Outcome X → Type 0) (Next : X → List ℕ → Outcome Y → Type 0) → IsUnique First → ((x : X) → IsUnique (Next x)) → IsUnique (Then First Next)
then_unique First Next one next bytes a b (goes_on {value = x} {next = r} f n) (goes_on {value = y} {next = s} g m) =
    let same = reached_both x y r s (one bytes (Reached x r) (Reached y s) f g) in
    next x r a b n (subst (λ (v : _). Next v r b) (sym same.0) (subst (λ (t : List ℕ). Next y t b) (sym same.1) m))
then_unique First Next one next bytes a b (goes_on {value = x} {next = r} f n) (is_stuck {kind = kind} {rest = s} g) = never_both x r s kind (one bytes (Reached x r) (Broken kind s) f g)
then_unique First Next one next bytes a b (is_stuck {kind = kind} {rest = s} g) (goes_on {value = x} {next = r} f n) = never_both x r s kind (one bytes (Reached x r) (Broken kind s) f g)
then_unique {X = X} {Y = Y} First Next one next bytes a b (is_stuck {kind = k} {rest = r} f) (is_stuck {kind = l} {rest = s} g) =
    broken_both X Y k l r s (one bytes (Broken k r) (Broken l s) f g)

pub either_unique : {X : Type 0} (test : Bool) (First Second : List ℕ → Outcome X → Type 0) → IsUnique First → IsUnique Second → IsUnique (Either test First Second)
either_unique true First Second one two = one
either_unique false First Second one two = two

-- rows that both go as far as they can are the same
pub row_unique : {X S : Type 0} (Stands : X → S → S → Type 0) (Stops : S → Type 0) → ((i j : X) (a b c : S) → Stands i a b → Stands j a c → (i ≡ j) × (b ≡ c)) → ((i : X) (a b : S) → Stands i a b → Stops a → ⊥) → (xs ys : List X) (a b c : S) → AreInRow Stands xs a b → Stops b → AreInRow Stands ys a c → Stops c → (xs ≡ ys) × (b ≡ c)
row_unique Stands Stops one none [] [] a b c x stop_x y stop_y = (refl, sym x ∙ y)
row_unique Stands Stops one none [] (j ∷ ys) a b c x stop_x y stop_y = absurd (none j a y.0 y.1 (subst Stops (sym x) stop_x))
row_unique Stands Stops one none (i ∷ xs) [] a b c x stop_x y stop_y = absurd (none i a x.0 x.1 (subst Stops (sym y) stop_y))
row_unique Stands Stops one none (i ∷ xs) (j ∷ ys) a b c x stop_x y stop_y =
    let same = one i j a x.0 y.0 x.1 y.1 in
    let more = row_unique Stands Stops one none xs ys x.0 b c x.2 stop_x (subst (λ (s : _). AreInRow Stands ys s c) (sym same.1) y.2) stop_y in
    (cc, more.1)

-- what a call of `unexpected` answers
pub breaks_unexpected : {X : Type 0} (reading : List ℕ → Outcome X) (a : Cursor) (stop : Stop) → stop ≡ Found (record { line = a.line; kind = fault_at a.rest.now }) → reading a.rest.now ≡ unexpected a.rest.now → Breaks (Is reading) a stop
breaks_unexpected reading a stop found e = subst (λ (s : Stop). Breaks (Is reading) a s) (sym found) (breaks_here reading a (fault_at a.rest.now) e)
