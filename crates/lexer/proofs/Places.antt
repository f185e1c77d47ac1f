-- One place behind another.
use Rattle.std.proofs.Common.{◌≡◌, ℕ, ◌+◌, ◌≤◌, Bool, true, false, List, [], ◌∷◌, ◌++◌, length, length-append, ap, sym, arith, refl, ◌∙◌, append_assoc, add-zero, zero-add, cond, ◌<◌, ◌≢◌, Option, Some, None}
use Rattle.std.specs.Prelude.{◌==◌}
use mir.Val.{bool_byte}
use Rattle.std.proofs.lemmas.Bool.{eqb-true}
use Rattle.std.proofs.lemmas.List.Sums.{sum_by-append}
use Rattle.lexer.specs.Characters.{is_of, run_of, behind_run}
use Rattle.lexer.specs.Tokens.{behind, is_quoted, quoted}
use Rattle.lexer.specs.Places.{IsBehind, line_feeds}
use Rattle.lexer.specs.declared.characters.Class.{Class}
use Rattle.lexer.specs.declared.cursor.Cursor.{Cursor}
use Rattle.lexer.specs.declared.characters.Class.TheVariants.{Space, Name, BareName, Path, Value, Comment}

-- a line feed is of no class
no_line_feed : (class : Class) → is_of class 10 ≡ false
no_line_feed Space = refl
no_line_feed Name = refl
no_line_feed BareName = refl
no_line_feed Path = refl
no_line_feed Value = refl
no_line_feed Comment = refl

other_than_line_feed : (class : Class) (b : ℕ) → is_of class b ≡ true → (b == 10) ≡ false
other_than_line_feed class b e = go (b == 10) refl
  where
    go : (t : Bool) → (b == 10) ≡ t → t ≡ false
    go true f = let same = eqb-true b 10 f in let clash : is_of class 10 ≡ true = ap (is_of class) (sym same) ∙ e in let no = no_line_feed class in cc
    go false f = refl

feeds_more : (b : ℕ) (run : List ℕ) → (b == 10) ≡ false → line_feeds run ≡ 0 → line_feeds (b ∷ run) ≡ 0
feeds_more b run e none = rw e (omega arith)

run_step : (class : Class) (b : ℕ) (run : List ℕ) (t : Bool) → is_of class b ≡ t → line_feeds run ≡ 0 → line_feeds (cond t (b ∷ run) []) ≡ 0
run_step class b run true e none = feeds_more b run (other_than_line_feed class b e) none
run_step class b run false e none = refl

pub line_feeds-run : (class : Class) (bytes : List ℕ) → line_feeds (run_of class bytes) ≡ 0
line_feeds-run class [] = refl
line_feeds-run class (b ∷ bytes) = run_step class b (run_of class bytes) (is_of class b) refl (line_feeds-run class bytes)

pub line_feeds-append : (a b : List ℕ) → line_feeds (a ++ b) ≡ line_feeds a + line_feeds b
line_feeds-append a b = sum_by-append (λ x. cond (x == 10) 1 0) a b

-- behind a run of a class
pub behind_a_run : (class : Class) (before after : Cursor) → before.rest.now ≡ run_of class before.rest.now ++ after.rest.now → after.line ≡ before.line → IsBehind before after
behind_a_run class before after spelled line = record {
  taken = run_of class before.rest.now;
  spelled = spelled;
  line_is = let none = line_feeds-run class before.rest.now in omega arith;
}

pub behind_none : (before : Cursor) → IsBehind before before
behind_none before = record { taken = []; spelled = refl; line_is = sym (add-zero before.line) }

pub behind_both : (a b c : Cursor) → IsBehind a b → IsBehind b c → IsBehind a c
behind_both a b c first second = record {
  taken = first.taken ++ second.taken;
  spelled = first.spelled ∙ (ap (λ (rest : List ℕ). first.taken ++ rest) second.spelled ∙ sym (append_assoc first.taken second.taken c.rest.now));
  line_is = let feeds = line_feeds-append first.taken second.taken in let x = first.line_is in let y = second.line_is in omega arith;
}

-- nothing is gained on the way
pub behind_length : (a b : Cursor) → IsBehind a b → length b.rest.now ≤ length a.rest.now
behind_length a b behind = rw (behind.spelled) (omega (arith, length-append behind.taken b.rest.now))

-- what follows of places one behind another
pub ruleset placing = (behind_both, behind_length)

-- what a test counts for
pub counted : (test : Bool) → bool_byte test ≡ cond test 1 0
counted true = refl
counted false = refl

-- behind one character
pub behind_byte : (before after : Cursor) (b : ℕ) → before.rest.now ≡ b ∷ after.rest.now → after.line ≡ before.line + cond (b == 10) 1 0 → IsBehind before after
behind_byte before after b spelled line = record { taken = b ∷ []; spelled = spelled; line_is = line ∙ ap (λ (n : ℕ). before.line + n) (sym (zero-add (cond (b == 10) 1 0))) }

-- a byte that was stripped stood there
stripped_step : (wanted b : ℕ) (bytes rest : List ℕ) (t : Bool) → (b == wanted) ≡ t → Some rest ≡ cond t (Some bytes) None → b ∷ bytes ≡ wanted ∷ rest
stripped_step wanted b bytes rest true e some = let same = eqb-true b wanted e in cc
stripped_step wanted b bytes rest false e some = absurd (cc)

pub stripped : (wanted : ℕ) (bytes rest : List ℕ) → Some rest ≡ behind wanted bytes → bytes ≡ wanted ∷ rest
stripped wanted [] rest some = absurd (cc)
stripped wanted (b ∷ bytes) rest some = stripped_step wanted b bytes rest (b == wanted) refl some

no_quoted_feed : (b : ℕ) → is_quoted b ≡ true → (b == 10) ≡ false
no_quoted_feed b e = go (b == 10) refl
  where
    go : (t : Bool) → (b == 10) ≡ t → t ≡ false
    go true f = let same = eqb-true b 10 f in let clash : is_quoted 10 ≡ true = ap is_quoted (sym same) ∙ e in let no : is_quoted 10 ≡ false = refl in cc
    go false f = refl

abbrev rest_or : Option (List ℕ × List ℕ) → List ℕ → List ℕ
rest_or None other = other
rest_or (Some parts) other = parts.1

quoted_step : (b : ℕ) (bytes sign rest : List ℕ) (t : Bool) → is_quoted b ≡ t → ◌≡◌ {A = Option (List ℕ × List ℕ)} (Some (sign, rest)) (cond t (Some (b ∷ [], bytes)) None) → (c : ℕ) × (b ∷ bytes ≡ c ∷ rest) × ((c == 10) ≡ false)
quoted_step b bytes sign rest true e some = let same : rest ≡ bytes = ap (λ (o : Option (List ℕ × List ℕ)). rest_or o bytes) some in (b, cc, no_quoted_feed b e)
quoted_step b bytes sign rest false e some = absurd (cc)

quoted_is : (bytes sign rest : List ℕ) → ◌≡◌ {A = Option (List ℕ × List ℕ)} (Some (sign, rest)) (quoted bytes) → (c : ℕ) × (bytes ≡ c ∷ rest) × ((c == 10) ≡ false)
quoted_is [] sign rest some = absurd (cc)
quoted_is (b ∷ bytes) sign rest some = quoted_step b bytes sign rest (is_quoted b) refl some

-- behind a space, a colon or a dollar
pub behind_quoted : (before after : Cursor) (sign : List ℕ) → ◌≡◌ {A = Option (List ℕ × List ℕ)} (Some (sign, after.rest.now)) (quoted before.rest.now) → after.line ≡ before.line → IsBehind before after
behind_quoted before after sign some line =
    let found = quoted_is before.rest.now sign after.rest.now some in
    let none = feeds_more found.0 [] found.2 refl in record {
      taken = found.0 ∷ [];
      spelled = found.1;
      line_is = omega arith;
    }

-- what stands behind a run of some characters is shorter
behind_run_length : (class : Class) (bytes : List ℕ) → length (behind_run class bytes) ≤ length bytes
behind_run_length class [] = omega arith
behind_run_length class (b ∷ bytes) = let less = behind_run_length class bytes in go (is_of class b) less
  where
    go : (t : Bool) → length (behind_run class bytes) ≤ length bytes → length (cond t (behind_run class bytes) (b ∷ bytes)) ≤ length (b ∷ bytes)
    go true less = omega arith
    go false less = omega arith

pub run_shorter : (class : Class) (bytes : List ℕ) → run_of class bytes ≢ [] → length (behind_run class bytes) < length bytes
run_shorter class [] some = absurd (some refl)
run_shorter class (b ∷ bytes) some = go (is_of class b) (behind_run_length class bytes) some
  where
    go : (t : Bool) → length (behind_run class bytes) ≤ length bytes → cond t (b ∷ run_of class bytes) [] ≢ [] → length (cond t (behind_run class bytes) (b ∷ bytes)) < length (b ∷ bytes)
    go true less some = omega arith
    go false less some = absurd (some refl)

pub empty_run : (run : List ℕ) → (length run == 0) ≡ true → run ≡ []
empty_run [] e = refl
empty_run (b ∷ run) e = let none = eqb-true (length (b ∷ run)) 0 e in absurd (omega arith)

pub some_run : (run : List ℕ) → (length run == 0) ≡ false → run ≢ []
some_run run e none = let clash : (length run == 0) ≡ true = ap (λ (xs : List ℕ). length xs == 0) none in cc

pub behind_run_shorter : (class : Class) (bytes run rest : List ℕ) → run ≡ run_of class bytes → rest ≡ behind_run class bytes → (length run == 0) ≡ false → length rest < length bytes
behind_run_shorter class bytes run rest is_run is_rest some = rw is_rest (run_shorter class bytes (λ none. some_run run some (is_run ∙ none)))
