-- Which piece of a word stands first.
use Rattle.std.proofs.Common.{◌≡◌, ℕ, ◌+◌, ◌-◌, ◌<◌, ◌≤◌, ◌/◌, ◌%◌, ◌==◌, cond, Bool, true, false, List, [], ◌∷◌, ◌++◌, length, map, take, drop, arith, ap, sym, ◌∙◌, refl, append_assoc, append-nil, length-append, length-take-le, length-drop, take-append-drop, Option, Some, None, is_some, option_and_then, option_map, eqb-true, eq-eqb, Bor}
use Prim.Native.Nat.{suc}
use Rattle.std.proofs.lemmas.List.{map-append, take-append-le, drop-append-le}
use Rattle.std.specs.Option.{option_or}
use Rattle.depfile.specs.declared.pieces.Piece.{Piece}
use Rattle.depfile.specs.declared.pieces.Piece.TheVariants.{Plain, Escaped, Colon}
use Rattle.depfile.specs.Signs.{Sign, characters, backslashes, before_newline, is_escaped, behind_backslashes, signs_behind, signs}
use Rattle.depfile.specs.Signs.Sign.{letter, blank, newline}
use Rattle.depfile.specs.Pieces.{AllBackslashes, IsPiece, IsEscape, IsSeparated, if_there, behind, newline_of, separator_of}
use Rattle.depfile.proofs.Escapes.{behind_is, not_behind, newline_characters, newline_shorter, characters_alone, characters_first, IsLone, lone_behind, run_signs, run_letters, front_letters, all_drop, spelled_letters, some_letters}

-- ---- pieces

pub same_piece : (text : List ℕ) (run : Bor (List ℕ)) (rest : List ℕ) → text ≡ run.now ++ rest → 0 < length run.now → signs text ≡ map letter run.now ++ signs rest → IsPiece text (Plain run) rest
same_piece text run rest is some reads = record {
  taken = run.now;
  written = is;
  signs_are = reads;
  some = some_letters run.now some;
  itself = λ same. sym (spelled_letters run.now);
  shorter = let long : length text ≡ length run.now + length rest = ap length is ∙ length-append run.now rest in omega arith;
}

pub escaped_piece : (text : List ℕ) (piece : Piece) (rest kept sign : List ℕ) → IsEscape piece kept sign → (taken : List ℕ) → text ≡ taken ++ rest → 0 < length taken → 0 < length sign → signs text ≡ map letter (kept ++ sign) ++ signs rest → IsPiece text piece rest
escaped_piece text (Plain run) rest kept sign is taken written long some reads = absurd is
escaped_piece text Colon rest kept sign is taken written long some reads = absurd is
escaped_piece text (Escaped front character) rest kept sign is taken written long some reads = record {
  taken = taken;
  written = written;
  signs_are = reads ∙ ap (λ (xs : List ℕ). map letter xs ++ signs rest) (sym both);
  some = some_letters (front.now ++ character.now) (let counted : length (front.now ++ character.now) ≡ length kept + length sign = ap length both ∙ length-append kept sign in omega arith);
  itself = λ same. absurd (cc);
  shorter = let counted : length text ≡ length taken + length rest = ap length written ∙ length-append taken rest in omega arith;
}
  where
    both : front.now ++ character.now ≡ kept ++ sign
    both = ap (λ (xs : List ℕ). xs ++ character.now) is.0 ∙ ap (λ (xs : List ℕ). kept ++ xs) is.1

-- ---- what an option tells

pub some_of : (found : Option (Bor (List ℕ))) (there : Option (List ℕ)) → option_map (λ rest. rest.now) found ≡ there → true ≡ is_some found → (rest : List ℕ) × (there ≡ Some rest)
some_of (Some rest) there is some = (rest.now, sym is)
some_of None there is some = absurd (cc)

pub none_of : (found : Option (Bor (List ℕ))) (there : Option (List ℕ)) → option_map (λ rest. rest.now) found ≡ there → false ≡ is_some found → there ≡ None
none_of (Some rest) there is none = absurd (cc)
none_of None there is none = sym is

pub or_none : {X : Type 0} (first second : Option X) → option_or first second ≡ None → (first ≡ None) × (second ≡ None)
or_none None second e = (refl, e)
or_none (Some x) second e = absurd (cc)

-- ---- a run of backslashes

-- the signs of a run and of a character behind it that is not a backslash
run_then : (run after more : List ℕ) (b : ℕ) → AllBackslashes run → (b == 92) ≡ false → characters after ≡ b ∷ more → signs (run ++ after) ≡ behind_backslashes (length run) b ++ signs_behind 0 more
run_then run after more b all other is = run_signs run after all ∙ ap (signs_behind (length run)) is ∙ rw other refl

pub even_run : (run after rest : List ℕ) → AllBackslashes run → after ≡ 32 ∷ rest → length run % 2 ≡ 0 → signs (run ++ after) ≡ map letter run ++ signs after
even_run run after rest all is even =
    let there : characters after ≡ 32 ∷ characters rest = ap characters is ∙ characters_alone 32 rest refl refl in
    let here : signs after ≡ blank ∷ signs rest = ap (signs_behind 0) there in
    let tells : (length run % 2 == 0) ≡ true = eq-eqb (length run % 2) 0 even in
    run_then run after (characters rest) 32 all refl there
    ∙ ap (λ (b : Bool). cond b (backslashes (length run) ++ blank ∷ []) (backslashes (length run / 2) ++ letter 32 ∷ []) ++ signs rest) tells
    ∙ append_assoc (backslashes (length run)) (blank ∷ []) (signs rest)
    ∙ ap (λ (xs : List Sign). xs ++ (blank ∷ signs rest)) (sym (run_letters run all))
    ∙ ap (λ (xs : List Sign). map letter run ++ xs) (sym here)

half_fits : (n : ℕ) → n / 2 ≤ n
half_fits n = omega arith

pub odd_run : (run after rest : List ℕ) → AllBackslashes run → after ≡ 32 ∷ rest → (length run % 2 ≡ 0 → ⊥) → signs (run ++ after) ≡ map letter (take (length run / 2) run ++ 32 ∷ []) ++ signs rest
odd_run run after rest all is odd =
    let there : characters after ≡ 32 ∷ characters rest = ap characters is ∙ characters_alone 32 rest refl refl in
    run_then run after (characters rest) 32 all refl there
    ∙ ap (λ (b : Bool). cond b (backslashes (length run) ++ blank ∷ []) (backslashes (length run / 2) ++ letter 32 ∷ []) ++ signs rest) (by (length run % 2 == 0) refl)
    ∙ ap (λ (xs : List Sign). (xs ++ letter 32 ∷ []) ++ signs rest) (sym (front_letters (length run / 2) run (half_fits (length run)) all))
    ∙ ap (λ (xs : List Sign). xs ++ signs rest) (sym (map-append letter (take (length run / 2) run) (32 ∷ [])))
  where
    by : (is_even : Bool) → (length run % 2 == 0) ≡ is_even → (length run % 2 == 0) ≡ false
    by true e = absurd (odd (eqb-true (length run % 2) 0 e))
    by false e = e

-- the last backslash is that of an escaped character
pub escape_run : (run after rest : List ℕ) (b : ℕ) → AllBackslashes run → 0 < length run → after ≡ b ∷ rest → (b == 13) ≡ false → (b == 36) ≡ false → (b == 92) ≡ false → (b == 32) ≡ false → (b == 10) ≡ false → is_escaped b ≡ true
    → signs (run ++ after) ≡ map letter (take (length run - 1) run ++ b ∷ []) ++ signs rest
escape_run [] after rest b all some is cr dollar backslash space lf escaped = absurd (omega arith)
escape_run (c ∷ run) after rest b all some is cr dollar backslash space lf escaped =
    let less : length (c ∷ run) - 1 ≡ length run = omega arith in
    run_then (c ∷ run) after (characters rest) b all backslash (ap characters is ∙ characters_alone b rest cr dollar)
    ∙ rw (space, lf, escaped) refl
    ∙ ap (λ (xs : List Sign). (xs ++ letter b ∷ []) ++ signs rest) (sym (front_letters (length run) (c ∷ run) (omega arith) all))
    ∙ ap (λ (xs : List Sign). xs ++ signs rest) (sym (map-append letter (take (length run) (c ∷ run)) (b ∷ [])))
    ∙ ap (λ (k : ℕ). map letter (take k (c ∷ run) ++ b ∷ []) ++ signs rest) (sym less)

-- a run before a newline is more than the one backslash that joins lines
pub run_of_many : (run after rest : List ℕ) → AllBackslashes run → 0 < length run → newline_of after ≡ Some rest → separator_of (run ++ after) ≡ None → 1 < length run
run_of_many [] after rest all some is apart = absurd (omega arith)
run_of_many (b ∷ c ∷ run) after rest all some is apart = omega arith
run_of_many (b ∷ []) after rest all some is apart =
    let backslash : b ≡ 92 = eqb-true b 92 all.0 in
    let there : separator_of (92 ∷ after) ≡ None = ap (λ (x : ℕ). separator_of (x ∷ after)) (sym backslash) ∙ apart in
    absurd (let some : Some (blank, rest) ≡ None = rw is at there in cc)

one_left : (run : List ℕ) → 1 < length run → length (drop (length run - 1) run) ≡ 1
one_left run many = let counted = length-drop (length run - 1) run in omega arith

pub joined_run : (run after rest : List ℕ) → AllBackslashes run → 1 < length run → newline_of after ≡ Some rest → signs (run ++ after) ≡ map letter (take (length run - 1) run) ++ signs (drop (length run - 1) run ++ after)
joined_run run after rest all many is = by run all many refl
  where
    there : characters after ≡ 10 ∷ characters rest
    there = newline_characters after rest is

    last : (end : List ℕ) → AllBackslashes end → length end ≡ 1 → signs (end ++ after) ≡ blank ∷ signs rest
    last end ends one = run_then end after (characters rest) 10 ends refl there ∙ ap (λ (n : ℕ). before_newline n ++ signs rest) one

    by : (same : List ℕ) → AllBackslashes same → 1 < length same → run ≡ same → signs (run ++ after) ≡ map letter (take (length run - 1) run) ++ signs (drop (length run - 1) run ++ after)
    by [] backs long e = absurd (omega arith)
    by (b ∷ same) backs long e =
        let counted : length run ≡ suc (length same) = ap length e in
        let less : length run - 1 ≡ length same = omega arith in
        run_then run after (characters rest) 10 all refl there
        ∙ ap (λ (n : ℕ). before_newline n ++ signs rest) counted
        ∙ append_assoc (backslashes (length same)) (blank ∷ []) (signs rest)
        ∙ ap (λ (n : ℕ). backslashes n ++ (blank ∷ signs rest)) (sym less)
        ∙ ap (λ (xs : List Sign). xs ++ (blank ∷ signs rest)) (sym (front_letters (length run - 1) run (omega arith) all))
        ∙ ap (λ (xs : List Sign). map letter (take (length run - 1) run) ++ xs) (sym (last (drop (length run - 1) run) (all_drop (length run - 1) run all) (one_left run many)))

-- behind the run stands nothing that is escaped
pub lone_run : (run after : List ℕ) → AllBackslashes run → behind 92 after ≡ None → behind 32 after ≡ None → newline_of after ≡ None → behind 35 after ≡ None → behind 58 after ≡ None → signs (run ++ after) ≡ map letter run ++ signs after
lone_run run [] all backslash space lf sharp part = run_signs run [] all ∙ sym (run_letters run all) ∙ sym (append-nil (map letter run))
lone_run run (b ∷ after) all backslash space lf sharp part =
    let first = characters_first b after lf in
    let other : (b == 92) ≡ false = not_behind 92 b after backslash in
    let no_sharp : (b == 35) ≡ false = not_behind 35 b after sharp in
    let no_colon : (b == 58) ≡ false = not_behind 58 b after part in
    let lone : IsLone b = record {
      space = not_behind 32 b after space;
      lf = not_behind 10 b after (or_none (behind 10 (b ∷ after)) (option_and_then (behind 10) (behind 13 (b ∷ after))) lf).0;
      sharp_colon = rw (no_sharp, no_colon) refl;
    } in
    let here : signs (b ∷ after) ≡ behind_backslashes 0 b ++ signs_behind 0 first.0 = ap (signs_behind 0) first.1 ∙ rw other refl in
    run_then run (b ∷ after) first.0 b all other first.1
    ∙ ap (λ (xs : List Sign). xs ++ signs_behind 0 first.0) (lone_behind (length run) b lone)
    ∙ append_assoc (backslashes (length run)) (behind_backslashes 0 b) (signs_behind 0 first.0)
    ∙ ap (λ (xs : List Sign). xs ++ (behind_backslashes 0 b ++ signs_behind 0 first.0)) (sym (run_letters run all))
    ∙ ap (λ (xs : List Sign). map letter run ++ xs) (sym here)

-- ---- what is taken

-- the run and the byte behind it
pub longer : (text run after rest : List ℕ) (b : ℕ) → text ≡ run ++ after → after ≡ b ∷ rest → (text ≡ (run ++ b ∷ []) ++ rest) × (0 < length (run ++ b ∷ []))
longer text run after rest b is there = (
  is ∙ ap (λ (xs : List ℕ). run ++ xs) there ∙ sym (append_assoc run (b ∷ []) rest),
  let counted = length-append run (b ∷ []) in omega arith,
)

-- the text cut before the last of a run
pub cut_run : (text run after : List ℕ) → text ≡ run ++ after → 1 < length run
    → (text ≡ take (length run - 1) text ++ drop (length run - 1) text) × (0 < length (take (length run - 1) text))
    × (take (length run - 1) text ≡ take (length run - 1) run) × (drop (length run - 1) text ≡ drop (length run - 1) run ++ after)
cut_run text run after is many =
    let front : take (length run - 1) text ≡ take (length run - 1) run = ap (take (length run - 1)) is ∙ take-append-le (length run - 1) run after (omega arith) in (
      sym (take-append-drop (length run - 1) text),
      rw (front, length-take-le (length run - 1) run (omega arith)) (omega arith),
      front,
      ap (drop (length run - 1)) is ∙ drop-append-le (length run - 1) run after (omega arith),
    )

-- ---- characters that stand alone

pub colon_piece : (text rest : List ℕ) → text ≡ 58 ∷ rest → IsPiece text Colon rest
colon_piece text rest is = record {
  taken = 58 ∷ [];
  written = is;
  signs_are = ap signs is ∙ ap (signs_behind 0) (characters_alone 58 rest refl refl);
  some = refl;
  itself = λ same. refl;
  shorter = rw is (omega arith);
}

pub dollars_signs : (text rest : List ℕ) → text ≡ 36 ∷ 36 ∷ rest → signs text ≡ letter 36 ∷ signs rest
dollars_signs text rest is = ap signs is

pub dollar_signs : (text rest : List ℕ) → text ≡ 36 ∷ rest → behind 36 rest ≡ None → signs text ≡ letter 36 ∷ signs rest
dollar_signs text rest is alone = ap signs is ∙ ap (signs_behind 0) (first rest alone)
  where
    first : (rest : List ℕ) → behind 36 rest ≡ None → characters (36 ∷ rest) ≡ 36 ∷ characters rest
    first [] alone = refl
    first (c ∷ rest) alone = let other : (c == 36) ≡ false = not_behind 36 c rest alone in rw other refl

pub cr_signs : (text rest : List ℕ) → text ≡ 13 ∷ rest → newline_of text ≡ None → signs text ≡ letter 13 ∷ signs rest
cr_signs text rest is none = ap signs is ∙ ap (signs_behind 0) (first rest (rw is at none))
  where
    first : (rest : List ℕ) → newline_of (13 ∷ rest) ≡ None → characters (13 ∷ rest) ≡ 13 ∷ characters rest
    first [] none = refl
    first (c ∷ rest) none = let other : (c == 10) ≡ false = not_behind 10 c rest none in rw other refl

pub no_newline : (text : List ℕ) → separator_of text ≡ None → newline_of text ≡ None
no_newline text apart = mapped (newline_of text) (or_none (if_there newline (newline_of text)) _ (or_none (if_there blank (behind 9 text)) _ (or_none (if_there blank (behind 32 text)) _ apart).1).1).0
  where
    mapped : (there : Option (List ℕ)) → if_there newline there ≡ None → there ≡ None
    mapped None e = refl
    mapped (Some rest) e = absurd (cc)

-- ---- separators

pub newline_begins : (text rest : List ℕ) → newline_of text ≡ Some rest → IsSeparated text newline rest
newline_begins text rest e = record {
  signs_are = ap (signs_behind 0) (newline_characters text rest e);
  shorter = newline_shorter text rest e;
}

pub join_begins : (text more rest : List ℕ) → behind 92 text ≡ Some more → newline_of more ≡ Some rest → IsSeparated text blank rest
join_begins text more rest e f = let is = behind_is 92 text more e in let less = newline_shorter more rest f in record {
  signs_are = ap signs is ∙ ap (signs_behind 0) (characters_alone 92 more refl refl) ∙ ap (signs_behind 1) (newline_characters more rest f);
  shorter = let counted : length text ≡ length (92 ∷ more) = ap length is in omega arith;
}

-- ---- where no word stands
