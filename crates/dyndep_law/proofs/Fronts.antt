-- What stands behind the smallest parts of a line is the end of the text that they stand in.
use Rattle.std.proofs.Common.{◌≡◌, ℕ, suc, ◌<◌, Bool, true, false, List, [], ◌∷◌, length, Option, Some, None, refl, sym, ◌∙◌, ap, arith}
use Rattle.std.specs.Prelude.{◌==◌}
use Rattle.lexer.specs.declared.characters.Class.{Class}
use Rattle.lexer.specs.declared.characters.Class.TheVariants as class
use Rattle.lexer.specs.declared.tokens.Mark.{Mark}
use Rattle.lexer.specs.Characters.{is_of, run_of, behind_run}
use Rattle.lexer.specs.Grammar.{Outcome, Is}
use Rattle.lexer.specs.Grammar.Outcome.{Reached}
use Rattle.lexer.specs.Said.{Fragment}
use Rattle.lexer.specs.Said.Fragment.{literal, expansion}
use Rattle.lexer.specs.Tokens.{behind, newline, join, is_quoted, quoted, braced, bare, names, signs, joins, escape, token, one, line_end, named, name, piece_of, piece, word_end, begins_path, mark_behind, mark}
use Rattle.dyndep_law.proofs.Answered.{Ends, ends_itself, ends_both, no_longer, place_of, Under, Answer, Takes, Total, is_answered}

-- what stands behind something, and is shorter for it
pub record Behind (bytes rest : List ℕ) : Type 0 where
  pub ends : Ends bytes rest
  pub shorter : length rest < length bytes

behind_first : (b : ℕ) (bytes rest : List ℕ) → Ends bytes rest → Behind (b ∷ bytes) rest
behind_first b bytes rest ends = record {
  ends = record { taken = b ∷ ends.taken; spelled = ap (λ (text : List ℕ). b ∷ text) ends.spelled };
  shorter = let within = no_longer ends in omega (arith, within);
}

behind_then : (bytes next rest : List ℕ) → Behind bytes next → Ends next rest → Behind bytes rest
behind_then bytes next rest first ends = record {
  ends = ends_both first.ends ends;
  shorter = let within = no_longer ends in let before = first.shorter in omega (arith, within, before);
}

-- ---- runs, and single characters

pub behind_run_ends : (class : Class) (bytes : List ℕ) → Ends bytes (behind_run class bytes)
behind_run_ends class [] = ends_itself []
behind_run_ends class (b ∷ bytes) = by (is_of class b) refl (behind_run_ends class bytes)
  where
    by : (is : Bool) → is_of class b ≡ is → Ends bytes (behind_run class bytes) → Ends (b ∷ bytes) (behind_run class (b ∷ bytes))
    by true is more = rw is ((behind_first b bytes (behind_run class bytes) more).ends)
    by false is more = rw is (ends_itself (b ∷ bytes))

-- a run of something takes something
some_run_behind : (class : Class) (bytes : List ℕ) (c : ℕ) (run : List ℕ) → run_of class bytes ≡ c ∷ run → Behind bytes (behind_run class bytes)
some_run_behind class [] c run is = let clash : [] ≡ c ∷ run = is in absurd (cc)
some_run_behind class (b ∷ bytes) c run is = by (is_of class b) refl
  where
    by : (passes : Bool) → is_of class b ≡ passes → Behind (b ∷ bytes) (behind_run class (b ∷ bytes))
    by true passes = rw passes (behind_first b bytes (behind_run class bytes) (behind_run_ends class bytes))
    by false passes = let none : [] ≡ run_of class (b ∷ bytes) = rw passes refl in let clash : [] ≡ c ∷ run = none ∙ is in absurd (cc)

behind_one : (wanted : ℕ) (bytes rest : List ℕ) → behind wanted bytes ≡ Some rest → Behind bytes rest
behind_one wanted [] rest is = let clash : None ≡ Some rest = is in absurd (cc)
behind_one wanted (b ∷ bytes) rest is = by (b == wanted) refl
  where
    by : (same : Bool) → (b == wanted) ≡ same → Behind (b ∷ bytes) rest
    by true same =
        let some : Some bytes ≡ behind wanted (b ∷ bytes) = rw same refl in
        let whole : Some bytes ≡ Some rest = some ∙ is in
        let ends : bytes ≡ rest = cc in
        rw ends (behind_first b rest rest (ends_itself rest))
    by false same = let none : None ≡ behind wanted (b ∷ bytes) = rw same refl in let clash : None ≡ Some rest = none ∙ is in absurd (cc)

newline_behind : (bytes rest : List ℕ) → newline bytes ≡ Some rest → Behind bytes rest
newline_behind bytes rest is = by_feed (behind 10 bytes) refl
  where
    by_return : behind 10 bytes ≡ None → (found : Option (List ℕ)) → behind 13 bytes ≡ found → Behind bytes rest
    by_return none (Some more) found = behind_then bytes more rest (behind_one 13 bytes more found) (behind_one 10 more rest (let here : newline bytes ≡ behind 10 more = rw none (rw found refl) in sym here ∙ is)).ends
    by_return none None found = let here : newline bytes ≡ None = rw none (rw found refl) in let clash = sym here ∙ is in absurd (cc)

    by_feed : (found : Option (List ℕ)) → behind 10 bytes ≡ found → Behind bytes rest
    by_feed (Some more) found = behind_one 10 bytes rest (let here : newline bytes ≡ Some more = rw found refl in found ∙ (sym here ∙ is))
    by_feed None found = by_return found (behind 13 bytes) refl

pub join_behind : (bytes rest : List ℕ) → join bytes ≡ Some rest → Behind bytes rest
join_behind bytes rest is = by (behind 36 bytes) refl
  where
    by : (found : Option (List ℕ)) → behind 36 bytes ≡ found → Behind bytes rest
    by (Some more) found = behind_then bytes more rest (behind_one 36 bytes more found) (newline_behind more rest (let here : join bytes ≡ newline more = rw found refl in sym here ∙ is)).ends
    by None found = let here : join bytes ≡ None = rw found refl in let clash = sym here ∙ is in absurd (cc)

-- ---- tokens

-- where what is computed stops, and that it takes something if it is read
pub record Fits {X : Type 0} (n : ℕ) (bytes : List ℕ) (outcome : Outcome X) : Type 0 where
  pub ends : Ends bytes (place_of outcome)
  pub under : Under n outcome

pub fits_answered : {X : Type 0} (reading : List ℕ → Outcome X) (n : ℕ) (bytes : List ℕ) → Fits n bytes (reading bytes) → Answer (Is reading) n bytes
fits_answered reading n bytes fits = is_answered reading n bytes fits.ends fits.under

fits_behind : {X : Type 0} (value : X) (bytes rest : List ℕ) → Behind bytes rest → Fits (length bytes) bytes (Reached value rest)
fits_behind value bytes rest behind = record { ends = behind.ends; under = behind.shorter }

token_fits : (bytes : List ℕ) (found : Option (List ℕ)) → ((rest : List ℕ) → found ≡ Some rest → Behind bytes rest) → Fits (length bytes) bytes (token bytes found)
token_fits bytes (Some rest) is = fits_behind tt bytes rest (is rest refl)
token_fits bytes None is = record { ends = ends_itself bytes; under = tt }

pub one_takes : (wanted : ℕ) → Takes (Is (one wanted))
one_takes wanted bytes = fits_answered (one wanted) (length bytes) bytes (token_fits bytes (behind wanted bytes) (behind_one wanted bytes))

-- the end of the text takes nothing
pub line_end_fits : (n : ℕ) (bytes : List ℕ) → length bytes < suc n → 0 < n → Fits n bytes (line_end bytes)
line_end_fits n [] within some = record { ends = ends_itself []; under = some }
line_end_fits n (b ∷ bytes) within some = by (newline (b ∷ bytes)) refl
  where
    by : (found : Option (List ℕ)) → newline (b ∷ bytes) ≡ found → Fits n (b ∷ bytes) (token (b ∷ bytes) found)
    by (Some rest) is = let here = newline_behind (b ∷ bytes) rest is in let less = here.shorter in record { ends = here.ends; under = omega (arith, within, less) }
    by None is = record { ends = ends_itself (b ∷ bytes); under = tt }

pub line_end_total : Total (Is line_end)
line_end_total bytes = fits_answered line_end (suc (length bytes)) bytes (line_end_fits (suc (length bytes)) bytes (omega arith) (omega arith))

pub name_takes : Takes (Is name)
name_takes bytes = fits_answered name (length bytes) bytes (by (run_of class.Name bytes) refl)
  where
    by : (run : List ℕ) → run_of class.Name bytes ≡ run → Fits (length bytes) bytes (named bytes run (behind_run class.Name bytes))
    by [] is = record { ends = ends_itself bytes; under = tt }
    by (c ∷ run) is = fits_behind (c ∷ run) bytes (behind_run class.Name bytes) (some_run_behind class.Name bytes c run is)

pub word_end_total : Total (Is word_end)
word_end_total bytes = fits_answered word_end (suc (length bytes)) bytes (by (begins_path bytes) refl)
  where
    by : (is : Bool) → begins_path bytes ≡ is → Fits (suc (length bytes)) bytes (word_end bytes)
    by true is = rw is (record { ends = ends_itself bytes; under = tt })
    by false is = rw is (record { ends = ends_itself bytes; under = omega arith })

-- ---- escapes and pieces

abbrev rest_in : Option (List ℕ × List ℕ) → List ℕ → List ℕ
rest_in None other = other
rest_in (Some found) other = found.1

quoted_ends : (bytes sign rest : List ℕ) → ◌≡◌ {A = Option (List ℕ × List ℕ)} (quoted bytes) (Some (sign, rest)) → Ends bytes rest
quoted_ends [] sign rest is = absurd (cc)
quoted_ends (b ∷ bytes) sign rest is = by (is_quoted b) refl
  where
    by : (passes : Bool) → is_quoted b ≡ passes → Ends (b ∷ bytes) rest
    by true passes =
        let here : ◌≡◌ {A = Option (List ℕ × List ℕ)} (quoted (b ∷ bytes)) (Some (b ∷ [], bytes)) = rw passes refl in
        let same : ◌≡◌ {A = Option (List ℕ × List ℕ)} (Some (b ∷ [], bytes)) (Some (sign, rest)) = sym here ∙ is in
        let it : bytes ≡ rest = ap (λ (found : Option (List ℕ × List ℕ)). rest_in found bytes) same in
        rw (sym it) ((behind_first b bytes bytes (ends_itself bytes)).ends)
    by false passes =
        let here : ◌≡◌ {A = Option (List ℕ × List ℕ)} (quoted (b ∷ bytes)) None = rw passes refl in
        let clash : ◌≡◌ {A = Option (List ℕ × List ℕ)} None (Some (sign, rest)) = sym here ∙ is in absurd (cc)

-- a fault of an escape stands at its dollar
module _ (whole bytes : List ℕ) (dollar : Behind whole bytes) where
  fits_within : (value : Option Fragment) (rest : List ℕ) → Ends bytes rest → Fits (length whole) whole (Reached value rest)
  fits_within value rest ends = fits_behind value whole rest (behind_then whole bytes rest dollar ends)

  braced_fits : (run rest : List ℕ) → Ends bytes rest → Fits (length whole) whole (braced whole run rest)
  braced_fits [] rest ends = record { ends = ends_itself whole; under = tt }
  braced_fits (n ∷ run) [] ends = record { ends = ends_itself whole; under = tt }
  braced_fits (n ∷ run) (b ∷ rest) ends = by (b == 125) refl
    where
      by : (is : Bool) → (b == 125) ≡ is → Fits (length whole) whole (braced whole (n ∷ run) (b ∷ rest))
      by true is = rw is (fits_within (Some (expansion (n ∷ run))) rest (ends_both ends (behind_first b rest rest (ends_itself rest)).ends))
      by false is = rw is (record { ends = ends_itself whole; under = tt })

  bare_fits : (run rest : List ℕ) → Ends bytes rest → Fits (length whole) whole (bare whole run rest)
  bare_fits [] rest ends = record { ends = ends_itself whole; under = tt }
  bare_fits (n ∷ run) rest ends = fits_within (Some (expansion (n ∷ run))) rest ends

  names_fits : (found : Option (List ℕ)) → behind 123 bytes ≡ found → Fits (length whole) whole (names whole bytes found)
  names_fits (Some inside) is = braced_fits (run_of class.Name inside) (behind_run class.Name inside) (ends_both (behind_one 123 bytes inside is).ends (behind_run_ends class.Name inside))
  names_fits None is = bare_fits (run_of class.BareName bytes) (behind_run class.BareName bytes) (behind_run_ends class.BareName bytes)

  signs_fits : (found : Option (List ℕ × List ℕ)) → ((sign rest : List ℕ) → found ≡ Some (sign, rest) → Ends bytes rest) → Fits (length whole) whole (signs whole bytes found)
  signs_fits (Some found) is = fits_within (Some (literal found.0)) found.1 (is found.0 found.1 refl)
  signs_fits None is = names_fits (behind 123 bytes) refl

  joins_fits : (found : Option (List ℕ)) → newline bytes ≡ found → Fits (length whole) whole (joins whole bytes found)
  joins_fits (Some next) is = fits_within None (behind_run class.Space next) (ends_both (newline_behind bytes next is).ends (behind_run_ends class.Space next))
  joins_fits None is = signs_fits (quoted bytes) (quoted_ends bytes)

  escape_fits : Fits (length whole) whole (escape whole bytes)
  escape_fits = joins_fits (newline bytes) refl

piece_fits : (bytes run rest : List ℕ) → ((c : ℕ) (more : List ℕ) → run ≡ c ∷ more → Behind bytes rest) → (dollar : Option (List ℕ)) → behind 36 bytes ≡ dollar → Fits (length bytes) bytes (piece_of bytes run rest dollar)
piece_fits bytes (c ∷ run) rest takes dollar is = fits_behind (Some (literal (c ∷ run))) bytes rest (takes c run refl)
piece_fits bytes [] rest takes (Some more) is = escape_fits bytes more (behind_one 36 bytes more is)
piece_fits bytes [] rest takes None is = record { ends = ends_itself bytes; under = tt }

pub piece_takes : (class : Class) → Takes (Is (piece class))
piece_takes class bytes = fits_answered (piece class) (length bytes) bytes (piece_fits bytes (run_of class bytes) (behind_run class bytes) (λ c more is. some_run_behind class bytes c more is) (behind 36 bytes) refl)

-- ---- marks

pub mark_ends : (bytes : List ℕ) (found : Mark × List ℕ) → mark bytes ≡ Some found → Ends bytes found.1
mark_ends bytes found is = by (behind 124 bytes) refl
  where
    by_second : (more : List ℕ) (double : Option (List ℕ)) → behind 124 more ≡ double → (at : Option (List ℕ)) → behind 64 more ≡ at → Ends more (mark_behind double at more).1
    by_second more (Some rest) two at one = (behind_one 124 more rest two).ends
    by_second more None two (Some rest) one = (behind_one 64 more rest one).ends
    by_second more None two None one = ends_itself more

    by : (bar : Option (List ℕ)) → behind 124 bytes ≡ bar → Ends bytes found.1
    by (Some more) bar =
        let here : mark bytes ≡ Some (mark_behind (behind 124 more) (behind 64 more) more) = rw bar refl in
        let same : Some (mark_behind (behind 124 more) (behind 64 more) more) ≡ Some found = sym here ∙ is in
        let it : mark_behind (behind 124 more) (behind 64 more) more ≡ found = cc in
        rw (sym it) (ends_both (behind_one 124 bytes more bar).ends (by_second more (behind 124 more) refl (behind 64 more) refl))
    by None bar = let here : mark bytes ≡ None = rw bar refl in let clash = sym here ∙ is in absurd (cc)
