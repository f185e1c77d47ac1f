-- The word that stands first, put together from its pieces.
use Rattle.std.proofs.Common.{◌≡◌, ℕ, ◌+◌, ◌-◌, Bool, true, false, List, [], ◌∷◌, ◌++◌, length, map, take, arith, ap, sym, ◌∙◌, refl, append_assoc, length-append, Result, Ok, Err, OnOk, is_ok, if◌then◌else◌}
use Rattle.std.proofs.lemmas.List.{map-append}
use Rattle.std.proofs.Math.Seq.{take-append_seam}
use Rattle.depfile.specs.declared.pieces.Piece.{Piece}
use Rattle.depfile.specs.declared.pieces.Piece.TheVariants.{Plain, Escaped, Colon}
use Rattle.depfile.specs.declared.words.Word.{Word}
use Rattle.depfile.specs.Signs.{Sign, signs, spelled, character}
use Rattle.depfile.specs.Signs.Sign.{letter, colon, blank, newline}
use Rattle.depfile.specs.Depfile.{is_some_word, ends_with_colon}
use Rattle.depfile.specs.Pieces.{IsPiece, NoWord, is_end, is_itself, is_colon, signs_of}
use Rattle.depfile.specs.Words.{IsWord, AreOfWord, WordSoFar, is_of_word, front_word, behind_word}

-- ---- what is pushed onto a text

pub on_pushed : {E : Type 0} (r : Result (Unit {0}) E) (new old text spelt : List ℕ) → new ≡ (if is_ok r then old ++ text else old) → text ≡ spelt → OnOk r (new ≡ old ++ spelt)
on_pushed (Ok u) new old text spelt is same = is ∙ ap (λ (xs : List ℕ). old ++ xs) same
on_pushed (Err e) new old text spelt is same = tt

pub on_pushed_twice : {E : Type 0} (r : Result (Unit {0}) E) (new between old text more spelt : List ℕ) → between ≡ old ++ text → new ≡ (if is_ok r then between ++ more else between) → text ++ more ≡ spelt → OnOk r (new ≡ old ++ spelt)
on_pushed_twice (Ok u) new between old text more spelt first is same = is ∙ ap (λ (xs : List ℕ). xs ++ more) first ∙ append_assoc old text more ∙ ap (λ (xs : List ℕ). old ++ xs) same
on_pushed_twice (Err e) new between old text more spelt first is same = tt

-- ---- signs of words

pub of_word-append : (word more : List Sign) → AreOfWord word → AreOfWord more → AreOfWord (word ++ more)
of_word-append [] more first second = second
of_word-append (sign ∷ word) more first second = (first.0, of_word-append word more first.1 second)

letters_of_word : (text : List ℕ) → AreOfWord (map letter text)
letters_of_word [] = tt
letters_of_word (b ∷ text) = (refl, letters_of_word text)

pub piece_of_word : (piece : Piece) → AreOfWord (signs_of piece)
piece_of_word (Plain text) = letters_of_word text.now
piece_of_word (Escaped backslashes sign) = letters_of_word (backslashes.now ++ sign.now)
piece_of_word Colon = (refl, tt)

letters_end : (text : List ℕ) → ends_with_colon (map letter text) ≡ false
letters_end [] = refl
letters_end (b ∷ []) = refl
letters_end (b ∷ c ∷ text) = letters_end (c ∷ text)

pub piece_ends : (piece : Piece) → ends_with_colon (signs_of piece) ≡ is_colon piece
piece_ends (Plain text) = letters_end text.now
piece_ends (Escaped backslashes sign) = letters_end (backslashes.now ++ sign.now)
piece_ends Colon = refl

-- the end of a word is that of its last piece
ends-append : (word more : List Sign) → is_some_word more ≡ true → ends_with_colon (word ++ more) ≡ ends_with_colon more
ends-append [] more some = refl
ends-append (sign ∷ []) [] some = absurd (cc)
ends-append (sign ∷ []) (next ∷ more) some = refl
ends-append (sign ∷ next ∷ word) more some = ends-append (next ∷ word) more some

some-append : (word more : List Sign) → is_some_word word ≡ true → is_some_word (word ++ more) ≡ true
some-append [] more some = absurd (cc)
some-append (sign ∷ word) more some = refl

-- a word up to where none goes on is the one that stands first
pub front_is : (word rest : List Sign) → AreOfWord word → is_end rest ≡ true → (front_word (word ++ rest) ≡ word) × (behind_word (word ++ rest) ≡ rest)
front_is [] [] all ends = (refl, refl)
front_is [] (letter b ∷ rest) all ends = absurd (cc)
front_is [] (colon ∷ rest) all ends = absurd (cc)
front_is [] (blank ∷ rest) all ends = (refl, refl)
front_is [] (newline ∷ rest) all ends = (refl, refl)
front_is (sign ∷ word) rest all ends =
    let more = front_is word rest all.1 ends in (
      rw all.0 (ap (λ (xs : List Sign). sign ∷ xs) more.0),
      rw all.0 more.1,
    )

-- ---- a word so far

pub word_begins : (text rest : List ℕ) (piece : Piece) → IsPiece text piece rest → WordSoFar text rest (is_itself piece) (is_colon piece)
word_begins text rest piece is = record {
  word = signs_of piece;
  taken = is.taken;
  written = is.written;
  signs_are = is.signs_are;
  all = piece_of_word piece;
  some = is.some;
  plain = is.itself;
  colon_is = sym (piece_ends piece);
  shorter = is.shorter;
}

pub word_goes_on : (text between rest : List ℕ) (piece : Piece) (is_plain with_colon still_plain now_colon : Bool) → WordSoFar text between is_plain with_colon → IsPiece between piece rest
    → (still_plain ≡ true → (is_plain ≡ true) × (is_itself piece ≡ true)) → now_colon ≡ is_colon piece → WordSoFar text rest still_plain now_colon
word_goes_on text between rest piece is_plain with_colon still_plain now_colon far is both colon_now = record {
  word = far.word ++ signs_of piece;
  taken = far.taken ++ is.taken;
  written = far.written ∙ ap (λ (xs : List ℕ). far.taken ++ xs) is.written ∙ sym (append_assoc far.taken is.taken rest);
  signs_are = far.signs_are ∙ ap (λ (xs : List Sign). far.word ++ xs) is.signs_are ∙ sym (append_assoc far.word (signs_of piece) (signs rest));
  all = of_word-append far.word (signs_of piece) far.all (piece_of_word piece);
  some = some-append far.word (signs_of piece) far.some;
  plain = λ still. let tells = both still in
      ap (λ (xs : List ℕ). xs ++ is.taken) (far.plain tells.0) ∙ ap (λ (xs : List ℕ). spelled far.word ++ xs) (is.itself tells.1) ∙ sym (map-append character far.word (signs_of piece));
  colon_is = colon_now ∙ sym (piece_ends piece) ∙ sym (ends-append far.word (signs_of piece) is.some);
  shorter = let a = far.shorter in let b = is.shorter in omega arith;
}

-- the front of a text that is cut where the rest begins
pub cut_front : (text taken rest : List ℕ) → text ≡ taken ++ rest → take (length text - length rest) text ≡ taken
cut_front text taken rest is =
    let counted : length text ≡ length taken + length rest = ap length is ∙ length-append taken rest in
    let less : length text - length rest ≡ length taken = omega arith in
    ap (λ (n : ℕ). take n text) less ∙ ap (take (length taken)) is ∙ take-append_seam taken rest

pub word_ends : (text rest : List ℕ) (word : Word) → word.from.now ≡ text → word.written.now ≡ take (length text - length rest) text → WordSoFar text rest word.is_plain word.ends_with_colon → NoWord rest → IsWord text word rest
word_ends text rest word begins cut far none =
    let parts = front_is far.word (signs rest) far.all none.ends in
    let front : front_word (signs text) ≡ far.word = ap front_word far.signs_are ∙ parts.0 in
    record {
      begins = begins;
      some = ap is_some_word front ∙ far.some;
      behind = sym (ap behind_word far.signs_are ∙ parts.1);
      colon = far.colon_is ∙ sym (ap ends_with_colon front);
      plain = λ plain. cut ∙ cut_front text far.taken rest far.written ∙ far.plain plain ∙ sym (ap spelled front);
      shorter = far.shorter;
    }

-- ---- what a word spells so far

pub record SpeltSoFar (text rest spelt : List ℕ) : Type 0 where
  pub word : List Sign
  pub signs_are : signs text ≡ word ++ signs rest
  pub all : AreOfWord word
  pub spelt_is : spelt ≡ spelled word

pub spelt_goes_on : (text between rest old new : List ℕ) (piece : Piece) → SpeltSoFar text between old → IsPiece between piece rest → new ≡ old ++ spelled (signs_of piece) → SpeltSoFar text rest new
spelt_goes_on text between rest old new piece far is pushed = record {
  word = far.word ++ signs_of piece;
  signs_are = far.signs_are ∙ ap (λ (xs : List Sign). far.word ++ xs) is.signs_are ∙ sym (append_assoc far.word (signs_of piece) (signs rest));
  all = of_word-append far.word (signs_of piece) far.all (piece_of_word piece);
  spelt_is = pushed ∙ ap (λ (xs : List ℕ). xs ++ spelled (signs_of piece)) far.spelt_is ∙ sym (map-append character far.word (signs_of piece));
}

pub spelt_ends : (text rest spelt : List ℕ) → SpeltSoFar text rest spelt → NoWord rest → spelt ≡ spelled (front_word (signs text))
spelt_ends text rest spelt far none = far.spelt_is ∙ ap spelled (sym (ap front_word far.signs_are ∙ (front_is far.word (signs rest) far.all none.ends).0))

-- ---- a text is its first word and what stands behind it

pub front_behind : (text : List Sign) → front_word text ++ behind_word text ≡ text
front_behind [] = refl
front_behind (sign ∷ text) = by (is_of_word sign) refl (front_behind text)
  where
    by : (is : Bool) → is_of_word sign ≡ is → front_word text ++ behind_word text ≡ text → front_word (sign ∷ text) ++ behind_word (sign ∷ text) ≡ sign ∷ text
    by true e more = rw e (ap (λ (xs : List Sign). sign ∷ xs) more)
    by false e more = rw e refl

pub front_of_word : (text : List Sign) → AreOfWord (front_word text)
front_of_word [] = tt
front_of_word (letter b ∷ text) = (refl, front_of_word text)
front_of_word (colon ∷ text) = (refl, front_of_word text)
front_of_word (blank ∷ text) = tt
front_of_word (newline ∷ text) = tt

pub behind_ends : (text : List Sign) → is_end (behind_word text) ≡ true
behind_ends [] = refl
behind_ends (letter b ∷ text) = behind_ends text
behind_ends (colon ∷ text) = behind_ends text
behind_ends (blank ∷ text) = refl
behind_ends (newline ∷ text) = refl
