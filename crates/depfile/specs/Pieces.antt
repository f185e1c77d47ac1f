-- The pieces of a word as they stand, and the words.
use Rattle.std.specs.Prelude.{◌≡◌, ℕ, ◌<◌, ◌==◌, ◌||◌, Bool, true, false, not, cond, List, [], ◌∷◌, ◌++◌, length, map, Option, Some, None, IsSome, ◌⊎◌, option_map, option_and_then}
use Rattle.std.specs.Option.{option_or}
use Rattle.std.specs.List.{AllByRecursion}
use Rattle.depfile.specs.declared.characters.Class.{Class}
use Rattle.depfile.specs.declared.characters.Class.TheVariants as class
use Rattle.depfile.specs.declared.separators.Separator.{Separator}
use Rattle.depfile.specs.declared.separators.Separator.TheVariants as separator
use Rattle.depfile.specs.declared.pieces.Piece.{Piece}
use Rattle.depfile.specs.declared.pieces.Piece.TheVariants.{Plain, Escaped, Colon}
use Rattle.depfile.specs.Signs.{Sign, signs, spelled}
use Rattle.depfile.specs.Signs.Sign.{letter, colon, blank, newline}
use Rattle.depfile.specs.Depfile.{is_some_word}

abbrev pub is_of : Class → ℕ → Bool
is_of class.Plain b = not (b == 9 || b == 10 || b == 13 || b == 32 || b == 36 || b == 58 || b == 92)
is_of class.Backslash b = b == 92

-- the longest front of a class, and what stands behind it
abbrev pub run_of : Class → List ℕ → List ℕ
run_of class [] = []
run_of class (b ∷ text) = cond (is_of class b) (b ∷ run_of class text) []

abbrev pub behind_run : Class → List ℕ → List ℕ
behind_run class [] = []
behind_run class (b ∷ text) = cond (is_of class b) (behind_run class text) (b ∷ text)

abbrev pub AllBackslashes : List ℕ → Type 0
AllBackslashes = AllByRecursion (λ b. (b == 92) ≡ true)

-- what stands behind this byte, if it stands here
abbrev pub behind : ℕ → List ℕ → Option (List ℕ)
behind wanted [] = None
behind wanted (b ∷ text) = cond (b == wanted) (Some text) None

-- what stands behind LF or CR LF, if one stands here
abbrev pub newline_of : List ℕ → Option (List ℕ)
newline_of text = option_or (behind 10 text) (option_and_then (behind 10) (behind 13 text))

abbrev pub if_there : Sign → Option (List ℕ) → Option (Sign × List ℕ)
if_there sign = option_map (λ rest. (sign, rest))

-- the blank, joined line's end or line's end that stands here, and what stands behind it
abbrev pub separator_of : List ℕ → Option (Sign × List ℕ)
separator_of text =
    option_or (if_there blank (behind 32 text)) (
    option_or (if_there blank (behind 9 text)) (
    option_or (if_there newline (newline_of text)) (if_there blank (option_and_then newline_of (behind 92 text)))))

abbrev pub sign_of : Separator → Sign
sign_of separator.Blank = blank
sign_of separator.Newline = newline

abbrev pub signs_of : Piece → List Sign
signs_of (Plain text) = map letter text.now
signs_of (Escaped backslashes sign) = map letter (backslashes.now ++ sign.now)
signs_of Colon = colon ∷ []

-- the piece is written as it is spelled
abbrev pub is_itself : Piece → Bool
is_itself (Plain text) = true
is_itself (Escaped backslashes sign) = false
is_itself Colon = true

abbrev pub is_colon : Piece → Bool
is_colon (Plain text) = false
is_colon (Escaped backslashes sign) = false
is_colon Colon = true

-- the piece that stands first in the text, with this rest behind it
pub record IsPiece (text : List ℕ) (piece : Piece) (rest : List ℕ) : Type 0 where
  pub taken : List ℕ
  pub written : text ≡ taken ++ rest
  pub signs_are : signs text ≡ signs_of piece ++ signs rest
  pub some : is_some_word (signs_of piece) ≡ true
  pub itself : is_itself piece ≡ true → taken ≡ spelled (signs_of piece)
  pub shorter : length rest < length text

-- nothing of a word is the first
abbrev pub is_end : List Sign → Bool
is_end [] = true
is_end (letter b ∷ text) = false
is_end (colon ∷ text) = false
is_end (blank ∷ text) = true
is_end (newline ∷ text) = true

-- no word stands here
pub record NoWord (text : List ℕ) : Type 0 where
  pub ends : is_end (signs text) ≡ true
  pub why : (text ≡ []) ⊎ IsSome (separator_of text)

-- the separator that stands first in the text, with this rest behind it
pub record IsSeparated (text : List ℕ) (sign : Sign) (rest : List ℕ) : Type 0 where
  pub signs_are : signs text ≡ sign ∷ signs rest
  pub shorter : length rest < length text

-- the piece is an escape that stands for these backslashes and this character
abbrev pub IsEscape : Piece → List ℕ → List ℕ → Type 0
IsEscape (Plain text) backslashes sign = ⊥
IsEscape (Escaped kept character) backslashes sign = (kept.now ≡ backslashes) × (character.now ≡ sign)
IsEscape Colon backslashes sign = ⊥
