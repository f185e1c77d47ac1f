-- What the characters of a depfile are for (manual: "Depfile"; which characters are escaped, and how, is this
-- project's own rule).
use Rattle.std.specs.Prelude.{ℕ, ◌/◌, ◌%◌, ◌==◌, ◌&&◌, ◌||◌, Bool, true, false, cond, List, [], ◌∷◌, ◌++◌, map, replicate}
use Prim.Native.Nat.{zero, suc}

-- CR LF is one LF, and two dollars are one
abbrev pub is_pair : ℕ → ℕ → Bool
is_pair b c = (b == 13 && c == 10) || (b == 36 && c == 36)

abbrev pub characters : List ℕ → List ℕ
characters [] = []
characters (b ∷ []) = b ∷ []
characters (b ∷ c ∷ bytes) = cond (is_pair b c) (c ∷ characters bytes) (b ∷ characters (c ∷ bytes))

pub data Sign : Type 0 where
  -- stands in a name
  letter : ℕ → Sign
  -- stands in a name, or parts targets from inputs
  colon : Sign
  -- parts names
  blank : Sign
  -- ends a rule
  newline : Sign

abbrev pub backslashes : ℕ → List Sign
backslashes n = replicate n (letter 92)

-- before a space, backslashes are escapes where their number is odd: each two are one, and the last makes the
-- space one of the name. Where it is even they stand for themselves.
abbrev pub before_space : ℕ → List Sign
before_space n = cond (n % 2 == 0) (backslashes n ++ blank ∷ []) (backslashes (n / 2) ++ letter 32 ∷ [])

-- before an LF, the last backslash joins the two lines
abbrev pub before_newline : ℕ → List Sign
before_newline zero = newline ∷ []
before_newline (suc n) = backslashes n ++ blank ∷ []

-- before `#` and `:`, the last backslash makes the character one of the name
abbrev pub before_escaped : ℕ → ℕ → List Sign
before_escaped zero b = cond (b == 58) (colon ∷ []) (letter b ∷ [])
before_escaped (suc n) b = backslashes n ++ letter b ∷ []

abbrev pub is_escaped : ℕ → Bool
is_escaped b = b == 35 || b == 58

-- what n backslashes and the character right behind them are for
abbrev pub behind_backslashes : ℕ → ℕ → List Sign
behind_backslashes n b =
    cond (b == 32) (before_space n) (
    cond (b == 10) (before_newline n) (
    cond (is_escaped b) (before_escaped n b) (
    cond (b == 9) (backslashes n ++ blank ∷ []) (backslashes n ++ letter b ∷ []))))

-- what n backslashes and the text right behind them are for
abbrev pub signs_behind : ℕ → List ℕ → List Sign
signs_behind n [] = backslashes n
signs_behind n (b ∷ text) = cond (b == 92) (signs_behind (suc n) text) (behind_backslashes n b ++ signs_behind 0 text)

-- what the characters of a text are for
abbrev pub signs : List ℕ → List Sign
signs text = signs_behind 0 (characters text)

-- the character as it stands in a name
abbrev pub character : Sign → ℕ
character (letter b) = b
character colon = 58
character blank = 32
character newline = 10

abbrev pub spelled : List Sign → List ℕ
spelled = map character

abbrev pub is_blank : Sign → Bool
is_blank (letter b) = false
is_blank colon = false
is_blank blank = true
is_blank newline = false

abbrev pub is_newline : Sign → Bool
is_newline (letter b) = false
is_newline colon = false
is_newline blank = false
is_newline newline = true
