-- How a path is written into a command (this project's own; the manual, "Rule variables", says that the paths of `in` are quoted
-- for the shell), and what a shell reads there (manual of sh: "Quoting").
use Rattle.std.specs.Prelude.{◌≡◌, ◌≢◌, ◌↔◌, ℕ, ◌==◌, ◌&&◌, ◌||◌, nat_le, Bool, not, if◌then◌else◌, List, [], ◌∷◌, ◌++◌, length, Option, Some, None, codes}
use Rattle.std.specs.List.{flat_map, list_all}
use Rattle.std.specs.Option.{option_map}

-- ---- how a path is written

-- ASCII letters, ASCII digits and `_ + - . /`
abbrev pub is_bare : ℕ → Bool
is_bare b = (nat_le 97 b && nat_le b 122) || (nat_le 65 b && nat_le b 90) || (nat_le 48 b && nat_le b 57) || b == 95 || b == 43 || b == 45 || b == 46 || b == 47

-- the empty path is none
abbrev pub is_bare_path : List ℕ → Bool
is_bare_path path = not (length path == 0) && list_all is_bare path

-- within quotes a single quote is written `'\''`
abbrev pub within_quotes : ℕ → List ℕ
within_quotes b = if b == 39 then codes "'\\''" else b ∷ []

abbrev pub in_quotes : List ℕ → List ℕ
in_quotes path = 39 ∷ (flat_map within_quotes path ++ 39 ∷ [])

-- the path as a word of a command
abbrev pub quoted : List ℕ → List ℕ
quoted path = if is_bare_path path then path else in_quotes path

-- ---- what a shell reads

-- what the next character of a word stands in
pub data Place : Type 0 where
  Bare : Place
  BehindBackslash : Place
  InQuotes : Place

abbrev pub behind : ℕ → Option (List ℕ) → Option (List ℕ)
behind b text = option_map (λ bytes. b ∷ bytes) text

-- The text that a word stands for, read from this place on. In single quotes each character stands for itself, up to the
-- next single quote. Outside of them a backslash makes the next character stand for itself, other than a line feed, and a
-- bare character does without one. None where quotes are left open or anything else stands there: blanks, line feeds and
-- operators end a word, and other characters can mean something to a shell.
abbrev pub text_from : Place → List ℕ → Option (List ℕ)
text_from Bare [] = Some []
text_from Bare (b ∷ word) =
    if b == 39 then text_from InQuotes word else if b == 92 then text_from BehindBackslash word else if is_bare b then behind b (text_from Bare word) else None
text_from BehindBackslash [] = None
text_from BehindBackslash (b ∷ word) = if b == 10 then None else behind b (text_from Bare word)
text_from InQuotes [] = None
text_from InQuotes (b ∷ word) = if b == 39 then text_from Bare word else behind b (text_from InQuotes word)

-- a shell reads these bytes as one word, which stands for this text; no bytes are no word
pub record IsWordOf (word text : List ℕ) : Type 0 where
  pub some : word ≢ []
  pub read : text_from Bare word ≡ Some text

-- a quoted path is one word, and stands for the path and for nothing else
abbrev pub QuotedIsOneWord : Type 0
QuotedIsOneWord = (path text : List ℕ) → IsWordOf (quoted path) text ↔ (text ≡ path)
