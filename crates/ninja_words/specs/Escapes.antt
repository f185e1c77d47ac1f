-- What is left of a text without the escapes of a terminal, as ninja leaves them out (its `StripAnsiEscapeCodes`).
use Rattle.std.specs.Prelude.{ℕ, List, [], ◌∷◌, ◌++◌, ◌==◌, ◌||◌, if◌then◌else◌}
use Rattle.std.specs.Char.{is_ascii_alphabetic}
use Rattle.ninja_words.specs.declared.escapes.Escape.{Escape}
use Rattle.ninja_words.specs.declared.escapes.Escape.TheVariants.{Outside, Opened, Inside}

-- how far an escape has come one byte on: ESC, which is 27, begins one, the bracket, which is 91, goes on with it, and a letter ends it
abbrev pub behind : Escape → ℕ → Escape
behind Outside byte = if byte == 27 then Opened else Outside
behind Opened byte = if byte == 27 then Opened else if byte == 91 then Inside else Outside
behind Inside byte = if is_ascii_alphabetic byte then Outside else Inside

-- what is left of a byte: ESC goes, and so does what stands inside, the bracket and the letter too
abbrev pub kept : Escape → ℕ → List ℕ
kept Outside byte = if byte == 27 then [] else byte ∷ []
kept Opened byte = if byte == 27 || byte == 91 then [] else byte ∷ []
kept Inside byte = []

-- what is left of a text, in front of which an escape has come so far
abbrev pub left : Escape → List ℕ → List ℕ
left escape [] = []
left escape (byte ∷ bytes) = kept escape byte ++ left (behind escape byte) bytes

-- how far an escape has come behind a text
abbrev pub behind_all : Escape → List ℕ → Escape
behind_all escape [] = escape
behind_all escape (byte ∷ bytes) = behind_all (behind escape byte) bytes
