-- The smallest parts of a line, by cases on what stands next (manual: "Lexical syntax").
use Rattle.std.specs.Prelude.{ℕ, Bool, true, false, not, List, [], ◌∷◌, ◌==◌, ◌&&◌, ◌||◌, cond, Option, None, Some, is_none, option_and_then}
use Rattle.std.specs.Option.{option_or}
use Rattle.lexer.specs.declared.characters.Class.{Class}
use Rattle.lexer.specs.declared.characters.Class.TheVariants as class
use Rattle.lexer.specs.declared.fault.FaultKind.{FaultKind}
use Rattle.lexer.specs.declared.fault.FaultKind.TheVariants.{Tab, Escape, Unexpected}
use Rattle.lexer.specs.declared.tokens.Mark.{Mark}
use Rattle.lexer.specs.declared.tokens.Mark.TheVariants.{Bar, DoubleBar, BarAt}
use Rattle.lexer.specs.Characters.{is_of, run_of, behind_run}
use Rattle.lexer.specs.Grammar.{Outcome}
use Rattle.lexer.specs.Grammar.Outcome.{Reached, Broken}
use Rattle.lexer.specs.Said.{Fragment}
use Rattle.lexer.specs.Said.Fragment.{literal, expansion}

-- what stands behind this byte, if it stands here
abbrev pub behind : ℕ → List ℕ → Option (List ℕ)
behind wanted [] = None
behind wanted (b ∷ bytes) = cond (b == wanted) (Some bytes) None

-- what stands behind LF or CR LF, if one stands here
abbrev pub newline : List ℕ → Option (List ℕ)
newline bytes = option_or (behind 10 bytes) (option_and_then (behind 10) (behind 13 bytes))

-- what stands behind a dollar and a newline, which join two lines, if they stand here
abbrev pub join : List ℕ → Option (List ℕ)
join bytes = option_and_then newline (behind 36 bytes)

-- ---- escapes

-- behind a dollar: a space, a colon or a dollar stands for itself
abbrev pub is_quoted : ℕ → Bool
is_quoted b = b == 32 || b == 58 || b == 36

-- behind a dollar and a brace: a name and a brace
abbrev pub braced : List ℕ → List ℕ → List ℕ → Outcome (Option Fragment)
braced whole [] rest = Broken Escape whole
braced whole (n ∷ name) [] = Broken Escape whole
braced whole (n ∷ name) (b ∷ rest) = cond (b == 125) (Reached (Some (expansion (n ∷ name))) rest) (Broken Escape whole)

-- behind a dollar: a name without a dot
abbrev pub bare : List ℕ → List ℕ → List ℕ → Outcome (Option Fragment)
bare whole [] rest = Broken Escape whole
bare whole (n ∷ name) rest = Reached (Some (expansion (n ∷ name))) rest

abbrev pub names : List ℕ → List ℕ → Option (List ℕ) → Outcome (Option Fragment)
names whole bytes (Some inside) = braced whole (run_of class.Name inside) (behind_run class.Name inside)
names whole bytes None = bare whole (run_of class.BareName bytes) (behind_run class.BareName bytes)

abbrev pub quoted : List ℕ → Option (List ℕ × List ℕ)
quoted [] = None
quoted (b ∷ bytes) = cond (is_quoted b) (Some (b ∷ [], bytes)) None

abbrev pub signs : List ℕ → List ℕ → Option (List ℕ × List ℕ) → Outcome (Option Fragment)
signs whole bytes (Some found) = Reached (Some (literal found.0)) found.1
signs whole bytes None = names whole bytes (behind 123 bytes)

-- a newline stands for nothing, and the next line's leading spaces go with it
abbrev pub joins : List ℕ → List ℕ → Option (List ℕ) → Outcome (Option Fragment)
joins whole bytes (Some next) = Reached None (behind_run class.Space next)
joins whole bytes None = signs whole bytes (quoted bytes)

-- the escape whose dollar stands at `whole`; a bad one is a fault at its dollar
abbrev pub escape : List ℕ → List ℕ → Outcome (Option Fragment)
escape whole bytes = joins whole bytes (newline bytes)

-- ---- faults

abbrev pub is_broken : Outcome (Option Fragment) → Bool
is_broken (Reached fragment rest) = false
is_broken (Broken kind rest) = true

abbrev pub bad_behind : List ℕ → Option (List ℕ) → Bool
bad_behind whole (Some more) = is_broken (escape whole more)
bad_behind whole None = false

-- a dollar stands here with what may not stand behind it
abbrev pub is_bad : List ℕ → Bool
is_bad bytes = bad_behind bytes (behind 36 bytes)

abbrev pub fault_of : Option (List ℕ) → Bool → FaultKind
fault_of (Some behind_tab) bad = Tab
fault_of None true = Escape
fault_of None false = Unexpected

-- what is wrong with what stands here, where nothing that may stand here does
abbrev pub fault_at : List ℕ → FaultKind
fault_at bytes = fault_of (behind 9 bytes) (is_bad bytes)

abbrev pub unexpected : {X : Type 0} → List ℕ → Outcome X
unexpected bytes = Broken (fault_at bytes) bytes

-- ---- tokens

-- what stands behind a token, if it stands here
abbrev pub token : List ℕ → Option (List ℕ) → Outcome (Unit {0})
token bytes (Some rest) = Reached tt rest
token bytes None = unexpected bytes

abbrev pub one : ℕ → List ℕ → Outcome (Unit {0})
one wanted bytes = token bytes (behind wanted bytes)

-- a line ends with LF, CR LF or the end of the text
abbrev pub line_end : List ℕ → Outcome (Unit {0})
line_end [] = Reached tt []
line_end (b ∷ bytes) = token (b ∷ bytes) (newline (b ∷ bytes))

abbrev pub named : List ℕ → List ℕ → List ℕ → Outcome (List ℕ)
named bytes [] rest = unexpected bytes
named bytes (n ∷ name) rest = Reached (n ∷ name) rest

abbrev pub name : List ℕ → Outcome (List ℕ)
name bytes = named bytes (run_of class.Name bytes) (behind_run class.Name bytes)

-- ---- pieces of values and paths

-- where a value or path of this class ends: no character of it and no escape stands there
abbrev pub ends : Class → List ℕ → Bool
ends class [] = true
ends class (b ∷ bytes) = not (is_of class b || b == 36)

abbrev pub piece_of : List ℕ → List ℕ → List ℕ → Option (List ℕ) → Outcome (Option Fragment)
piece_of bytes (c ∷ text) rest dollar = Reached (Some (literal (c ∷ text))) rest
piece_of bytes [] rest (Some more) = escape bytes more
piece_of bytes [] rest None = unexpected bytes

-- as many characters as there are that stand for themselves, or else an escape
abbrev pub piece : Class → List ℕ → Outcome (Option Fragment)
piece class bytes = piece_of bytes (run_of class bytes) (behind_run class bytes) (behind 36 bytes)

-- a path begins here, and no join, which would stand before it
abbrev pub begins_path : List ℕ → Bool
begins_path bytes = not (ends class.Path bytes) && is_none (join bytes)

-- behind a word no path begins at once
abbrev pub word_end : List ℕ → Outcome (Unit {0})
word_end bytes = cond (begins_path bytes) (unexpected bytes) (Reached tt bytes)

-- ---- the marks before the parts of a `build` line

abbrev pub mark_behind : Option (List ℕ) → Option (List ℕ) → List ℕ → Mark × List ℕ
mark_behind (Some rest) second bytes = (DoubleBar, rest)
mark_behind None (Some rest) bytes = (BarAt, rest)
mark_behind None None bytes = (Bar, bytes)

-- `||`, `|@` or `|`, the longest that stands here, and what stands behind it
abbrev pub mark_in : Option (List ℕ) → Option (Mark × List ℕ)
mark_in None = None
mark_in (Some bytes) = Some (mark_behind (behind 124 bytes) (behind 64 bytes) bytes)

abbrev pub mark : List ℕ → Option (Mark × List ℕ)
mark bytes = mark_in (behind 124 bytes)

abbrev pub is_mark : Mark → Mark → Bool
is_mark Bar Bar = true
is_mark DoubleBar DoubleBar = true
is_mark BarAt BarAt = true
is_mark wanted other = false
