-- Escapes at their places in a text.
use Rattle.std.specs.Prelude.{◌≡◌, Option, option_map}
use Rattle.lexer.specs.declared.characters.Class.TheVariants as class
use Rattle.lexer.specs.declared.cursor.Cursor.{Cursor}
use Rattle.lexer.specs.declared.fault.Fault.{Fault}
use Rattle.lexer.specs.declared.fault.FaultKind.TheVariants.{Escape}
use Rattle.lexer.specs.declared.statement.Piece.{Piece}
use Rattle.lexer.specs.Characters.{run_of, behind_run}
use Rattle.lexer.specs.Grammar.{Outcome}
use Rattle.lexer.specs.Grammar.Outcome.{Reached, Broken}
use Rattle.lexer.specs.Said.{Fragment, fragment_of}
use Rattle.lexer.specs.Tokens.{escape, braced, bare}

-- what the escape says whose dollar stands at `dollar`, with `more` after it
abbrev pub escape_from : Cursor → Cursor → Outcome (Option Fragment)
escape_from dollar more = escape dollar.rest.now more.rest.now

-- the same, of a name in braces, after the first of them
abbrev pub braced_from : Cursor → Cursor → Outcome (Option Fragment)
braced_from dollar more = braced dollar.rest.now (run_of class.Name more.rest.now) (behind_run class.Name more.rest.now)

-- the same, of a name without braces
abbrev pub bare_from : Cursor → Cursor → Outcome (Option Fragment)
bare_from dollar more = bare dollar.rest.now (run_of class.BareName more.rest.now) (behind_run class.BareName more.rest.now)

-- it is this piece, or none where it joins two lines, and ends here
abbrev pub IsPiece : Outcome (Option Fragment) → Option Piece → Cursor → Type 0
IsPiece outcome piece after = outcome ≡ Reached (option_map fragment_of piece) after.rest.now

-- it is a fault at its dollar
abbrev pub IsBadEscape : Outcome (Option Fragment) → Cursor → Fault → Type 0
IsBadEscape outcome dollar fault =
    (fault ≡ record { line = dollar.line; kind = Escape }) × (outcome ≡ Broken Escape dollar.rest.now)
