-- Bytes of a path that a shell reads as they stand.
use Rattle.std.specs.Prelude.{ℕ, Bool, not}
use Rattle.lexer.specs.Quote.{is_bare}

-- the byte does not stand in a command as it is
abbrev pub wants_quotes : ℕ → Bool
wants_quotes b = not (is_bare b)
