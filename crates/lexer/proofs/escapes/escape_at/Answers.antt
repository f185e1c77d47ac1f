use Rattle.std.proofs.Common.{refl}
use Rattle.lexer.proofs.Places.{behind_quoted}
use Rattle.lexer.proofs.escapes.escape_at.Goals as goal

pub returns-in-Some-split_quoted-clause-behind : goal.returns-in-Some-split_quoted-clause-behind
returns-in-Some-split_quoted-clause-behind c = behind_quoted _ _ c.in-Some-split_quoted.sign.now c.in-Some-split_quoted.ensures refl
