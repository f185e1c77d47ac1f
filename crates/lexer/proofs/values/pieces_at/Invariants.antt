use Rattle.std.proofs.Common.{length, ◌≡◌, ◌<◌, ◌⊎◌}
use Rattle.lexer.specs.Places.{IsBehind}
use Rattle.lexer.proofs.Pieces.{AreRead}
use Rattle.lexer.proofs.values.pieces_at.Given as goal

abbrev pub invariant-pieces : goal.invariant-pieces
invariant-pieces l = IsBehind l.cursor l.at × ((l.at.rest.now ≡ l.cursor.rest.now) ⊎ (length l.at.rest.now < length l.cursor.rest.now)) × AreRead l.class l.pieces l.cursor.rest.now l.at.rest.now

abbrev pub decreases-pieces : goal.decreases-pieces
decreases-pieces l = length l.at.rest.now
