use Rattle.std.proofs.Common.{◌≡◌, ◌≤◌, List, length, string_bytes, take}
use Rattle.scopes.specs.Texts.{expansion_of_pieces, largest_value}
use Rattle.scopes.specs.Moves.{Move}
use Rattle.scopes.specs.Scopes.{IsScopesOf}
use Rattle.scopes.specs.Place.{value_of_name}
use Rattle.scopes.proofs.place.expand.Given as goal

abbrev pub invariant-loop-piece : goal.invariant-loop-piece
invariant-loop-piece l = record {
  value : (past : List Move) → IsScopesOf l.scopes past → string_bytes l.text ≡ expansion_of_pieces (value_of_name l.block past) (take l.piece-index l.value.pieces);
  size : length (string_bytes l.text) ≤ largest_value;
}
