-- Values of a build file as they expand where they stand, whatever was done to the scopes before.
use Rattle.std.specs.Prelude.{◌≡◌, ◌<◌, ℕ, List, [], ◌∷◌, length, String}
use Rattle.std.specs.declared.alloc.Global.{Global}
use denote.Ref.{Bor}
use Rattle.lexer.specs.declared.statement.Piece.{Piece}
use Rattle.lexer.specs.declared.statement.Piece.TheVariants.{Text as PieceText}
use Rattle.scopes.specs.declared.all_scopes.Scopes.{Scopes}
use Rattle.scopes.specs.declared.block.Block.{Block}
use Rattle.scopes.specs.Texts.{piece_text, expansion_of_pieces, largest_value}
use Rattle.scopes.specs.Moves.{Move}
use Rattle.scopes.specs.Scopes.{Always}
use Rattle.scopes.specs.Place.{value_of_name}
use Rattle.scopes.specs.Growing.{AddsValue, IsTooMuchValue}

-- what the pieces stand for here
abbrev pub expansion_here : Block → List Piece → List Move → List ℕ
expansion_here block pieces past = expansion_of_pieces (value_of_name block past) pieces

abbrev pub IsExpansion : Scopes → Block → List Piece → List ℕ → Type 0
IsExpansion scopes block pieces text = Always scopes (λ past. text ≡ expansion_here block pieces past)

abbrev pub IsLargeExpansion : Scopes → Block → List Piece → Type 0
IsLargeExpansion scopes block pieces = Always scopes (λ past. largest_value < length (expansion_here block pieces past))

-- the pieces have this text, whatever names stand for
abbrev pub IsTextAlone : List Piece → List ℕ → Type 0
IsTextAlone pieces text = (named : List ℕ → List ℕ) → text ≡ expansion_of_pieces named pieces

-- the pieces are one text, which is too large, or none that stands alone
abbrev pub IsLargeAlone : List Piece → Type 0
IsLargeAlone pieces = (text : Bor (List ℕ)) → pieces ≡ PieceText text ∷ [] → largest_value < length text.now

-- what a piece stands for here was put behind the text, or would be too much
abbrev pub piece_here : Block → Piece → List Move → List ℕ
piece_here block piece past = piece_text (value_of_name block past) piece

abbrev pub AddsPiece : Scopes → Block → String Global → String Global → Piece → Type 0
AddsPiece scopes block old new piece = AddsValue scopes old new (piece_here block piece)

abbrev pub IsTooMuchPiece : Scopes → Block → String Global → Piece → Type 0
IsTooMuchPiece scopes block old piece = IsTooMuchValue scopes old (piece_here block piece)
