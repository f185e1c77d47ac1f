use Rattle.std.proofs.Common.{rules, ◌≡◌, ◌<◌, [], Err, length}
use Rattle.lexer.specs.declared.statement.Piece.{Piece}
use Rattle.lexer.specs.declared.statement.Piece.TheVariants.{Text}
use Rattle.scopes.specs.declared.fault.ExpandFault.TheVariants.{TooLarge}
use Rattle.scopes.specs.Texts.{piece_text}
use Rattle.scopes.specs.Place.{value_of_name}
use Rattle.scopes.proofs.Growth.{large_pieces}
use Rattle.scopes.proofs.place.expand.Goals as goal

abbrev nothing : Piece
nothing = Text (record { ref_ptr = (0, 0); now = [] })

pub returns-in_err-append_piece-clause-large : goal.returns-in_err-append_piece-clause-large
returns-in_err-append_piece-clause-large c = λ same past at.
    let failed : c.append_piece.result ≡ Err TooLarge = search rules in
    let below : c.loop-piece.piece-index < length c.args.value.now.pieces = search rules in
    let large = c.append_piece.ensures.large failed past at in
    large_pieces (piece_text (value_of_name c.args.block.now past)) [] c.args.value.now.pieces c.loop-piece.piece-index _ nothing below (rw (c.as_slice-piece-items.ensures, c.loop-piece.invariant.value past at) at large)
