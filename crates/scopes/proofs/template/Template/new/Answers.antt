use Rattle.std.proofs.Common.{rules, [], ◌<◌, length}
use Rattle.std.proofs.lemmas.List.{take_more}
use Rattle.lexer.specs.declared.statement.Piece.{Piece}
use Rattle.lexer.specs.declared.statement.Piece.TheVariants.{Text}
use Rattle.scopes.proofs.Lists.{AllZip-push}
use Rattle.scopes.proofs.template.Template.new.Goals as goal

abbrev nothing : Piece
nothing = Text (record { ref_ptr = (0, 0); now = [] })

pub loop-piece-preserved : goal.loop-piece-preserved
loop-piece-preserved c =
    let below : c.loop-piece.piece-index < length c.args.value.now.pieces = search rules in
    let is_part = rw c.as_slice-piece-items.ensures at c.in_ok-part_of.ensures in
    rw (take_more c.args.value.now.pieces c.loop-piece.piece-index nothing below, c.in_ok-push.ensures.ok)
    (AllZip-push _ _ _ _ _ c.loop-piece.invariant is_part)
