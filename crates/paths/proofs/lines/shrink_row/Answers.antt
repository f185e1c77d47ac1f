use Rattle.std.proofs.Common.{arith, refl}
use Rattle.paths.proofs.Shrinking.{shrunk_row}
use Rattle.paths.proofs.lines.shrink_row.Goals as goal

pub returns : goal.returns
returns c =
    shrunk_row c.args.numbers.now c.move_to.new.numbers c.move_to-2.new.numbers c.args.row _ c.requires c.args.outputs c.args.inputs c.at_most-gone.result c.at_most-cut.result
    c.at_most-gone.ensures.within c.at_most-cut.ensures.within c.at_most-gone.ensures.left c.at_most-cut.ensures.left c.move_to.ensures c.move_to-2.ensures refl refl refl refl refl refl refl
