use Rattle.std.proofs.Common.{◌++◌, []}
use Rattle.rows_texts.proofs.pieces.read_in_two.Goals as goal

pub finish-requires : goal.finish-requires
finish-requires g c = (c.args.front.now ++ c.args.back.now, c.in_ok-take-2.ensures c.args.front.now (c.in_ok-take.ensures [] c.new-pieces.ensures))
