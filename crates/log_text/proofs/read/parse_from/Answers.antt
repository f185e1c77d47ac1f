use Rattle.std.proofs.Common.{[]}
use Rattle.log_text.proofs.read.parse_from.Goals as goal

pub finish-requires : goal.finish-requires
finish-requires g c = (c.args.bytes.now, c.in_ok-take.ensures [] c.new-pieces.ensures)

pub returns : goal.returns
returns g c = c.finish.ensures c.args.bytes.now (c.in_ok-take.ensures [] c.new-pieces.ensures)
