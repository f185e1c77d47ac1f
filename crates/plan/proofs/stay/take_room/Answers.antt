use Rattle.std.proofs.Common.{arith}
use Rattle.plan.proofs.stay.take_room.Goals as goal

pub returns-clause-items : goal.returns-clause-items
returns-clause-items c = (c.requires (omega (arith, c.if-capacity-count.false, c.capacity.ensures))).items

pub returns-clause-room : goal.returns-clause-room
returns-clause-room c = (c.requires (omega (arith, c.if-capacity-count.false, c.capacity.ensures))).room
