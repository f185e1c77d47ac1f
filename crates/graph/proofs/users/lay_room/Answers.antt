use Rattle.std.proofs.Common.{length, arith}
use Rattle.graph.proofs.Laying.{laid_next}
use Rattle.graph.proofs.users.lay_room.Goals as goal

pub returns : goal.returns
returns c =
    laid_next (length c.args.rooms.now.items) c.args.end c.in-Some.next c.args.rooms.now.items c.push.new.self.items c.requires (omega (arith, c.in-Some.ensures.1)) c.in_ok-push.ensures.items
