use Rattle.graph.proofs.Laying.{laid_view}
use Rattle.graph.proofs.users.Users.with_rooms.Goals as goal

pub returns : goal.returns
returns c = laid_view _ _ _ c.lay_rooms.new.rooms.items c.in_ok-end.ensures
