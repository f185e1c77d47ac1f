use Rattle.graph.proofs.Spaces.{push_view}
use Rattle.graph.proofs.users.Users.push.Goals as goal

pub returns-then-room-clause-ok : goal.returns-then-room-clause-ok
returns-then-room-clause-ok c =
    push_view c.self.inside.edges.items c.self.inside.rooms.items c.self.invariant c.args.self.now c.self.view_is c.args.path c.index-place.result c.index-place.ensures.place c.requires
    c.index-room.result.now c.index-room.ensures c.args.edge c.index_mut-then-room.result.now c.index_mut-then-room.ensures.value c.if-room.true
