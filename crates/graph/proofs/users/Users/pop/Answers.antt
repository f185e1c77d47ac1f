use Rattle.graph.proofs.Spaces.{pop_view}
use Rattle.graph.proofs.users.Users.pop.Goals as goal

pub returns-then-room : goal.returns-then-room
returns-then-room c =
    pop_view c.self.inside.edges.items c.self.inside.rooms.items c.self.invariant c.args.self.now c.self.view_is c.args.path c.index-place.result c.index-place.ensures.place c.requires
    c.index-room.result.now c.index-room.ensures
