use Rattle.std.proofs.Common.{◌∙◌, ap, map}
use Rattle.graph.specs.Rooms.{room_of, no_room}
use Rattle.graph.proofs.Spaces.{map_replicate}
use Rattle.graph.proofs.users.Users.none.Goals as goal

pub returns : goal.returns
returns c = ap (map (room_of _)) (c.in_ok-vec.ensures.items_if_clones_equal (λ y h. h)) ∙ map_replicate (room_of _) c.args.paths no_room
