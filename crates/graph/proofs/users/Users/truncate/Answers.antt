use Rattle.std.proofs.Common.{◌∙◌, ap, map, sym, take}
use Rattle.std.proofs.lemmas.List.{take-map}
use Rattle.graph.specs.Rooms.{room_of}
use Rattle.graph.proofs.users.Users.truncate.Goals as goal

pub returns : goal.returns
returns c =
    ap (map (room_of c.self.inside.edges.items)) c.truncate.ensures.items
    ∙ (sym (take-map (room_of c.self.inside.edges.items) c.args.paths c.self.inside.rooms.items) ∙ ap (take c.args.paths) c.self.view_is)
