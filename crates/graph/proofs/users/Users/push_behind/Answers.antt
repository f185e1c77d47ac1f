use Rattle.std.proofs.Common.{◌≡◌, ◌∙◌, length, arith}
use Rattle.graph.proofs.Spaces.{move_view, first_moved}
use Rattle.graph.proofs.users.Users.push_behind.Goals as goal

pub returns-clause-ok : goal.returns-clause-ok
returns-clause-ok c =
    let room = c.index-room.result.now in
    let old = c.self.inside.edges in
    let new = c.push.new.self in
    let at_end : c.len-end.result ≡ length new.items = c.len-end.ensures ∙ omega (arith, new.ok.0) in
    move_view old.items c.self.inside.rooms.items c.self.invariant c.args.self.now c.self.view_is c.args.path c.index-place.result c.index-place.ensures.place c.requires
    room c.index-room.ensures new.items c.args.edge c.len-start.result c.len-end.result c.len-end.result
    (first_moved old.items new.items room.start room.stop c.args.edge c.len-end.result c.if-room.false c.in_ok-push.ensures.items at_end)
    (c.len-start.ensures ∙ omega (arith, old.ok.0)) at_end
