use Rattle.std.proofs.Common.{◌∙◌, arith, OnErr, rules}
use Rattle.paths.specs.Lists.{Extends}
use Rattle.graph.proofs.Parts.{on_err_then}
use Rattle.graph.proofs.Spaces.{lies_in, move_view, move_rooms, kept_view}
use Rattle.graph.proofs.users.Users.push_moved.Goals as goal

pub append_moved-requires-clause-order : goal.append_moved-requires-clause-order
append_moved-requires-clause-order c =
    (lies_in c.self.inside.edges.items c.self.inside.rooms.items c.self.invariant c.args.self.now c.self.view_is c.args.path c.index-place.result c.index-place.ensures.place c.requires
    c.index-room.result.now c.index-room.ensures).in_order

pub append_moved-requires-clause-within : goal.append_moved-requires-clause-within
append_moved-requires-clause-within c =
    let lies = lies_in c.self.inside.edges.items c.self.inside.rooms.items c.self.invariant c.args.self.now c.self.view_is c.args.path c.index-place.result c.index-place.ensures.place c.requires c.index-room.result.now c.index-room.ensures in
    omega (arith, lies.used, lies.within)

pub returns-clause-ok : goal.returns-clause-ok
returns-clause-ok c =
    move_view c.self.inside.edges.items c.self.inside.rooms.items c.self.invariant c.args.self.now c.self.view_is c.args.path c.index-place.result c.index-place.ensures.place c.requires
    c.index-room.result.now c.index-room.ensures c.append_moved.new.edges.items c.args.edge c.len-start.result c.in_ok-stop.stop c.len.result c.in_ok-stop.ensures.ok
    (c.len-start.ensures ∙ omega (arith, c.self.inside.edges.ok.0)) (c.len.ensures ∙ omega (arith, c.append_moved.new.edges.ok.0))

pub invariant_of-self-2 : goal.invariant_of-self-2
invariant_of-self-2 c =
    move_rooms c.self.inside.edges.items c.self.inside.rooms.items c.self.invariant c.args.self.now c.self.view_is c.args.path c.index-place.result c.index-place.ensures.place c.requires
    c.index-room.result.now c.index-room.ensures c.append_moved.new.edges.items c.args.edge c.len-start.result c.in_ok-stop.stop c.len.result c.in_ok-stop.ensures.ok
    (c.len-start.ensures ∙ omega (arith, c.self.inside.edges.ok.0)) (c.len.ensures ∙ omega (arith, c.append_moved.new.edges.ok.0))

pub returns-in_err-stop-clause-err : goal.returns-in_err-stop-clause-err
returns-in_err-stop-clause-err c =
    let kept : OnErr c.from_residual.result (Extends c.self.inside.edges.items c.append_moved.new.edges.items) = search rules in
    on_err_then c.from_residual.result kept (λ extends. kept_view c.self.inside.edges.items c.append_moved.new.edges.items c.self.inside.rooms.items c.args.self.now c.self.invariant c.self.view_is extends)
