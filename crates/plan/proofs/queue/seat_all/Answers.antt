use Rattle.std.proofs.Common.{map, refl, arith}
use Rattle.std.proofs.lemmas.List.{length-map}
use Rattle.plan.specs.Seats.{members_of}
use Rattle.plan.proofs.Seating.{seat_next, limits_more}
use Rattle.plan.proofs.queue.seat_all.Goals as goal

pub loop-edge-preserved : goal.loop-edge-preserved
loop-edge-preserved c = (
  seat_next c.args.groups.now c.loop-edge.edge c.loop-edge.ranks.items c.push.new.self.items (map members_of c.loop-edge.pools) (map members_of c.seat.new.pools) _ c.in_ok-seat.field-0
      c.loop-edge-test.true c.loop-edge.invariant.0 refl (λ g is. omega (arith, c.requires.within c.loop-edge.edge g is, length-map c.loop-edge.pools members_of)) c.in_ok-seat.ensures.rank c.in_ok-push.ensures.items c.in_ok-seat.ensures.seated,
  limits_more c.args.pools.now c.loop-edge.pools c.seat.new.pools c.loop-edge.invariant.1 c.in_ok-seat.ensures.kept,
)
