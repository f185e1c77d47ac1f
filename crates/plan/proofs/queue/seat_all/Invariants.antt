use Rattle.std.proofs.Common.{take, map}
use Rattle.plan.specs.Seats.{AreSeated, HaveSameLimits, members_of}
use Rattle.plan.proofs.queue.seat_all.Given as goal

abbrev pub invariant-loop-edge : goal.invariant-loop-edge
invariant-loop-edge l =
    AreSeated (take l.edge l.groups) l.ranks.items (map members_of l.pools)
    × HaveSameLimits l.initial.pools l.pools
