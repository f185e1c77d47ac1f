use Rattle.std.proofs.Common.{◌≡◌, ℕ, ◌<◌, Some, map}
use Rattle.std.specs.List.{slice_get}
use Rattle.plan.specs.declared.pool.Pool.{Pool}
use Rattle.plan.specs.Seats.{members_of, depth_of, running_of, shown_of, HasRoom}
use Rattle.plan.proofs.queue.make_room.Given as goal

abbrev pub invariant-loop-pool : goal.invariant-loop-pool
invariant-loop-pool l =
    (map members_of l.pools ≡ map members_of l.initial.pools)
    × (map depth_of l.pools ≡ map depth_of l.initial.pools)
    × (map running_of l.pools ≡ map running_of l.initial.pools)
    × (map shown_of l.pools ≡ map shown_of l.initial.pools)
    × ((g : ℕ) (pool : Pool) → g < l.pool-index → slice_get l.pools g ≡ Some pool → HasRoom pool)
