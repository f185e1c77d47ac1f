-- How a queue keeps the edges that wait.
use Rattle.std.specs.Prelude.{◌≡◌, ℕ, ◌≤◌, Bool, true, List, map, length, slice_index, slice_index_or, slice_get, Option, None, Some}
use Rattle.plan.specs.Flags.{has}
use Rattle.plan.specs.declared.pool.Pool.{Pool}
use Rattle.plan.specs.declared.queue.Queue.TheInside.{Inside}
use Rattle.plan.specs.Turns.{Turns, AreWithin}
use Rattle.plan.specs.PoolShown.{AreMembers, IsShown}
use Rattle.plan.specs.Seats.{members_of, depth_of, running_of, AreSeated}

abbrev pub turns_of : Inside → Turns
turns_of queue = record {
  groups = queue.groups.items;
  depths = map depth_of queue.pools.items;
  running = map running_of queue.pools.items;
  waiting = queue.waiting.items;
}

-- what a pool keeps beside its members
pub record IsPool (groups : List (Option ℕ)) (ranks : List ℕ) (waiting : List Bool) (g : ℕ) (pool : Pool) : Type 0 where
  pub members : AreMembers pool
  pub waits : (e : ℕ) → slice_index_or groups e None ≡ Some g → has pool.waiting (slice_index ranks e) ≡ has waiting e
  pub shown : IsShown pool pool.shown

-- an edge of no pool stands in front where it waits, another where its pool shows it
pub record IsFront (groups : List (Option ℕ)) (waiting : List Bool) (pools : List Pool) (front : List Bool) : Type 0 where
  pub free : (e : ℕ) → slice_index_or groups e None ≡ None → has front e ≡ has waiting e
  pub shows : (e g : ℕ) (pool : Pool) → slice_index_or groups e None ≡ Some g → slice_get pools g ≡ Some pool → has front e ≡ true → pool.shown ≡ Some e
  pub shown : (e g : ℕ) (pool : Pool) → slice_index_or groups e None ≡ Some g → slice_get pools g ≡ Some pool → pool.shown ≡ Some e → has front e ≡ true

pub record AreQueued (groups : List (Option ℕ)) (ranks : List ℕ) (pools : List Pool) (waiting front : List Bool) : Type 0 where
  pub within : AreWithin (length pools) groups
  pub flags : length waiting ≡ length groups
  pub room : length groups ≤ length front
  pub seats : AreSeated groups ranks (map members_of pools)
  pub kept : (g : ℕ) (pool : Pool) → slice_get pools g ≡ Some pool → IsPool groups ranks waiting g pool
  pub fronts : IsFront groups waiting pools front

abbrev pub IsQueue : Inside → Type 0
IsQueue queue = AreQueued queue.groups.items queue.ranks.items queue.pools.items queue.waiting.items queue.front
