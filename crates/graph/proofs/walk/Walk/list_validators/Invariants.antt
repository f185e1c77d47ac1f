use Rattle.std.proofs.Common.{◌≡◌, ◌-◌, ◌^◌, ◌≤◌, length}
use Rattle.graph.specs.Links.{links_of}
use Rattle.graph.specs.Cone.{IsWalk, Keeps, HasSeenValidators}
use Rattle.graph.proofs.walk.Walk.list_validators.Given as goal

abbrev pub invariant-loop-place : goal.invariant-loop-place
invariant-loop-place l = record {
  walk : IsWalk l.fn.self.graph.now l.fn.self.requested.now l.self;
  empty : length l.self.stack.items ≡ 0;
  within : l.place ≤ length l.self.order.items;
  keeps : Keeps l.fn.self.marks.items l.self.marks.items;
  validated : HasSeenValidators (links_of l.fn.self.graph.now) l.self.marks.items l.self.order.items l.place;
}

-- the order has fewer than 2 ^ 64 places
abbrev pub decreases-loop-place : goal.decreases-loop-place
decreases-loop-place l = 2 ^ 64 - l.place
