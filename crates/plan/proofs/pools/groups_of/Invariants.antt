use Rattle.std.proofs.Common.{◌≡◌, ◌<◌, ℕ, true, false, None, length, get_or}
use Rattle.plan.specs.Turns.{AreWithin}
use Rattle.paths.specs.Commands.{no_action}
use Rattle.plan.specs.Standing.{standing_at, is_outside}
use Rattle.plan.specs.Pools.{place_in, pool_of, depths_of}
use Rattle.plan.proofs.pools.groups_of.Given as goal

abbrev pub invariant-loop-place : goal.invariant-loop-place
invariant-loop-place l = record {
  fits : length l.groups.items ≡ l.place;
  each : (e : ℕ) → e < l.place → is_outside (standing_at l.standings e) ≡ false → get_or l.groups.items e None ≡ place_in l.graph.manifest.pools (pool_of (get_or l.graph.manifest.actions e no_action));
  all : l.all ≡ true → (e : ℕ) → e < l.place → get_or l.groups.items e None ≡ place_in l.graph.manifest.pools (pool_of (get_or l.graph.manifest.actions e no_action));
  within : AreWithin (length (depths_of l.graph.manifest.pools)) l.groups.items;
}
