use Rattle.std.proofs.Common.{◌≡◌, ◌<◌, ℕ, length}
use Rattle.plan.specs.Flags.{has}
use Rattle.graph.specs.Links.{links_of}
use Rattle.plan.specs.Standing.{maker_settled}
use Rattle.plan.proofs.extend.settled_paths.Given as goal

abbrev pub invariant-loop-place : goal.invariant-loop-place
invariant-loop-place l = record {
  fits : length l.there.items ≡ l.place;
  each : (p : ℕ) → p < l.place → has l.there.items p ≡ maker_settled l.standings ((links_of l.graph).maker p);
}
