use Rattle.std.proofs.Common.{◌≡◌, ◌<◌, ℕ, length}
use Rattle.std.specs.Option.{is_none}
use Rattle.plan.specs.Flags.{has}
use Rattle.graph.specs.Links.{links_of}
use Rattle.plan.proofs.first.sources.Given as goal

abbrev pub invariant-loop-place : goal.invariant-loop-place
invariant-loop-place l = record {
  fits : length l.there.items ≡ l.place;
  each : (p : ℕ) → p < l.place → has l.there.items p ≡ is_none ((links_of l.graph).maker p);
}
