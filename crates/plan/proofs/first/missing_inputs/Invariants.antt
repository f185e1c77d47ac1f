use Rattle.std.proofs.Common.{◌≡◌, ◌≤◌, take, count_by}
use Rattle.graph.specs.Links.{links_of, needs_at}
use Rattle.plan.specs.Plan.{is_missing}
use Rattle.plan.proofs.first.missing_inputs.Given as goal

abbrev pub invariant-loop-place : goal.invariant-loop-place
invariant-loop-place l = record {
  counted : l.count ≡ count_by (is_missing l.there) (take l.place (needs_at (links_of l.graph) l.edge));
  low : l.count ≤ l.place;
}
