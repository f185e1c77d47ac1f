use Rattle.std.proofs.Common.{◌≤◌, length, vec_capacity}
use Rattle.graph.specs.Links.{links_of}
use Rattle.plan.proofs.Staying.{IsLongerTo}
use Rattle.plan.proofs.stay.lengthen_there.Given as goal

abbrev pub invariant-loop-place : goal.invariant-loop-place
invariant-loop-place l = record {
  longer : IsLongerTo (links_of l.graph) l.initial.there.items l.place l.there.items;
  room : length l.graph.manifest.paths ≤ vec_capacity l.there;
}
