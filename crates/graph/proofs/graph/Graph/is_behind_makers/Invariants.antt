use Rattle.std.proofs.Common.{◌≡◌, ◌<◌, ℕ, Some}
use Rattle.graph.specs.Cone.{maker_at}
use Rattle.graph.specs.Links.{links_of}
use Rattle.graph.specs.Placed.{StandsBefore}
use Rattle.graph.proofs.graph.Graph.is_behind_makers.Given as goal

abbrev pub invariant-loop-place : goal.invariant-loop-place
invariant-loop-place l = (k d : ℕ) → k < l.place → maker_at (links_of l.self) l.edge k ≡ Some d → StandsBefore l.cone d l.edge
