-- How standings, and what is there, go over to a graph that has grown.
use Rattle.std.specs.Prelude.{◌≡◌, ℕ, ◌<◌, Bool, List, length}
use Rattle.plan.specs.Flags.{has}
use Rattle.graph.specs.declared.cone.Mark.{Mark}
use Rattle.graph.specs.declared.graph.Graph.{Graph}
use Rattle.graph.specs.Links.{Links, links_of}
use Rattle.plan.specs.declared.step.Standing.{Standing}
use Rattle.plan.specs.declared.step.Standing.TheVariants.{Outside, Alias, Known}
use Rattle.plan.specs.Standing.{standing_at, maker_settled}
use Rattle.plan.specs.First.{first_at}

-- where an edge stands that stood so: a command of the cone as before, each other edge as at the beginning
abbrev pub grown_of : Standing → Standing → Standing
grown_of Outside first = first
grown_of Alias first = first
grown_of Known first = first
grown_of standing first = standing

-- so stands each edge
pub record AreGrown (links : Links) (marks : List Mark) (old new : List Standing) : Type 0 where
  pub fits : length new ≡ length old
  pub each : (e : ℕ) → standing_at new e ≡ grown_of (standing_at old e) (first_at links marks e)

-- just the sources, and what settled edges make, are there
pub record AreThere (links : Links) (paths : ℕ) (standings : List Standing) (there : List Bool) : Type 0 where
  pub fits : length there ≡ paths
  pub each : (p : ℕ) → p < paths → has there p ≡ maker_settled standings (links.maker p)

-- just the sources, and what settled edges make, are there of the paths of the graph
abbrev pub AreThereIn : Graph → List Standing → List Bool → Type 0
AreThereIn graph standings there = AreThere (links_of graph) (length graph.manifest.paths) standings there
