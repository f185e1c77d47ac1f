-- How a plan goes on in place when a load has changed few edges.
use Rattle.std.specs.Prelude.{◌≡◌, ◌⊎◌, ℕ, ◌==◌, ◌<◌, ◌≤◌, not, Bool, true, false, if◌then◌else◌, List, [], ◌∷◌, length, slice_index, slice_set, count_by, is_none}
use Rattle.model.specs.Graph.{has_number, edge_at, Addition}
use Rattle.plan.specs.Flags.{has}
use Rattle.graph.specs.declared.back.Before.{Before}
use Rattle.graph.specs.declared.back.LoadedEdge.{LoadedEdge}
use Rattle.graph.specs.declared.cone.Cone.{Cone}
use Rattle.graph.specs.declared.cone.Mark.{Mark}
use Rattle.graph.specs.declared.graph.Graph.{Graph}
use Rattle.graph.specs.Alone.{HasGrownAlone}
use Rattle.graph.specs.Cone.{mark_at, is_listed}
use Rattle.graph.specs.Extended.{HasLoaded}
use Rattle.graph.specs.LoadedEdges.{numbers_in}
use Rattle.graph.specs.Links.{Links, links_of, needs_of}
use Rattle.graph.specs.Told.{declared_by}
use Rattle.plan.specs.declared.plan.Plan.{Plan}
use Rattle.plan.specs.declared.step.Standing.{Standing}
use Rattle.plan.specs.Standing.{standing_at, is_outside, is_unjudged}
use Rattle.plan.specs.Plan.{is_missing}
use Rattle.plan.specs.Planned.{IsPlanOver}
use Rattle.plan.specs.Settling.{IsStill}
use Rattle.plan.specs.Extended.{GoesOnFrom}

-- A file is to be loaded by the plan over the one graph, and the other has the same edges in the same pools, with no fewer paths; of these
-- only edges of the file that was loaded have changed.
pub record MayGoOnBy (before graph : Graph) (plan : Plan) (load : Before) : Type 0 where
  pub over : IsPlanOver before plan
  pub some : 0 < length plan.loads.items
  pub edges : length graph.manifest.lines ≡ length before.manifest.lines
  pub paths : length before.manifest.paths ≤ length graph.manifest.paths
  pub pools : graph.manifest.pools ≡ before.manifest.pools
  pub pool : (i : ℕ) → (edge_at (declared_by graph).edges i).pool ≡ (edge_at (declared_by before).edges i).pool
  pub alone : HasGrownAlone (numbers_in load.edges.items) load.file before graph

-- over whatever graph the plan was, it goes on
abbrev pub GoesOnAfter : Graph → Cone → Plan → Plan → Before → Type 0
GoesOnAfter graph cone old new load = (before : Graph) → MayGoOnBy before graph old load → GoesOnFrom before graph cone old new

-- a plan with a file to be loaded may go on so over the graph that has loaded one
abbrev pub LoadsGoOnBy : Type 0
LoadsGoOnBy =
    (before after : Graph) (file : List ℕ) (additions : List Addition) (plan : Plan) (load : Before) → IsPlanOver before plan → 0 < length plan.loads.items
    → HasLoaded before after file additions → HasGrownAlone (numbers_in load.edges.items) load.file before after → MayGoOnBy before after plan load

-- just the edges that stand in the cone are marked
abbrev pub AreInside : List Mark → List Standing → Type 0
AreInside marks standings = (e : ℕ) → is_listed (mark_at marks e) ≡ not (is_outside (standing_at standings e))

-- the edge is a command that was not judged, or not in the cone, and nothing that it makes is there
pub record MayBeCounted (graph : Graph) (standings : List Standing) (there : List Bool) (e : ℕ) : Type 0 where
  pub fresh : (is_unjudged (standing_at standings e) ≡ true) ⊎ (is_outside (standing_at standings e) ≡ true)
  pub none : (p : ℕ) → has_number ((links_of graph).outputs e) p ≡ true → has there p ≡ false

-- so it is of each of these
abbrev pub AreToCount : Graph → List Standing → List Bool → List ℕ → Type 0
AreToCount graph standings there edges = (e : ℕ) → has_number edges e ≡ true → MayBeCounted graph standings there e

-- the flags of more paths, of which those behind the old ones say whether they are sources
pub record AreLongerThere (links : Links) (paths : ℕ) (old new : List Bool) : Type 0 where
  pub fits : length new ≡ paths
  pub same : (p : ℕ) → p < length old → has new p ≡ has old p
  pub sources : (p : ℕ) → length old ≤ p → p < paths → has new p ≡ is_none (links.maker p)

-- the files but for this one
abbrev pub without : ℕ → List ℕ → List ℕ
without file [] = []
without file (f ∷ files) = if f == file then without file files else f ∷ without file files

-- each of these numbers stands there once
abbrev pub AreOnce : List ℕ → Type 0
AreOnce [] = Unit {0}
AreOnce (n ∷ ns) = (has_number ns n ≡ false) × AreOnce ns

-- what is left of edges, where so much is left of this one, if it is a command that was not judged
abbrev pub counted_for : Standing → List ℕ → ℕ → ℕ → List ℕ
counted_for standing left e count = if is_unjudged standing then slice_set left e count else left

-- so it is with what this one waits for
abbrev pub recounted_for : Graph → List Standing → List Bool → List ℕ → ℕ → List ℕ
recounted_for graph standings there left e = counted_for (standing_at standings e) left e (count_by (is_missing there) (needs_of graph e))

-- it was counted anew of these, so far as they are such commands
pub record AreRecounted (graph : Graph) (standings : List Standing) (there : List Bool) (edges old new : List ℕ) : Type 0 where
  pub fits : length new ≡ length old
  pub each : (e : ℕ) → has_number edges e ≡ true → is_unjudged (standing_at standings e) ≡ true → slice_index new e ≡ count_by (is_missing there) (needs_of graph e)
  pub others : (e : ℕ) → has_number edges e ≡ false → slice_index new e ≡ slice_index old e

-- nothing but what is left of commands is changed, and which of them may be judged
pub record OnlyCounts (old new : Plan) : Type 0 where
  pub still : IsStill old new
  pub there : new.there ≡ old.there
  pub pending : new.pending ≡ old.pending

-- ---- the words of the functions

-- they are edges of the graph
abbrev pub AreEdgesIn : Graph → List LoadedEdge → Type 0
AreEdgesIn graph edges = (e : ℕ) → has_number (numbers_in edges) e ≡ true → e < length graph.manifest.lines

-- what these edges of the plan wait for may be counted anew by itself
abbrev pub MayCount : Graph → Plan → List LoadedEdge → Type 0
MayCount graph plan edges = AreToCount graph plan.standings.items plan.there.items (numbers_in edges)

-- it was
abbrev pub HasCounted : Graph → Plan → Plan → List LoadedEdge → Type 0
HasCounted graph old new edges = AreRecounted graph old.standings.items old.there.items (numbers_in edges) old.left.items new.left.items

-- so it was of one edge
abbrev pub HasCountedOne : Graph → Plan → Plan → ℕ → Type 0
HasCountedOne graph old new e = new.left.items ≡ recounted_for graph old.standings.items old.there.items old.left.items e

-- so much is left of one edge, if it is a command that was not judged
abbrev pub SetsLeft : Plan → Plan → ℕ → ℕ → Type 0
SetsLeft old new e count = new.left.items ≡ counted_for (standing_at old.standings.items e) old.left.items e count

-- the plan goes on over each cone that has just the edges that stand in it
abbrev pub GoesOnInside : Graph → Plan → Plan → Before → Type 0
GoesOnInside graph old new load = (cone : Cone) → AreInside cone.marks.items old.standings.items → GoesOnAfter graph cone old new load

-- the flags of the paths of the graph, behind those that there were
abbrev pub AreThereBehind : Graph → List Bool → List Bool → Type 0
AreThereBehind graph old new = AreLongerThere (links_of graph) (length graph.manifest.paths) old new

-- the same flags, with room for so many
pub record IsCopyWithRoom (flags : List Bool) (count : ℕ) (copy : List Bool) (places : ℕ) : Type 0 where
  pub items : copy ≡ flags
  pub room : count ≤ places
