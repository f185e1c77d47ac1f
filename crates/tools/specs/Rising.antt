-- A walk up to the edges that are needed for paths, between its steps.
use Rattle.std.specs.Prelude.{◌≡◌, ◌≢◌, ℕ, suc, ◌+◌, ◌-◌, ◌*◌, ◌<◌, ◌≤◌, true, false, List, length, slice_index, count_by, sum, Some}
use Rattle.model.specs.Graph.{has_number}
use Rattle.graph.specs.Cone.{IsLast, mark_at, is_listed, is_unseen, maker_seen}
use Rattle.graph.specs.Held.{StandOnce}
use Rattle.graph.specs.Links.{Links, links_of}
use Rattle.graph.specs.declared.cone.Mark.{Mark}
use Rattle.graph.specs.declared.cone.Mark.TheVariants.{Open}
use Rattle.graph.specs.declared.graph.Graph.{Graph}
use Rattle.tools.specs.declared.above.Walk.{Walk}
use Rattle.tools.specs.Above.{AreBehindMakers, IsNeededFor, MakesInputOf}

pub record IsRiseAt (links : Links) (paths order : List ℕ) (marks : List Mark) (left stack : List ℕ) : Type 0 where
  pub fits : length marks ≡ links.count
  pub lefts : length left ≡ links.count
  pub some_left : (e : ℕ) → e < links.count → slice_index left e ≤ length (links.inputs e)
  -- the open edges are those on the stack, each once
  pub within : (k : ℕ) → k < length stack → slice_index stack k < links.count
  pub opened : (k : ℕ) → k < length stack → mark_at marks (slice_index stack k) ≡ Open
  pub apart : (j k : ℕ) → j < k → k < length stack → slice_index stack j ≢ slice_index stack k
  pub stacked : (e : ℕ) → mark_at marks e ≡ Open → (k : ℕ) × (k < length stack) × (slice_index stack k ≡ e)
  -- each makes an input of the one before it
  pub chain : (k : ℕ) → suc k < length stack → MakesInputOf links (slice_index stack (suc k)) (slice_index stack k)
  -- the makers of the inputs that were looked at were seen
  pub looked : (e k : ℕ) → e < links.count → k + slice_index left e < length (links.inputs e) → maker_seen marks (links.maker (slice_index (links.inputs e) k))
  pub listed : (e : ℕ) → is_listed (mark_at marks e) ≡ has_number order e
  pub done : (e : ℕ) → has_number order e ≡ true → slice_index left e ≡ 0
  pub once : StandOnce order
  pub ordered : AreBehindMakers links order
  pub needed : (e : ℕ) → is_unseen (mark_at marks e) ≡ false → IsNeededFor links paths e

pub record IsRise (graph : Graph) (paths : List ℕ) (walk : Walk) : Type 0 where
  pub same : walk.graph.now ≡ graph
  pub asked : walk.paths.now ≡ paths
  pub at : IsRiseAt (links_of graph) paths walk.order.items walk.marks.items walk.left.items walk.stack.items

-- what a walk has still to do
abbrev pub work : Walk → ℕ
work walk = 2 * count_by is_unseen walk.marks.items + sum walk.left.items + length walk.stack.items

-- how many of the edge's inputs are left
abbrev pub left_at : Walk → ℕ → ℕ
left_at walk e = slice_index walk.left.items e

-- the first of these inputs
pub record IsNext (links : Links) (left e p : ℕ) : Type 0 where
  pub some : 0 < left
  pub fits : left ≤ length (links.inputs e)
  pub is : slice_index (links.inputs e) (length (links.inputs e) - left) ≡ p

-- the path is the first of the edge's inputs that are left
abbrev pub IsNextOf : Walk → ℕ → ℕ → Type 0
IsNextOf walk e p = IsNext (links_of walk.graph.now) (left_at walk e) e p

-- the edge makes an input of each last open one
abbrev pub IsAwaited : Walk → ℕ → Type 0
IsAwaited walk e = (last : ℕ) → IsLast walk.stack.items last → MakesInputOf (links_of walk.graph.now) e last

-- so does the edge that makes the path, and it is needed
abbrev pub MakerIsAwaited : Walk → ℕ → Type 0
MakerIsAwaited walk p = (m last : ℕ) → (links_of walk.graph.now).maker p ≡ Some m → IsLast walk.stack.items last → MakesInputOf (links_of walk.graph.now) m last

abbrev pub MakerIsNeeded : Walk → ℕ → Type 0
MakerIsNeeded walk p = (m : ℕ) → (links_of walk.graph.now).maker p ≡ Some m → IsNeededFor (links_of walk.graph.now) walk.paths.now m

-- the maker of the edge's next input was seen
abbrev pub HasSeenNext : Walk → ℕ → Type 0
HasSeenNext walk e = (p : ℕ) → IsNextOf walk e p → maker_seen walk.marks.items ((links_of walk.graph.now).maker p)

-- all inputs of each edge are counted
abbrev pub CountsInputs : Graph → List ℕ → Type 0
CountsInputs graph counts = (e : ℕ) → e < length graph.manifest.lines → slice_index counts e ≡ length ((links_of graph).inputs e)
