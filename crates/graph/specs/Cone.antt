-- The edges that a build needs, and walks from edges up to what they need.
use Rattle.std.specs.Prelude.{◌≡◌, ◌≢◌, ℕ, suc, ◌+◌, ◌-◌, ◌*◌, ◌<◌, ◌≤◌, Bool, true, false, List, [], ◌∷◌, ◌++◌, length, map, slice_index, slice_index_or, EachIndex, count_by, sum, Option, Some, None}
use Rattle.model.specs.Graph.{has_number}
use Rattle.graph.specs.declared.graph.Graph.{Graph}
use Rattle.graph.specs.declared.cone.Cone.{Cone}
use Rattle.graph.specs.declared.cone.Mark.{Mark}
use Rattle.graph.specs.declared.cone.Mark.TheVariants.{Unseen, Open, Listed}
use Rattle.graph.specs.declared.walk.Walk.{Walk}
use Rattle.graph.specs.declared.cone.ConeFault.{ConeFault}
use Rattle.graph.specs.declared.cone.ConeFault.TheVariants.{Memory, Unknown, Cycle}
use Rattle.graph.specs.Links.{Links, needs_at, links_of}

-- the maker of what stands at this place among what the edge needs; None for a source
abbrev pub maker_at : Links → ℕ → ℕ → Option ℕ
maker_at links e k = links.maker (slice_index (needs_at links e) k)

-- the maker of the validation at this place of the edge's list
abbrev pub validator_at : Links → ℕ → ℕ → Option ℕ
validator_at links e k = links.maker (slice_index (links.validations e) k)

-- ---- the cone

-- an edge that was asked for, or one that makes what such an edge needs or names for validation, and so on
pub data IsNeeded (links : Links) (requested : List ℕ) : ℕ → Type 0 where
  Asked : (k : ℕ) → k < length requested → IsNeeded links requested (slice_index requested k)
  Above : (e k m : ℕ) → IsNeeded links requested e → k < length (needs_at links e) → maker_at links e k ≡ Some m → IsNeeded links requested m
  Beside : (e k m : ℕ) → IsNeeded links requested e → k < length (links.validations e) → validator_at links e k ≡ Some m → IsNeeded links requested m

abbrev pub made_by : List ℕ → Option ℕ → Bool
made_by edges None = true
made_by edges (Some e) = has_number edges e

-- the edge is none of those before it, and they make all that it needs
pub record Follows (links : Links) (before : List ℕ) (e : ℕ) : Type 0 where
  pub once : has_number before e ≡ false
  pub made : (k : ℕ) → k < length (needs_at links e) → made_by before (maker_at links e k) ≡ true

-- each edge once, and after the makers of what it needs
abbrev pub IsOrder : Links → List ℕ → List ℕ → Type 0
IsOrder links before [] = Unit {0}
IsOrder links before (e ∷ es) = Follows links before e × IsOrder links (before ++ e ∷ []) es

-- ---- marks

abbrev pub mark_at : List Mark → ℕ → Mark
mark_at marks e = slice_index_or marks e Unseen

abbrev pub is_listed : Mark → Bool
is_listed Unseen = false
is_listed Open = false
is_listed Listed = true

abbrev pub is_open : Mark → Bool
is_open Unseen = false
is_open Open = true
is_open Listed = false

abbrev pub is_unseen : Mark → Bool
is_unseen Unseen = true
is_unseen Open = false
is_unseen Listed = false

-- the makers of the edge's validations are among these
abbrev pub IsValidatedBy : Links → List ℕ → ℕ → Type 0
IsValidatedBy links edges e = (k : ℕ) → k < length (links.validations e) → made_by edges (validator_at links e k) ≡ true

-- just the needed edges, in an order without a cycle; the marks show which they are
pub record IsCone (links : Links) (requested order : List ℕ) (marks : List Mark) : Type 0 where
  pub fits : length marks ≡ links.count
  pub ordered : IsOrder links [] order
  pub asked : (k : ℕ) → k < length requested → has_number order (slice_index requested k) ≡ true
  pub validated : (e : ℕ) → has_number order e ≡ true → IsValidatedBy links order e
  pub needed : (e : ℕ) → has_number order e ≡ true → IsNeeded links requested e
  pub marked : (e : ℕ) → is_listed (mark_at marks e) ≡ has_number order e

-- the cone of these edges of the graph
abbrev pub IsConeFrom : Graph → List ℕ → Cone → Type 0
IsConeFrom graph requested cone = IsCone (links_of graph) requested cone.order.items cone.marks.items

-- ---- cycles

-- the path is made by an edge that needs the other
pub record IsMadeFrom (links : Links) (p q : ℕ) : Type 0 where
  pub edge : ℕ
  pub made : links.maker p ≡ Some edge
  pub needs : has_number (needs_at links edge) q ≡ true

-- each of these paths is made by an edge that needs the next
abbrev pub IsChain : Links → List ℕ → Type 0
IsChain links [] = Unit {0}
IsChain links (p ∷ []) = Unit {0}
IsChain links (p ∷ q ∷ ps) = IsMadeFrom links p q × IsChain links (q ∷ ps)

-- the paths lead round a cycle of needed edges, and begin and end with the path of the lowest of these
pub record IsRound (links : Links) (requested paths : List ℕ) : Type 0 where
  pub first : ℕ
  pub middle : List ℕ
  pub round : paths ≡ first ∷ (middle ++ first ∷ [])
  pub chain : IsChain links paths
  pub needed : (p e : ℕ) → has_number paths p ≡ true → links.maker p ≡ Some e → IsNeeded links requested e
  pub lowest : (p d e : ℕ) → links.maker first ≡ Some d → has_number paths p ≡ true → links.maker p ≡ Some e → d ≤ e

-- a cycle is told only where there is one
abbrev pub IsConeFault : Links → List ℕ → ConeFault → Type 0
IsConeFault links requested Memory = Unit {0}
IsConeFault links requested (Unknown place) = ⊥
IsConeFault links requested (Cycle paths) = IsRound links requested paths

-- ---- walks

-- what the edge needs from this place on has no maker
pub record IsMadeEnd (links : Links) (e end : ℕ) : Type 0 where
  pub within : end ≤ length (needs_at links e)
  pub sources : (k : ℕ) → end ≤ k → k < length (needs_at links e) → maker_at links e k ≡ None

-- the path that an edge waits for: the last of its inputs that are left
abbrev pub awaited : Links → List ℕ → ℕ → ℕ
awaited links left e = slice_index (needs_at links e) (slice_index left e - 1)

-- an input of the edge is left
pub record IsLeft (links : Links) (left : List ℕ) (e : ℕ) : Type 0 where
  pub some : 0 < slice_index left e
  pub fits : slice_index left e ≤ length (needs_at links e)

-- the edge waits for a path that the other makes
pub record Awaits (links : Links) (left : List ℕ) (e d : ℕ) : Type 0 where
  pub some : 0 < slice_index left e
  pub made : links.maker (awaited links left e) ≡ Some d

abbrev pub maker_listed : List Mark → Option ℕ → Bool
maker_listed marks None = true
maker_listed marks (Some e) = is_listed (mark_at marks e)

-- what stands between the steps of a walk
pub record IsWalkAt (links : Links) (requested order : List ℕ) (marks : List Mark) (left stack : List ℕ) : Type 0 where
  pub fits : length marks ≡ links.count
  pub lefts : length left ≡ links.count
  pub some_left : (e : ℕ) → e < links.count → slice_index left e ≤ length (needs_at links e)
  -- the open edges are those on the stack, each once
  pub within : (k : ℕ) → k < length stack → slice_index stack k < links.count
  pub opened : (k : ℕ) → k < length stack → mark_at marks (slice_index stack k) ≡ Open
  pub apart : (j k : ℕ) → j < k → k < length stack → slice_index stack j ≢ slice_index stack k
  pub stacked : (e : ℕ) → mark_at marks e ≡ Open → (k : ℕ) × (k < length stack) × (slice_index stack k ≡ e)
  -- each waits for what the next one makes
  pub awaits : (k : ℕ) → suc k < length stack → Awaits links left (slice_index stack k) (slice_index stack (suc k))
  -- the makers of the inputs that were looked at are listed
  pub looked : (e k : ℕ) → e < links.count → slice_index left e ≤ k → k < length (needs_at links e) → maker_listed marks (maker_at links e k) ≡ true
  pub listed : (e : ℕ) → is_listed (mark_at marks e) ≡ has_number order e
  pub ordered : IsOrder links [] order
  pub needed : (e : ℕ) → is_unseen (mark_at marks e) ≡ false → IsNeeded links requested e

pub record IsWalk (graph : Graph) (requested : List ℕ) (walk : Walk) : Type 0 where
  pub same : walk.graph.now ≡ graph
  pub asked : walk.requested.now ≡ requested
  pub at : IsWalkAt (links_of graph) requested walk.order.items walk.marks.items walk.left.items walk.stack.items

-- what was seen stays so
abbrev pub Keeps : List Mark → List Mark → Type 0
Keeps old new = (e : ℕ) → is_unseen (mark_at old e) ≡ false → is_unseen (mark_at new e) ≡ false

-- an order that grows keeps its beginning
pub record Grows (old new : List ℕ) : Type 0 where
  pub longer : length old ≤ length new
  pub same : (k : ℕ) → k < length old → slice_index new k ≡ slice_index old k

abbrev pub maker_seen : List Mark → Option ℕ → Type 0
maker_seen marks None = Unit {0}
maker_seen marks (Some e) = is_unseen (mark_at marks e) ≡ false

-- the makers of so many of the edge's validations were seen
abbrev pub HasSeenMakers : Links → List Mark → ℕ → ℕ → Type 0
HasSeenMakers links marks e count = (k : ℕ) → k < count → maker_seen marks (validator_at links e k)

-- the makers of the validations of so many of the listed edges were seen
abbrev pub HasSeenValidators : Links → List Mark → List ℕ → ℕ → Type 0
HasSeenValidators links marks order count = (j : ℕ) → j < count → HasSeenMakers links marks (slice_index order j) (length (links.validations (slice_index order j)))

-- what a walk has still to do
abbrev pub work : Walk → ℕ
work walk = 2 * count_by is_unseen walk.marks.items + sum walk.left.items + length walk.stack.items

-- the last open edge
pub record IsLast (stack : List ℕ) (e : ℕ) : Type 0 where
  pub some : 0 < length stack
  pub is : slice_index stack (length stack - 1) ≡ e

-- the last of the inputs that are left
pub record IsNextInput (links : Links) (left e p : ℕ) : Type 0 where
  pub some : 0 < left
  pub is : slice_index (needs_at links e) (left - 1) ≡ p

-- ---- the words of a walk

-- all of these were seen
abbrev pub AllSeen : List Mark → List ℕ → Type 0
AllSeen marks edges = EachIndex edges (λ k. is_unseen (mark_at marks (slice_index edges k)) ≡ false)

-- the makers of all of the edge's validations were seen
abbrev pub HasSeenAll : Links → List Mark → ℕ → Type 0
HasSeenAll links marks e = HasSeenMakers links marks e (length (links.validations e))

-- the makers of the validations of all listed edges were seen
abbrev pub HasValidated : Graph → Walk → Type 0
HasValidated graph walk = HasSeenValidators (links_of graph) walk.marks.items walk.order.items (length walk.order.items)

-- how many of the edge's inputs are left
abbrev pub left_at : Walk → ℕ → ℕ
left_at walk e = slice_index walk.left.items e

-- the path is the last of the edge's inputs that are left
abbrev pub IsNextAt : Walk → ℕ → ℕ → Type 0
IsNextAt walk e p = IsNextInput (links_of walk.graph.now) (left_at walk e) e p

-- nothing has to be done for the last of them: it is a source, or its maker is listed
abbrev pub IsNextDone : Walk → ℕ → Type 0
IsNextDone walk e = maker_listed walk.marks.items (maker_at (links_of walk.graph.now) e (left_at walk e - 1)) ≡ true

-- edge e waits for a path that d makes
abbrev pub WaitsFor : Walk → ℕ → ℕ → Type 0
WaitsFor walk e d = Awaits (links_of walk.graph.now) walk.left.items e d

-- each of these has an input that is left
abbrev pub EachWaits : Walk → List ℕ → Type 0
EachWaits walk edges = EachIndex edges (λ k. IsLeft (links_of walk.graph.now) walk.left.items (slice_index edges k))

-- the path that an edge waits for
abbrev pub awaited_in : Walk → ℕ → ℕ
awaited_in walk = awaited (links_of walk.graph.now) walk.left.items

-- what the last of these edges waits for, and then what each of them waits for
abbrev pub paths_round : Walk → List ℕ → List ℕ
paths_round walk edges = awaited_in walk (slice_index edges (length edges - 1)) ∷ map (awaited_in walk) edges

-- for each edge up to where it needs what some edge makes
abbrev pub AreMadeEnds : Links → List ℕ → Type 0
AreMadeEnds links ends = EachIndex ends (λ e. IsMadeEnd links e (slice_index ends e))
