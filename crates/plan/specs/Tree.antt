-- Binary trees in flat memory: the nodes below node i stand at 2 * i and 2 * i + 1.
use Rattle.std.specs.Prelude.{◌≡◌, ◌≢◌, ℕ, ◌+◌, ◌*◌, ◌^◌, ◌<◌, ◌≤◌, ◌||◌, Bool, true, false, List, length, slice_index_or}
use Rattle.plan.specs.declared.lowest.Shape.{Shape}

abbrev pub node_at : List Bool → ℕ → Bool
node_at tree i = slice_index_or tree i false

-- a node is set just where one of the two below it is
abbrev pub IsJoined : List Bool → ℕ → Type 0
IsJoined tree i = node_at tree i ≡ (node_at tree (2 * i) || node_at tree (2 * i + 1))

-- each node with nodes below it is set just where one of them is
abbrev pub AreJoined : List Bool → Type 0
AreJoined tree = (i : ℕ) → 0 < i → 2 * i + 1 < length tree → IsJoined tree i

-- so is each but perhaps this one
abbrev pub AreJoinedBut : ℕ → List Bool → Type 0
AreJoinedBut node tree = (i : ℕ) → 0 < i → 2 * i + 1 < length tree → i ≢ node → IsJoined tree i

pub record IsTree (height leaves : ℕ) (tree : List Bool) : Type 0 where
  pub shape : leaves ≡ 2 ^ height
  pub size : length tree ≡ 2 * leaves
  pub joined : AreJoined tree

-- a form with room for so many leaves
pub record IsShape (bound : ℕ) (shape : Shape) : Type 0 where
  pub room : bound ≤ shape.leaves
  pub power : shape.leaves ≡ 2 ^ shape.height
  pub small : shape.leaves < 2 ^ 63

-- the first node of its level that is set, where the level begins at this place
pub record IsFirstAt (start : ℕ) (tree : List Bool) (node : ℕ) : Type 0 where
  pub after : start ≤ node
  pub before : node < 2 * start
  pub is : node_at tree node ≡ true
  pub lowest : (k : ℕ) → start ≤ k → k < node → node_at tree k ≡ false
