-- The places of edges in their pools.
use Rattle.std.specs.Prelude.{◌≡◌, ℕ, ◌<◌, ◌≤◌, List, [], ◌∷◌, ◌++◌, map, replicate, length, slice_index, slice_index_or, slice_set, Option, None, Some}
use Rattle.plan.specs.Flags.{AreNone}
use Rattle.plan.specs.declared.pool.Pool.{Pool}

abbrev pub members_of : Pool → List ℕ
members_of pool = pool.members.items

abbrev pub depth_of : Pool → ℕ
depth_of pool = pool.depth

abbrev pub running_of : Pool → ℕ
running_of pool = pool.running

abbrev pub shown_of : Pool → Option ℕ
shown_of pool = pool.shown

-- the members of the pool of this place
abbrev pub list_at : List (List ℕ) → ℕ → List ℕ
list_at lists g = slice_index_or lists g []

abbrev pub members_at : List Pool → ℕ → List ℕ
members_at pools g = list_at (map members_of pools) g

-- the members of a pool are the edges that name it, in order
pub record AreSeated (groups : List (Option ℕ)) (ranks : List ℕ) (lists : List (List ℕ)) : Type 0 where
  pub fits : length ranks ≡ length groups
  pub within : (e g : ℕ) → slice_index_or groups e None ≡ Some g → slice_index ranks e < length (list_at lists g)
  pub seated : (e g : ℕ) → slice_index_or groups e None ≡ Some g → slice_index (list_at lists g) (slice_index ranks e) ≡ e
  pub listed : (g r : ℕ) → r < length (list_at lists g) → slice_index_or groups (slice_index (list_at lists g) r) None ≡ Some g
  pub ordered : (g r q : ℕ) → r < q → q < length (list_at lists g) → slice_index (list_at lists g) r < slice_index (list_at lists g) q

-- one more member
abbrev pub with_member : List (List ℕ) → Option ℕ → ℕ → List (List ℕ)
with_member members None e = members
with_member members (Some g) e = slice_set members g (list_at members g ++ e ∷ [])

-- the place behind the members of a pool
abbrev pub rank_in : List (List ℕ) → Option ℕ → ℕ
rank_in members None = 0
rank_in members (Some g) = length (list_at members g)

-- all but members and their room is as before
pub record HaveSameLimits (old new : List Pool) : Type 0 where
  pub depths : map depth_of new ≡ map depth_of old
  pub running : map running_of new ≡ map running_of old
  pub shown : map shown_of new ≡ map shown_of old

-- pools without edges
pub record AreEmpty (limits : List ℕ) (pools : List Pool) : Type 0 where
  pub depths : map depth_of pools ≡ limits
  pub running : map running_of pools ≡ replicate (length limits) 0
  pub shown : (g : ℕ) → slice_index_or (map shown_of pools) g None ≡ None
  pub members : (g : ℕ) → members_at pools g ≡ []

-- each member has room to wait, and none does
pub record HasRoom (pool : Pool) : Type 0 where
  pub room : length pool.members.items ≤ length pool.waiting
  pub none : AreNone pool.waiting
