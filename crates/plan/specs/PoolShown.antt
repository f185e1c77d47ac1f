-- What a pool shows.
use Rattle.std.specs.Prelude.{◌≡◌, ℕ, ◌<◌, ◌≤◌, Bool, true, false, List, length, slice_index, slice_set, Option, None, Some, IfSome, MatchOption}
use Rattle.plan.specs.Flags.{has, IsFirst, AreNone}
use Rattle.plan.specs.declared.pool.Pool.{Pool}

abbrev pub member_at : Pool → ℕ → ℕ
member_at pool r = slice_index pool.members.items r

-- the members stand in order, and only their places wait
pub record AreMembers (pool : Pool) : Type 0 where
  pub ordered : (r q : ℕ) → r < q → q < length pool.members.items → member_at pool r < member_at pool q
  pub waiting : (r : ℕ) → has pool.waiting r ≡ true → r < length pool.members.items
  pub fits : length pool.members.items ≤ length pool.waiting

-- the lowest member that waits
pub record IsTurn (pool : Pool) (edge : ℕ) : Type 0 where
  pub rank : ℕ
  pub first : IsFirst pool.waiting rank
  pub room : pool.running < pool.depth
  pub is : member_at pool rank ≡ edge

-- the lowest member that waits is shown, where there is room; none, where there is no room or none waits
abbrev pub IsShown : Pool → Option ℕ → Type 0
IsShown pool shown = MatchOption shown (pool.running < pool.depth → AreNone pool.waiting) (IsTurn pool)

abbrev pub ShownWithin : Pool → ℕ → Type 0
ShownWithin pool count = IfSome pool.shown (λ e. e < count)

abbrev pub without : Option ℕ → List Bool → List Bool
without None front = front
without (Some e) front = slice_set front e false

abbrev pub with : Option ℕ → List Bool → List Bool
with None front = front
with (Some e) front = slice_set front e true

-- one edge stands in front in place of another
abbrev pub with_shown : Option ℕ → Option ℕ → List Bool → List Bool
with_shown old new front = with new (without old front)
