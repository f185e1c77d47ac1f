-- Which outputs of a command were changed.
use Rattle.std.specs.Prelude.{◌≡◌, ◌≢◌, ◌<◌, ℕ, Bool, true, false, List, length, slice_index}
use Rattle.model.specs.Graph.{has_number}
use Rattle.plan.specs.Flags.{has}
use Rattle.plan.specs.declared.step.Changed.{Changed}
use Rattle.plan.specs.declared.step.Changed.TheVariants.{All, Each}

-- the flags are those handed in for these paths, and for other paths as before
pub record AreFlagged (old new : List Bool) (paths : List ℕ) (flags : List Bool) : Type 0 where
  pub given : (k : ℕ) → k < length paths → has new (slice_index paths k) ≡ has flags k
  pub others : (p : ℕ) → ((k : ℕ) → k < length paths → slice_index paths k ≢ p) → has new p ≡ has old p

-- the flags of these paths are set, and those of other paths are as before
pub record AreSetAt (old new : List Bool) (paths : List ℕ) : Type 0 where
  pub set : (p : ℕ) → has_number paths p ≡ true → has new p ≡ true
  pub others : (p : ℕ) → has_number paths p ≡ false → has new p ≡ has old p

-- where some of these paths were changed, each has a flag
abbrev pub IsForEach : Changed → List ℕ → Type 0
IsForEach All paths = Unit {0}
IsForEach (Each flags) paths = length flags.now ≡ length paths

-- which of these paths were changed is noted, and flags of other paths are as before
abbrev pub AreNoted : List Bool → List Bool → List ℕ → Changed → Type 0
AreNoted old new paths All = AreSetAt old new paths
AreNoted old new paths (Each flags) = AreFlagged old new paths flags.now
