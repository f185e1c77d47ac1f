-- Edges that wait for their start, in pools of which so many commands may run at once.
use Rattle.std.specs.Prelude.{◌≡◌, ℕ, ◌<◌, nat_lt, ◌&&◌, Bool, true, false, List, length, replicate, slice_index, slice_index_or, slice_set, Option, None, Some}
use Rattle.plan.specs.Flags.{has}

pub record Turns : Type 0 where
  -- the pool of each edge
  pub groups : List (Option ℕ)
  -- how many commands of each pool may run at once
  pub depths : List ℕ
  -- how many do
  pub running : List ℕ
  -- whether each edge waits
  pub waiting : List Bool

-- no edge waits and no command runs
abbrev pub first_turns : List (Option ℕ) → List ℕ → Turns
first_turns groups depths =
    record { groups = groups; depths = depths; running = replicate (length depths) 0; waiting = replicate (length groups) false }

abbrev pub group_at : Turns → ℕ → Option ℕ
group_at turns e = slice_index_or turns.groups e None

-- fewer commands of the pool run than may
abbrev pub room : Turns → Option ℕ → Bool
room turns None = true
room turns (Some g) = nat_lt (slice_index turns.running g) (slice_index turns.depths g)

-- the edge waits, and there is room for it in its pool
abbrev pub may : Turns → ℕ → Bool
may turns e = has turns.waiting e && room turns (group_at turns e)

-- the lowest edge that waits and has room
pub record IsFirstTurn (turns : Turns) (e : ℕ) : Type 0 where
  pub is : may turns e ≡ true
  pub lowest : (k : ℕ) → k < e → may turns k ≡ false

abbrev pub NoTurn : Turns → Type 0
NoTurn turns = (e : ℕ) → may turns e ≡ false

-- whether the edge waits from now on
abbrev pub with_waiting : Turns → ℕ → Bool → Turns
with_waiting turns e flag = record turns { waiting = slice_set turns.waiting e flag }

abbrev pub runs_in : List ℕ → Option ℕ → ℕ
runs_in running None = 0
runs_in running (Some g) = slice_index running g

-- how many commands of the edge's pool run; 0 where it has none
abbrev pub runs_at : Turns → ℕ → ℕ
runs_at turns e = runs_in turns.running (group_at turns e)

abbrev pub set_runs : List ℕ → Option ℕ → ℕ → List ℕ
set_runs running None count = running
set_runs running (Some g) count = slice_set running g count

-- so many commands of the edge's pool run from now on
abbrev pub with_running : Turns → ℕ → ℕ → Turns
with_running turns e count = record turns { running = set_runs turns.running (group_at turns e) count }

-- the pools of edges are among so many
abbrev pub AreWithin : ℕ → List (Option ℕ) → Type 0
AreWithin count groups = (e g : ℕ) → slice_index_or groups e None ≡ Some g → g < count
