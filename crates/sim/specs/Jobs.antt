-- What a site in memory tells of its commands.
use Rattle.std.specs.Prelude.{◌≡◌, ℕ, ◌+◌, ◌≤◌, Bool, true, false, if◌then◌else◌, List, [], ◌∷◌, ◌++◌, length, Option, Some}
use Rattle.std.specs.Ordering.{nat_cmp}
use Rattle.std.specs.BTreeMap.{insert_entry, is_at}
use Rattle.std.specs.Map.{lookup, remove_entry}
use Rattle.model.specs.declared.act.Act.{Act}
use Rattle.model.specs.declared.event.Event.{Event}
use Rattle.model.specs.declared.event.Event.TheVariants.{Start, Finish}
use Rattle.model.specs.World.{runs}
use Rattle.sim.specs.declared.jobs.Running.{Running}

-- the starts and ends before the last restart and those since, and the commands that run, lowest number first; once the site has
-- stopped, no command is listed
pub record Told : Type 0 where
  pub earlier : List Event
  pub events : List Event
  pub running : List (ℕ × Running)
  pub stopped : Bool

abbrev pub nothing_told : Told
nothing_told = record { earlier = []; events = []; running = []; stopped = false }

abbrev pub running_at : ℕ → List (ℕ × Running) → Option Running
running_at job running = lookup (is_at (nat_cmp job)) running

-- each command of the list runs by these events
abbrev pub AllRun : List (ℕ × Running) → List Event → Type 0
AllRun running events = (job : ℕ) (one : Running) → running_at job running ≡ Some one → runs job events ≡ true

abbrev pub one_running : Act → Option Bool → Running
one_running act done = record { act = act; done = done }

-- what is found of another number once the command is listed, where this was found before
abbrev pub found_with : ℕ → Act → Option Bool → ℕ → Option Running → Option Running
found_with job act done other found = if is_at (nat_cmp job) other then Some (one_running act done) else found

-- The command is listed, each other one as before, and the list has one more at most.
pub record IsListed (job : ℕ) (act : Act) (done : Option Bool) (old new : List (ℕ × Running)) : Type 0 where
  pub entries : new ≡ insert_entry nat_cmp old job (one_running act done)
  pub found : (other : ℕ) → running_at other new ≡ found_with job act done other (running_at other old)
  pub room : length new ≤ length old + 1

abbrev pub with_start : ℕ → Act → ℕ → Option Bool → Told → Told
with_start job act stamp done told = record told {
  events = told.events ++ Start job act stamp ∷ [];
  running = insert_entry nat_cmp told.running job (record { act = act; done = done });
}

abbrev pub with_finish : ℕ → Bool → Told → Told
with_finish job ok told = record told {
  events = told.events ++ Finish job ok ∷ [];
  running = remove_entry (is_at (nat_cmp job)) told.running;
}

abbrev pub halted : Told → Told
halted told = record told { running = []; stopped = true }

abbrev pub restarted : Told → Told
restarted told = record { earlier = told.earlier ++ told.events; events = []; running = []; stopped = false }
