-- Calls in which the program writes at one path alone: a log, a response file, the file that a tick touches.
use Rattle.std.specs.Prelude.{◌≡◌, ℕ, Bool, IsTrue, List, ◌++◌}
use Rattle.std.specs.List.{AllByRecursion}
use Rattle.model.specs.declared.event.Moment.{Moment}
use Rattle.model.specs.declared.event.Moment.TheVariants.{Wrote, Happened}
use Rattle.model.specs.declared.event.Writer.TheVariants.{Program, Command, Someone}
use Rattle.model.specs.World.{World, IsRunning}

-- a write of the program at the path, or a write of others
abbrev pub IsAtOrByOthers : List ℕ → (ℕ → Type 0) → Moment → Type 0
IsAtOrByOthers path running (Wrote Program at content stamp) = at ≡ path
IsAtOrByOthers path running (Wrote (Command job) at content stamp) = running job
IsAtOrByOthers path running (Wrote Someone at content stamp) = Unit {0}
IsAtOrByOthers path running (Happened event) = ⊥

-- the history grew by such writes
pub record GrewAt (path : List ℕ) (running : ℕ → Type 0) (old new : List Moment) : Type 0 where
  pub more : List Moment
  pub grows : new ≡ old ++ more
  pub all : AllByRecursion (IsAtOrByOthers path running) more

-- The program wrote at this path alone, as often as it liked, perhaps never; nothing was started or ended.
pub record WritesAt (tells : Bool) (path : List ℕ) (old new : World) : Type 0 where
  pub events : new.events ≡ old.events
  pub ticked : new.ticked ≡ old.ticked
  pub at_start : new.failures_at_start ≡ old.failures_at_start
  pub history : IsTrue tells → GrewAt path (IsRunning old.events) old.history new.history
