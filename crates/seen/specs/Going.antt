-- A call that only looks at the site below goes on with what was told.
use Rattle.std.specs.Prelude.{◌≡◌, ℕ, Bool, List, Option, IsTrue}
use Rattle.model.specs.World.{World}
use Rattle.model.specs.Calls.{OnlyLooks}
use Rattle.seen_law.specs.Retold.{none_started, started_after}
use Rattle.seen_true.specs.Going.{Notes, NotesStand, since}
use Rattle.seen_true.specs.Counting.{telling}
use Rattle.seen.specs.Begun.{Begun, BeginsTold, GoesOn, told_world}

-- the history goes on, no command was started, the site that is told was only looked at, and notes stay true
pub record StaysTold (tells : Bool) (b : Begun) (x y : World) : Type 0 where
  pub so_far : GoesOn tells b y
  pub started : IsTrue tells → (p : List ℕ) → started_after (telling b.knows) none_started (since b y) p ≡ started_after (telling b.knows) none_started (since b x) p
  pub looks : OnlyLooks tells (told_world tells b x) (told_world tells b y)
  pub stand : NotesStand tells b x → NotesStand tells b y
  pub kept : (base : Option (List ℕ)) (lines : List ℕ) → Notes tells b base lines x → Notes tells b base lines y

abbrev pub LooksGoOn : Type 0
LooksGoOn = (tells : Bool) (b : Begun) (x y : World) → (IsTrue tells → BeginsTold b) → GoesOn tells b x → OnlyLooks tells x y → StaysTold tells b x y
