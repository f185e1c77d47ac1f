-- What a build begins with.
use Rattle.std.specs.Prelude.{◌≡◌, ℕ, ◌<◌, Bool, IsTrue, List, [], Option, Some, None, length}
use Rattle.std.specs.Option.{option_map}
use Rattle.model.specs.declared.event.Moment.{Moment}
use Rattle.model.specs.World.{World}
use Rattle.seen_true.specs.Going.{EntersAt}
use Rattle.seen.specs.declared.counts.Counts.{Counts}
use Rattle.seen.specs.declared.notes.Entry.{Entry}
use Rattle.seen.specs.Beginning.{started_by}
use Rattle.seen.specs.Known.{known_of}
use Rattle.seen.specs.Makers.{maker_of}

-- no command was started yet, each that makes a path has its place, and what it makes is listed
pub record IsUnbegun (counts : Counts) : Type 0 where
  pub table : counts.makers.table.entries ≡ []
  pub room : (p : List ℕ) (job : ℕ) → maker_of counts.makers p ≡ Some job → job < length counts.starts.items
  pub none : (maker : Option ℕ) → started_by counts.starts.items maker ≡ None

-- what is known of notes was read of their file at some moment since this had happened
abbrev pub EntersSince : Bool → Entry → (past : List Moment) → World → Type 0
EntersSince tells entry past world = IsTrue tells → EntersAt (known_of entry.counts) (option_map (λ text. text.items) entry.base) past world.history
