-- What somebody else wrote where a command had made a path.
use Rattle.std.specs.Prelude.{◌≡◌, ◌↔◌, ◌||◌, ℕ, not, Bool, true, false, IsTrue, List, Option, Some, None}
use Rattle.model.specs.Calls.{Sees}
use Rattle.model.specs.Graph.{has}
use Rattle.model.specs.World.{World, file_at}
use Rattle.log_text.specs.Keeping.{IsParsed, OfKept}
use Rattle.log_text.specs.declared.tail.Tail.{Tail}
use Rattle.seen_log.specs.Keeping.{Keeps}
use Rattle.seen_log.specs.Log.{noted_in_force}
use Rattle.seen_log.specs.Record.{forms}
use Rattle.seen_log.specs.declared.log.Log.{Log}
use Rattle.seen_log.specs.declared.note.Note.{Note}
use Rattle.seen_log.specs.declared.note.Noted.{Noted}
use Rattle.seen_true.specs.Counting.{is_as_noted, is_turned}
use Rattle.measure.specs.Measured.{measured_at}
use Rattle.measure.specs.declared.measure.Measure.{Measure}
use Rattle.tools.specs.Clean.{AddsJust}
use Rattle.tools.specs.Moves.{RemovesOf}
use Rattle.ninja_asked.specs.declared.written.Parted.{Parted}

-- it stands for the records of this text; a damaged one has none
abbrev pub IsToldBy : List ℕ → Log → Type 0
IsToldBy text notes = (tail : Tail) × IsParsed forms Keeps text notes tail

-- it stands for some records
abbrev pub StandsForSome : Log → Type 0
StandsForSome notes = (all : List Note) × Keeps all notes

-- A file of this stamp and this size, of which this is noted, is another than noted, or it is noted as what somebody else wrote where a command
-- had made the path. A folder has no size, and is left out.
abbrev pub is_others_file : Noted → (stamp : ℕ) → (size : Option ℕ) → Bool
is_others_file noted stamp None = false
is_others_file noted stamp (Some size) = not (is_as_noted noted stamp size) || is_turned noted.kind

-- somebody else wrote what is found: something is noted of the path, a file is there, and it is such a one
abbrev pub is_others : Option Noted → Option Measure → Bool
is_others None found = false
is_others (Some noted) None = false
is_others (Some noted) (Some found) = is_others_file noted found.stamp found.size

-- so it is, or is not, of what stood at the path at some moment in between
abbrev pub WasFound : (tells : Bool) → World → World → Option Noted → List ℕ → Bool → Type 0
WasFound tells old new noted path written =
    (found : Option Measure) × (written ≡ is_others noted found) × (IsTrue tells → Sees (λ history. measured_at (file_at history path)) found old.history new.history)

-- the same by what is kept of the notes
abbrev pub FoundBy : (tells : Bool) → World → World → Log → List ℕ → Bool → Type 0
FoundBy tells old new notes path written = OfKept Keeps notes (λ all. WasFound tells old new (noted_in_force all path) path written)

-- one path more was told apart
pub record PartsOne (tells : Bool) (old new : World) (noted : Option Noted) (path : List ℕ) (before after : Parted) : Type 0 where
  pub written : Bool
  pub found : WasFound tells old new noted path written
  pub left : AddsJust before.left after.left (λ text. (text ≡ path) × (written ≡ false))
  pub others : AddsJust before.others after.others (λ text. (text ≡ path) × (written ≡ true))

abbrev pub PartsBy : (tells : Bool) → World → World → Log → List ℕ → (before after : Parted) → Type 0
PartsBy tells old new notes path before after = OfKept Keeps notes (λ all. PartsOne tells old new (noted_in_force all path) path before after)

-- the same, if there is one
abbrev pub PartsSome : (tells : Bool) → World → World → Log → Option (List ℕ) → (before after : Parted) → Type 0
PartsSome tells old new notes None before after = after ≡ before
PartsSome tells old new notes (Some path) before after = PartsBy tells old new notes path before after

-- Each of the paths is one of the others just where somebody else wrote what was found there, by what these records note; all else are left.
pub record AreParted (tells : Bool) (old new : World) (notes : List Note) (paths : List (List ℕ)) (parted : Parted) : Type 0 where
  pub found : (text : List ℕ) → has paths text ≡ true → WasFound tells old new (noted_in_force notes text) text (has parted.others text)
  pub among : (text : List ℕ) → has parted.others text ≡ true → has paths text ≡ true
  pub left : (text : List ℕ) → has parted.left text ≡ true ↔ ((has paths text ≡ true) × (has parted.others text ≡ false))

abbrev pub ArePartedBy : (tells : Bool) → World → World → Log → List (List ℕ) → Parted → Type 0
ArePartedBy tells old new notes paths parted = OfKept Keeps notes (λ all. AreParted tells old new all paths parted)

-- the paths were told apart, and then of those that are left some were removed, or only counted: none of the others
pub record RemovesLeft (tells only_count : Bool) (old new : World) (notes : Log) (paths others : List (List ℕ)) : Type 0 where
  pub mid : World
  pub parted : Parted
  pub told : ArePartedBy tells old mid notes paths parted
  pub kept : parted.others ≡ others
  pub removes : RemovesOf tells only_count parted.left mid new
