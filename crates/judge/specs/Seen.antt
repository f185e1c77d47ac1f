-- What was seen of paths.
use Rattle.std.specs.Prelude.{◌≡◌, ℕ, Bool, true, false, IsTrue, List, ◌++◌, slice_index_or, Option, Some, None}
use Rattle.model.specs.declared.event.Moment.{Moment}
use Rattle.model.specs.World.{World, file_at, stamp_of}
use Rattle.paths.specs.Told.{text_at}
use Rattle.judge.specs.declared.looks.Look.{Look}
use Rattle.judge.specs.declared.looks.Look.TheVariants.{Unasked, Absent, Stamp}

-- the files were these before a call and after it
pub record StaysAt (files : List Moment) (old new : World) : Type 0 where
  pub before : old.history ≡ files
  pub after : new.history ≡ files

-- so it is of the files, where the site tells them and they were the same before a call and after it
abbrev pub IfStays : Bool → World → World → (List Moment → Type 0) → Type 0
IfStays tells old new So = IsTrue tells → (files : List Moment) → StaysAt files old new → So files

abbrev pub look_at : List Look → ℕ → Look
look_at seen p = slice_index_or seen p Unasked

abbrev pub look_of : Option ℕ → Look
look_of None = Absent
look_of (Some stamp) = Stamp stamp

abbrev pub is_asked : Look → Bool
is_asked Unasked = false
is_asked Absent = true
is_asked (Stamp stamp) = true

-- what was asked for is known still
abbrev pub StaysKnown : List Look → List Look → Type 0
StaysKnown seen new = (p : ℕ) → is_asked (look_at seen p) ≡ true → look_at new p ≡ look_at seen p

-- each path that was asked for is as these files have it
abbrev pub AreSeen : List (List ℕ) → List Moment → List Look → Type 0
AreSeen paths files seen = (p : ℕ) → is_asked (look_at seen p) ≡ true → look_at seen p ≡ look_of (stamp_of (file_at files (text_at paths p)))

-- ---- while commands run

-- each path of the set keeps its file, whatever was written since
abbrev pub AreKept : (List ℕ → Bool) → List Moment → List Moment → Type 0
AreKept set old new =
    (p : List ℕ) → set p ≡ true → (earlier later : List Moment) → new ≡ old ++ (earlier ++ later) → file_at (old ++ earlier) p ≡ file_at old p

-- each path of the set that was asked for is as these files have it
abbrev pub AreSeenOf : (List ℕ → Bool) → List (List ℕ) → List Moment → List Look → Type 0
AreSeenOf set paths files seen =
    (p : ℕ) → is_asked (look_at seen p) ≡ true → set (text_at paths p) ≡ true → look_at seen p ≡ look_of (stamp_of (file_at files (text_at paths p)))

-- So it is of the files after a call, for each set of paths that kept their files in it, where the site tells them and what was
-- seen of these paths before is so.
abbrev pub IfKept : Bool → List (List ℕ) → World → World → List Look → ((List ℕ → Bool) → List Moment → Type 0) → Type 0
IfKept tells paths old new seen So =
    IsTrue tells → (set : List ℕ → Bool) → AreKept set old.history new.history → AreSeenOf set paths old.history seen → So set new.history

-- the stamp is that of the file at the path, where that is one of the set
abbrev pub IsStampIn : List ℕ → Option ℕ → (List ℕ → Bool) → List Moment → Type 0
IsStampIn path stamp set files = set path ≡ true → stamp ≡ stamp_of (file_at files path)

-- ---- paths that a graph got

-- what was seen is so of these paths where it was so of those before
pub record StaysSeen (before after : List (List ℕ)) (old new : List Look) : Type 0 where
  pub all : (files : List Moment) → AreSeen before files old → AreSeen after files new
  pub kept : (set : List ℕ → Bool) (files : List Moment) → AreSeenOf set before files old → AreSeenOf set after files new
