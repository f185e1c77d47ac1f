-- What is noted before a record goes behind its log.
use Rattle.std.specs.Prelude.{ℕ, Bool, List, ◌++◌, Result, OnOk}
use Rattle.model.specs.World.{World}
use Rattle.model.specs.Calls.{Appends, OnlyLooks}
use Rattle.seen.specs.declared.counts.Counts.{Counts}
use Rattle.seen.specs.declared.known.Known.{Known}
use Rattle.seen.specs.Begun.{Begun, told_world}
use Rattle.seen.specs.Noting.{PutsLines}

-- what was noted before, and what was asked for then, was put behind the notes
pub record NotesFirst (tells : Bool) (b : Begun) (notes lines : List ℕ) (old new : World) : Type 0 where
  pub more : List ℕ
  pub asked : World
  pub looks : OnlyLooks tells (told_world tells b old) (told_world tells b asked)
  pub puts : PutsLines tells notes (lines ++ more) asked new

-- so it was, and only then the bytes went behind the file at the path
pub record IsNotedFirst (tells : Bool) (b : Begun) (notes lines path bytes : List ℕ) (old new : World) : Type 0 where
  pub noted : World
  pub first : NotesFirst tells b notes lines old noted
  pub appends : Appends tells path bytes (told_world tells b noted) (told_world tells b new)

-- ---- What calls say that are given a site: `world` tells the world of the site, which the call found as `old` and left as `new`.

-- by what is known, and what was noted in the build
abbrev pub NotesBefore : {S : Type 0} → Bool → Begun → (S → World) → Counts → Known → S → S → Type 0
NotesBefore tells b world known noted old new = NotesFirst tells b known.own.seen noted.lines.items (world old) (world new)

-- where all is well, the bytes follow what is noted
abbrev pub Follow : {S T E : Type 0} → Bool → Begun → (S → World) → Counts → Known → S → S → List ℕ → List ℕ → Result T E → Type 0
Follow tells b world known noted old new path bytes result = OnOk result (IsNotedFirst tells b known.own.seen noted.lines.items path bytes (world old) (world new))
