-- What is noted, and what is put behind the notes.
use Rattle.std.specs.Prelude.{◌≡◌, ◌⊎◌, ℕ, ◌==◌, Bool, true, false, List, [], ◌∷◌, ◌++◌, Option, Some, None, slice_get}
use Rattle.model.specs.Graph.{has}
use Rattle.model.specs.World.{World}
use Rattle.model.specs.Calls.{Appends, Writes}
use Rattle.seen_log.specs.declared.note.Kind.{Kind}
use Rattle.seen_log.specs.declared.note.Kind.TheVariants.{Made, Source}
use Rattle.seen_log.specs.declared.note.Last.{Last}
use Rattle.seen_log.specs.declared.note.Noted.{Noted}
use Rattle.seen_log.specs.Log.{Notes}
use Rattle.seen_true.specs.Counting.{absence, no_size}
use Rattle.seen.specs.declared.answer.Looked.{Looked}
use Rattle.seen.specs.declared.judging.Judged.{Judged}
use Rattle.seen.specs.declared.known.Known.{Known}
use Rattle.measure.specs.declared.measure.Measure.{Measure}
use Rattle.seen.specs.Judged.{left_number}

-- ---- the lines of what is to be noted

-- the text grew, or is the same
abbrev pub Grows : List ℕ → List ℕ → Type 0
Grows old new = (more : List ℕ) × (new ≡ old ++ more)

-- a file of this stamp and size is noted under the number, as of this kind; a folder is not
abbrev pub LineOf : Kind → (number : ℕ) → List ℕ → (stamp : ℕ) → Option ℕ → List ℕ → List ℕ → Type 0
LineOf kind number path stamp None old new = new ≡ old
LineOf kind number path stamp (Some size) old new = Notes path (record { kind = kind; stamp = stamp; size = size; number = number }) old new

-- what was found is noted under the number, if there is one, as of this kind
abbrev pub LinesOf : Kind → Option ℕ → List ℕ → Measure → List ℕ → List ℕ → Type 0
LinesOf kind None path found old new = new ≡ old
LinesOf kind (Some number) path found old new = LineOf kind number path found.stamp found.size old new

-- ---- the lines of what is absent

-- it is noted that nothing is there
abbrev pub is_absence : Noted → Bool
is_absence noted = noted.size == no_size

-- that is noted, unless it was before
abbrev pub AbsenceOf : (is_noted : Bool) → Kind → List ℕ → List ℕ → List ℕ → Type 0
AbsenceOf true kind path old new = new ≡ old
AbsenceOf false kind path old new = Notes path (absence kind) old new

-- nothing is found where nothing was noted before: that is noted of a source if there is a number for it
abbrev pub NeverOf : Option ℕ → List ℕ → List ℕ → List ℕ → Type 0
NeverOf None path old new = new ≡ old
NeverOf (Some number) path old new = Notes path (absence Source) old new

-- nothing is found where this was noted before: that is noted, as of the same kind
abbrev pub AwayOf : Option ℕ → Option Last → List ℕ → List ℕ → List ℕ → Type 0
AwayOf number None path old new = NeverOf number path old new
AwayOf number (Some last) path old new = AbsenceOf (is_absence last.noted) last.noted.kind path old new

-- its command has left nothing where this was noted before: that is noted, also where nothing was
abbrev pub UnmadeOf : Option Last → List ℕ → List ℕ → List ℕ → Type 0
UnmadeOf None path old new = Notes path (absence Made) old new
UnmadeOf (Some last) path old new = AbsenceOf (is_absence last.noted) Made path old new

-- ---- what is seen

-- what was found where this was noted before, and is judged so, is noted, or that it is absent
abbrev pub SeenOf : Option Measure → Judged → Option Last → List ℕ → List ℕ → List ℕ → Type 0
SeenOf None how last path old new = AwayOf how.number last path old new
SeenOf (Some found) how last path old new = LinesOf how.kind how.number path found old new

-- what its command left, which counts under this stamp, is noted so, or that it is absent
abbrev pub LeftOf : Option Measure → (counts : Option ℕ) → Option Last → List ℕ → List ℕ → List ℕ → Type 0
LeftOf None counts last path old new = UnmadeOf last path old new
LeftOf (Some found) counts last path old new = LinesOf Made (left_number counts found.stamp) path found old new

abbrev pub marked : Option Bool → Bool
marked None = false
marked (Some it) = it

-- the path of the record with this place was asked for
abbrev pub is_marked : List Bool → ℕ → Bool
is_marked asked place = marked (slice_get asked place)

-- the path, of which this was noted before, was noted or asked for in this build
abbrev pub settled_by : List Bool → List (List ℕ) → List ℕ → Option Last → Bool
settled_by asked fresh path None = has fresh path
settled_by asked fresh path (Some last) = is_marked asked last.place

abbrev pub is_settled : Known → List ℕ → Option Last → Bool
is_settled known path last = settled_by known.asked.items known.fresh path last

-- what was asked for in this build is not noted again
abbrev pub UnlessSettled : Bool → Looked → List ℕ → List ℕ → List ℕ → Type 0
UnlessSettled true looked path old new = new ≡ old
UnlessSettled false looked path old new = SeenOf looked.found looked.how looked.last path old new

-- ---- the file of the notes

-- the file is as it was, or holds something else
abbrev pub MayReplace : Bool → List ℕ → World → World → Type 0
MayReplace tells path old new = (new ≡ old) ⊎ ((base : List ℕ) × Writes tells path (Some base) old new)

-- the lines were put behind the file at the path, which may have been replaced before
pub record PutsBehind (tells : Bool) (path lines : List ℕ) (old new : World) : Type 0 where
  pub between : World
  pub before : MayReplace tells path old between
  pub puts : Appends tells path lines between new

-- so were these lines; where there are none nothing was done
abbrev pub PutsLines : Bool → List ℕ → List ℕ → World → World → Type 0
PutsLines tells path lines old new = ((lines ≡ []) × (new ≡ old)) ⊎ PutsBehind tells path lines old new
